-- One entry of a render walk taken: the three ways that a step ends.
use Prim.Native.Nat.{ℕ, ◌+◌, ◌-◌, ◌%◌, ◌≤◌, ◌<◌}
use native.Mathlib.Omega.{arith}
use mathlib.Core.Bool.{Bool, true, false, not}
use mathlib.Core.List.{List, [], ◌∷◌, ◌++◌, map, reverse_aux}
use mathlib.Core.Logic.{◌⊎◌, ⊎_map}
use mathlib.Core.Option.{none}
use mathlib.Core.Path.{◌≡◌, refl, sym, ap, subst, ◌∙◌}
use lib.ListN.{length, get_or, set, take}
use lib.Seq.{slice, get_or-set_other, get_or-take}
use lib.Dec.{eqb}
use Rattle.model.specs.Limits.{most_identifiers}
use Rattle.model.specs.Graph.{Node, node_at}
use Rattle.model.specs.State.{no_record, has_record, function_of, State}
use Rattle.model.specs.Renders.{RenderWalk, render_pushes, hand_over, pass_by, render_node, render_step}
use Rattle.workspace.specs.Layout.{RECORD, SEEN, BASE, VALUE, QUEUE, HANDED, MUTATIONS}
use Rattle.workspace.specs.Rows.{rows_of, value, row_f, row_b, Good, Kept}
use Rattle.workspace.specs.Graph.{value_of, own_node, graph_of_rows}
use Rattle.workspace.proofs.Rows.{value_at_lem, rows_length}
use Rattle.workspace.proofs.Parts.{drop_more}
use Rattle.aliasing.specs.Pushes.{Room, deg}
use Rattle.writing.specs.Wrote.{Wrote}
use Rattle.aliasing.proofs.PushLaws.{pushed_part, pushed_kept}
use Rattle.aliasing.specs.State.{nodes_of, seen_of, records_of, ends_of, state_of}
use Rattle.aliasing.specs.Accepts.{function_w}
use Rattle.aliasing.specs.Potential.{phi}
use Rattle.aliasing.proofs.Hands.{function_is}
use Rattle.aliasing.proofs.Parts.{slice_below, slice_above, nodes_below, seen_below, rows_below, rows_above, mark_kept, mark_seen, seen_at, seen_length}
use Rattle.aliasing.proofs.Potential.{phi_falls}
use Rattle.aliasing.proofs.Entries.{last, place_at, queue_last, state_same, graph_missing, graph_there}
use Rattle.renders.specs.Renders.{passes_w, origins_w, places_of, taken, Shows, unseen, Ready, Stepped}
use Rattle.renders.proofs.Origins.{origin_places, places_push, origins_le}
use Rattle.renders.proofs.Marks.{mark_at, mark_set, is_taken, not_taken, passes_true, passes_false, has_record_lem, unseen_falls, function-one}
use Rattle.renders.proofs.Cases.{skip_by, step_skips, step_passes, step-renders}

pub queue_head : (ws : List ℕ) (top : ℕ) → QUEUE < top → top ≤ length ws → places_of (slice QUEUE top ws) ≡ place_at ws top ∷ places_of (slice QUEUE (top - 1) ws)
queue_head ws top more fit = ap places_of (queue_last ws top more fit) ∙ places_push (slice QUEUE (top - 1) ws) (last ws top ∷ [])

shows_to : {ws : List ℕ} {top hand : ℕ} (w v : RenderWalk) → Shows ws top hand v → w ≡ v → Shows ws top hand w
shows_to {ws} {top} {hand} w v s p = subst (Shows ws top hand) (sym p) s

-- ---- the state by its parts
record_at_lem : (ws : List ℕ) (hand x : ℕ) → x < most_identifiers → has_record (get_or (state_of ws hand).records x no_record) ≡ not (eqb (get_or ws (RECORD + x) 0 % 16) 0)
unfolding state_of nodes_of
record_at_lem ws hand x h = has_record_lem (take SEEN ws) x h ∙ ap (λ (w : ℕ). not (eqb (w % 16) 0)) (get_or-take SEEN ws (RECORD + x) 0 (omega arith))

state_more : (ws ws' : List ℕ) (hand hand' : ℕ) (fs : List ℕ) → rows_of ws' ≡ rows_of ws → nodes_of ws' ≡ nodes_of ws → slice HANDED hand' ws' ≡ slice HANDED hand ws ++ fs → state_of ws' hand' ≡ hand_over fs (state_of ws hand)
unfolding state_of
state_more ws ws' hand hand' fs p q r = λ j. record { graph = graph_of_rows (p j); records = records_of (q j); ends = ends_of (q j); handed = r j }

module _ (index : ℕ) (ws : List ℕ) (top hand : ℕ) (ready : Ready ws top hand) (more : QUEUE < top) where
  fit : top ≤ length ws
  fit = omega (arith, ready.fits, ready.size)

  x_below : place_at ws top < most_identifiers
  x_below = omega arith

  module _ (w : RenderWalk) (s : Shows ws top hand w) where
    head : w.queue ≡ place_at ws top ∷ places_of (slice QUEUE (top - 1) ws)
    head = sym s.queue ∙ queue_head ws top more fit

    at_seen : get_or w.seen (place_at ws top) false ≡ taken (get_or ws (SEEN + place_at ws top) 0)
    at_seen = ap (λ (l : List Bool). get_or l (place_at ws top) false) (sym s.seen) ∙ mark_at (seen_of ws) (place_at ws top) ∙ ap taken (seen_at ws (place_at ws top) x_below)

  -- ---- taken before
  module _ (seen : 0 < get_or ws (SEEN + place_at ws top) 0) where
    skips : (w : RenderWalk) → Shows ws top hand w → Shows ws (top - 1) hand (render_step index w.queue w)
    skips w s =
        shows_to (render_step index w.queue w) (skip_by (places_of (slice QUEUE (top - 1) ws)) w) (record { queue = refl; seen = s.seen; state = s.state })
        (step_skips index w (place_at ws top) (places_of (slice QUEUE (top - 1) ws)) (head w s) (at_seen w s ∙ is_taken (get_or ws (SEEN + place_at ws top) 0) seen))

    pub step_seen : Stepped index ws top hand ws (top - 1) hand
    step_seen = record {
      follows = skips;
      ready = record { size = ready.size; low = omega arith; good = ready.good; fits = omega (arith, ready.fits); from = ready.from; room = ready.room };
      falls = omega arith;
      unmoved = record { nodes = refl; aside = record { graph = refl; behind = refl; same = refl } };
    }

  -- ---- taken for the first time
  module _ (first : get_or ws (SEEN + place_at ws top) 0 ≤ 0) where
    abbrev marked : List ℕ
    marked = set ws (SEEN + place_at ws top) 1

    mark : Kept SEEN BASE ws marked
    mark = mark_kept ws (place_at ws top) 1 x_below

    marks : seen_of marked ≡ set (seen_of ws) (place_at ws top) 1
    marks = mark_seen ws (place_at ws top) 1 x_below

    word_kept : (j : ℕ) → (j ≡ SEEN + place_at ws top → ⊥) → get_or marked j 0 ≡ get_or ws j 0
    word_kept j h = get_or-set_other ws (SEEN + place_at ws top) j 1 0 h

    value_kept : get_or marked (VALUE + place_at ws top) 0 ≡ value (rows_of ws) (place_at ws top)
    value_kept = word_kept (VALUE + place_at ws top) (λ e. omega (arith, e)) ∙ sym (value_at_lem ws ready.size (place_at ws top) x_below)

    passes_is : passes_w (get_or marked (VALUE + place_at ws top) 0) (get_or marked (RECORD + place_at ws top) 0) ≡ passes_w (value (rows_of ws) (place_at ws top)) (get_or ws (RECORD + place_at ws top) 0)
    passes_is =
        ap (λ (v : ℕ). passes_w v (get_or marked (RECORD + place_at ws top) 0)) value_kept
        ∙ ap (passes_w (value (rows_of ws) (place_at ws top))) (word_kept (RECORD + place_at ws top) (λ e. omega (arith, e)))

    not_seen : get_or (seen_of ws) (place_at ws top) 0 ≡ 0
    not_seen = omega (arith, seen_at ws (place_at ws top) x_below)

    falls_by : phi (set (seen_of ws) (place_at ws top) 1) (rows_of ws) most_identifiers + deg (rows_of ws) (place_at ws top) ≤ phi (seen_of ws) (rows_of ws) most_identifiers
    falls_by = phi_falls (seen_of ws) (rows_of ws) (place_at ws top) 1 most_identifiers x_below (omega (arith, seen_length ws ready.size)) (omega (arith, not_seen)) (omega arith)

    fewer : unseen (set (seen_of ws) (place_at ws top) 1) + 1 ≤ unseen (seen_of ws)
    fewer = unseen_falls (seen_of ws) (place_at ws top) (omega (arith, seen_length ws ready.size)) not_seen

    module _ (w : RenderWalk) (s : Shows ws top hand w) where
      fresh : get_or w.seen (place_at ws top) false ≡ false
      fresh = at_seen w s ∙ not_taken (get_or ws (SEEN + place_at ws top) 0) first

      remembered : map taken (set (seen_of ws) (place_at ws top) 1) ≡ set w.seen (place_at ws top) true
      remembered = mark_set (seen_of ws) (place_at ws top) ∙ ap (λ (l : List Bool). set l (place_at ws top) true) s.seen

    -- ---- passed by
    module _ (passed : passes_w (get_or marked (VALUE + place_at ws top) 0) (get_or marked (RECORD + place_at ws top) 0) ≡ true) where
      why : (node_at (state_of ws hand).graph (place_at ws top) ≡ none) ⊎ (has_record (get_or (state_of ws hand).records (place_at ws top) no_record) ≡ true)
      why =
          ⊎_map (λ (e : value (rows_of ws) (place_at ws top) ≡ 0). graph_missing ws hand (place_at ws top) x_below e)
          (λ (e : not (eqb (get_or ws (RECORD + place_at ws top) 0 % 16) 0) ≡ true). record_at_lem ws hand (place_at ws top) x_below ∙ e)
          (passes_true (value (rows_of ws) (place_at ws top)) (get_or ws (RECORD + place_at ws top) 0) (sym passes_is ∙ passed))

      passes : (w : RenderWalk) → Shows ws top hand w → Shows marked (top - 1) hand (render_step index w.queue w)
      passes w s =
          shows_to (render_step index w.queue w) (pass_by (place_at ws top) (places_of (slice QUEUE (top - 1) ws)) w)
          (record {
            queue = ap places_of (slice_above mark QUEUE (top - 1) (omega arith) (omega arith));
            seen = ap (map taken) marks ∙ remembered w s;
            state = state_same ws marked hand hand (rows_above mark (omega arith)) (nodes_below mark (omega arith)) (slice_above mark HANDED hand (omega arith) ready.from) ∙ s.state;
          })
          (step_passes index w (place_at ws top) (places_of (slice QUEUE (top - 1) ws)) (head w s) (fresh w s)
          (subst (λ (t : State). (node_at t.graph (place_at ws top) ≡ none) ⊎ (has_record (get_or t.records (place_at ws top) no_record) ≡ true)) s.state why))

      phi-marked : phi (seen_of marked) (rows_of marked) most_identifiers ≡ phi (set (seen_of ws) (place_at ws top) 1) (rows_of ws) most_identifiers
      phi-marked = ap (λ (l : List ℕ). phi l (rows_of marked) most_identifiers) marks ∙ ap (λ (g : List ℕ). phi (set (seen_of ws) (place_at ws top) 1) g most_identifiers) (rows_above mark (omega arith))

      pub step_passed : Stepped index ws top hand marked (top - 1) hand
      step_passed = record {
        follows = passes;
        ready = record {
          size = omega (arith, ready.size, mark.same);
          low = omega arith;
          good = subst Good (sym (rows_above mark (omega arith))) ready.good;
          fits = omega (arith, ready.fits, falls_by, phi-marked);
          from = ready.from;
          room = omega (arith, ready.room, fewer, ap unseen marks);
        };
        falls = omega (arith, falls_by, phi-marked);
        unmoved = record {
          nodes = nodes_below mark (omega arith);
          aside = record { graph = rows_above mark (omega arith); behind = drop_more BASE MUTATIONS marked ws (omega arith) mark.high; same = mark.same };
        };
      }

    -- ---- rendered: the function handed over, the entries pushed
    module _ (ws_h : List ℕ) (h : ℕ) (ph : Wrote (function_w (get_or marked (VALUE + place_at ws top) 0)) marked hand ws_h h) where
      hand_room : h + unseen (set (seen_of ws) (place_at ws top) 1) ≤ MUTATIONS
      hand_room = omega (arith, ph.next, function-one (get_or marked (VALUE + place_at ws top) 0), ready.room, fewer)

      kept_hand : Kept HANDED MUTATIONS marked ws_h
      kept_hand = pushed_kept HANDED MUTATIONS ph ready.from (omega (arith, hand_room))

      rows₁ : rows_of ws_h ≡ rows_of ws
      rows₁ = rows_below kept_hand (omega arith) ∙ rows_above mark (omega arith)

      length₁ : length ws_h ≡ length ws
      length₁ = kept_hand.same ∙ mark.same

      pub step_room : Room ws_h (top - 1) (deg (rows_of ws_h) (place_at ws top))
      step_room = record {
        size = omega (arith, ready.size, length₁);
        low = omega arith;
        good = subst Good (sym rows₁) ready.good;
        room = omega (arith, falls_by, ready.fits, ap (λ (g : List ℕ). deg g (place_at ws top)) rows₁);
      }

      module _ (passed : passes_w (get_or marked (VALUE + place_at ws top) 0) (get_or marked (RECORD + place_at ws top) 0) ≡ false)
          (ws₂ : List ℕ) (r : ℕ) (p : Wrote (origins_w (rows_of ws_h) (place_at ws top) index) ws_h (top - 1) ws₂ r) where
        abbrev pushed : List ℕ
        pushed = origins_w (rows_of ws) (place_at ws top) index

        p' : Wrote pushed ws_h (top - 1) ws₂ r
        p' = subst (λ (g : List ℕ). Wrote (origins_w g (place_at ws top) index) ws_h (top - 1) ws₂ r) rows₁ p

        few : length pushed ≤ deg (rows_of ws) (place_at ws top)
        few = origins_le (rows_of ws) (rows_length ws ready.size) ready.good (place_at ws top) index x_below

        room : r ≤ HANDED
        room = omega (arith, p'.next, falls_by, few, ready.fits)

        kept_queue : Kept QUEUE HANDED ws_h ws₂
        kept_queue = pushed_kept QUEUE HANDED p' (omega arith) room

        nodes₂ : nodes_of ws₂ ≡ nodes_of ws
        nodes₂ = nodes_below kept_queue (omega arith) ∙ nodes_below kept_hand (omega arith) ∙ nodes_below mark (omega arith)

        seen₂ : seen_of ws₂ ≡ set (seen_of ws) (place_at ws top) 1
        seen₂ = seen_below kept_queue (omega arith) ∙ seen_below kept_hand (omega arith) ∙ marks

        rows₂ : rows_of ws₂ ≡ rows_of ws
        rows₂ = rows_below kept_queue (omega arith) ∙ rows₁

        queue₂ : slice QUEUE r ws₂ ≡ slice QUEUE (top - 1) ws ++ pushed
        queue₂ =
            pushed_part QUEUE p' (omega arith) (omega (arith, room, length₁, ready.size))
            ∙ ap (λ (q : List ℕ). q ++ pushed) (slice_below kept_hand QUEUE (top - 1) (omega (arith, ready.fits)) ∙ slice_above mark QUEUE (top - 1) (omega arith) (omega arith))

        handed₂ : slice HANDED h ws₂ ≡ slice HANDED hand ws ++ function_of (value_of (value (rows_of ws) (place_at ws top)))
        handed₂ =
            slice_above kept_queue HANDED h (omega arith) (omega (arith, ph.next, ready.from))
            ∙ pushed_part HANDED ph ready.from (omega (arith, hand_room, mark.same, ready.size))
            ∙ ap (λ (q : List ℕ). q ++ function_w (get_or marked (VALUE + place_at ws top) 0)) (slice_above mark HANDED hand (omega arith) ready.from)
            ∙ ap (λ (v : ℕ). slice HANDED hand ws ++ function_w v) value_kept
            ∙ ap (λ (fs : List ℕ). slice HANDED hand ws ++ fs) (function_is (value (rows_of ws) (place_at ws top)))

        abbrev own : Node
        own = own_node (value (rows_of ws) (place_at ws top)) (row_f (rows_of ws)) (row_b (rows_of ws)) (place_at ws top)

        bare : (value (rows_of ws) (place_at ws top) ≡ 0 → ⊥) × (not (eqb (get_or ws (RECORD + place_at ws top) 0 % 16) 0) ≡ false)
        bare = passes_false (value (rows_of ws) (place_at ws top)) (get_or ws (RECORD + place_at ws top) 0) (sym passes_is ∙ passed)

        entries₂ : places_of (slice QUEUE r ws₂) ≡ reverse_aux (render_pushes index own) (places_of (slice QUEUE (top - 1) ws))
        entries₂ =
            ap places_of queue₂ ∙ places_push (slice QUEUE (top - 1) ws) pushed
            ∙ ap (λ (l : List ℕ). reverse_aux l (places_of (slice QUEUE (top - 1) ws))) (origin_places (rows_of ws) (place_at ws top) index)

        renders : (w : RenderWalk) → Shows ws top hand w → Shows ws₂ r h (render_step index w.queue w)
        renders w s =
            shows_to (render_step index w.queue w) (render_node index own (place_at ws top) (places_of (slice QUEUE (top - 1) ws)) w)
            (record {
              queue = entries₂;
              seen = ap (map taken) seen₂ ∙ remembered w s;
              state = state_more ws ws₂ hand h (function_of (value_of (value (rows_of ws) (place_at ws top)))) rows₂ nodes₂ handed₂
                  ∙ ap (hand_over (function_of (value_of (value (rows_of ws) (place_at ws top))))) s.state;
            })
            (step-renders index w (place_at ws top) (places_of (slice QUEUE (top - 1) ws)) (head w s) own (fresh w s)
            (ap (λ (t : State). node_at t.graph (place_at ws top)) (sym s.state) ∙ graph_there ws hand (place_at ws top) x_below bare.0)
            (ap (λ (t : State). has_record (get_or t.records (place_at ws top) no_record)) (sym s.state) ∙ record_at_lem ws hand (place_at ws top) x_below ∙ bare.1))

        phi₂ : phi (seen_of ws₂) (rows_of ws₂) most_identifiers ≡ phi (set (seen_of ws) (place_at ws top) 1) (rows_of ws) most_identifiers
        phi₂ = ap (λ (l : List ℕ). phi l (rows_of ws₂) most_identifiers) seen₂ ∙ ap (λ (g : List ℕ). phi (set (seen_of ws) (place_at ws top) 1) g most_identifiers) rows₂

        pub step-rendered : Stepped index ws top hand ws₂ r h
        step-rendered = record {
          follows = renders;
          ready = record {
            size = omega (arith, ready.size, length₁, kept_queue.same);
            low = omega (arith, p'.next);
            good = subst Good (sym rows₂) ready.good;
            fits = omega (arith, p'.next, few, falls_by, phi₂, ready.fits);
            from = omega (arith, ph.next, ready.from);
            room = omega (arith, hand_room, ap unseen seen₂);
          };
          falls = omega (arith, p'.next, few, falls_by, phi₂);
          unmoved = record {
            nodes = nodes₂;
            aside = record {
              graph = rows₂;
              behind = drop_more HANDED MUTATIONS ws₂ ws_h (omega arith) kept_queue.high ∙ kept_hand.high ∙ drop_more BASE MUTATIONS marked ws (omega arith) mark.high;
              same = kept_queue.same ∙ length₁;
            };
          };
        }
