-- An entry that was not seen, and is marked: its identifier has no node, or the node accepts.
use Prim.Native.Nat.{ℕ, ◌+◌, ◌-◌, ◌≤◌, ◌<◌}
use native.Mathlib.Omega.{arith}
use mathlib.Core.Bool.{◌&&◌, not}
use mathlib.Core.List.{List, ◌++◌, reverse_aux}
use mathlib.Core.Option.{none}
use mathlib.Core.Path.{◌≡◌, refl, sym, ap, subst, ◌∙◌}
use lib.ListN.{length, get_or, set, take}
use lib.Seq.{slice}
use Rattle.model.specs.Limits.{most_identifiers}
use Rattle.model.specs.Lists.{list_if}
use Rattle.model.specs.Graph.{Node, node_at}
use Rattle.model.specs.State.{Record, no_record, has_record, records_errors, touch, function_of, State, accepts}
use Rattle.model.specs.Walks.{Item, Walk, pushes, missed, accept, step}
use Rattle.workspace.specs.Layout.{SEEN, BASE, VALUE, QUEUE, HANDED, MUTATIONS}
use Rattle.workspace.specs.Rows.{rows_of, value, row_f, row_b, Good, Kept}
use Rattle.workspace.specs.Graph.{value_of, own_node, graph_of_rows}
use Rattle.workspace.proofs.Rows.{rows_length}
use Rattle.workspace.proofs.Parts.{drop_more}
use Rattle.aliasing.specs.Pushes.{pushed_w, Room, deg}
use Rattle.writing.specs.Wrote.{Wrote}
use Rattle.aliasing.specs.Items.{item_of, queue_of}
use Rattle.aliasing.proofs.Sizes.{pushed_le}
use Rattle.aliasing.proofs.PushLaws.{pushed_part, pushed_kept}
use Rattle.aliasing.proofs.Items.{pushed_items, queue_push}
use Rattle.aliasing.specs.declared.mutation.Mutation.{Mutation}
use Rattle.aliasing.specs.Says.{mode_says, mutation_says}
use Rattle.aliasing.specs.State.{nodes_of, seen_of, levels, records_of, ends_of, state_of, bare}
use Rattle.aliasing.specs.Accepts.{accept_w, hand_w}
use Rattle.aliasing.specs.Potential.{phi}
use Rattle.aliasing.specs.Walks.{Shows, Ready, Stepped}
use Rattle.aliasing.proofs.Parts.{slice_below, slice_above, nodes_below, seen_below, seen_above, rows_below, rows_above, base_below, base_above, accept_kept, accept_nodes, nodes_length}
use Rattle.aliasing.proofs.Levels.{above_as}
use Rattle.aliasing.proofs.Records.{accept_records, accept-ends}
use Rattle.aliasing.proofs.Hands.{handed_is, hand_same, room_kept, records_length, handing_as}
use Rattle.aliasing.proofs.Cases.{step_misses, step-accepts}
use Rattle.aliasing.proofs.Entries.{last, place_at, kind_at, transitive_at, direction_at, state_same, graph_missing, graph_there, shows_to, marking, queue_is, Unseen}

module _ (m : Mutation) (base : ℕ) (ws : List ℕ) (top hand : ℕ) (ready : Ready base ws top hand) (more : QUEUE < top) (u : Unseen base ws top hand) where
  x_below : place_at ws top < most_identifiers
  x_below = omega arith

  k_below : kind_at ws top < 2
  k_below = omega arith

  abbrev marked : List ℕ
  marked = marking base ws top

  -- ---- missing
  module _ (none_there : get_or marked (VALUE + place_at ws top) 0 ≡ 0) where
    misses : (w : Walk) → Shows base ws top hand w → Shows base marked (top - 1) hand (step (mode_says m) (mutation_says m) w.queue w)
    unfolding item_of
    misses w s =
        shows_to (step (mode_says m) (mutation_says m) w.queue w) (missed (item_of (last ws top)) (queue_of (slice QUEUE (top - 1) ws)) w)
        (record {
          queue = ap queue_of (slice_above u.mark QUEUE (top - 1) (omega arith) (omega arith));
          seen = u.remembered w s marked u.marks;
          state = state_same ws marked hand hand (rows_above u.mark (omega arith)) (nodes_below u.mark (omega arith)) (slice_above u.mark HANDED hand (omega arith) ready.handing.low) ∙ s.state;
        })
        (step_misses (mode_says m) (mutation_says m) w (item_of (last ws top)) (queue_of (slice QUEUE (top - 1) ws)) (queue_is base ws top hand ready w s more) (u.higher w s)
        (ap (λ (t : State). node_at t.graph (place_at ws top)) (sym s.state) ∙ gone))
      where
        gone : node_at (state_of ws hand).graph (place_at ws top) ≡ none
        gone = graph_missing ws hand (place_at ws top) x_below (sym u.value_kept ∙ none_there)

    pub step_missing : Stepped m base ws top hand marked (top - 1) hand
    step_missing = record {
      follows = misses;
      ready = record {
        size = omega (arith, ready.size, u.mark.same);
        low = omega arith;
        good = subst Good (sym (rows_above u.mark (omega arith))) ready.good;
        fits = omega (arith, ready.fits, u.falls, phi-marked);
        few = ready.few;
        next = u.base_same ∙ ready.next;
        handing = handing_as ws marked hand (nodes_below u.mark (omega arith)) u.most ready.handing;
      };
      falls = omega (arith, u.falls, phi-marked);
      aside = record { graph = rows_above u.mark (omega arith); behind = drop_more BASE MUTATIONS marked ws (omega arith) u.mark.high; same = u.mark.same };
    }
      where
        phi-marked : phi (levels base (seen_of marked)) (rows_of marked) most_identifiers ≡ phi (set (levels base (seen_of ws)) (place_at ws top) (kind_at ws top + 1)) (rows_of ws) most_identifiers
        phi-marked =
            ap (λ (l : List ℕ). phi l (rows_of marked) most_identifiers) u.marks
            ∙ ap (λ (g : List ℕ). phi (set (levels base (seen_of ws)) (place_at ws top) (kind_at ws top + 1)) g most_identifiers) (rows_above u.mark (omega arith))

  -- ---- accepted: the function handed over, the fields written, the entries pushed
  module _ (ws_h : List ℕ) (h : ℕ) (ph : Wrote (hand_w marked (get_or marked (VALUE + place_at ws top) 0) (place_at ws top) m.should_record_errors) marked hand ws_h h) where
    abbrev records : List Record
    records = records_of (nodes_of ws)

    abbrev handing : List ℕ
    handing = list_if (records_errors (mode_says m) && not (has_record (get_or (records_of (nodes_of ws)) (place_at ws top) no_record))) (function_of (value_of (value (rows_of ws) (place_at ws top))))

    hands : hand_w marked (get_or marked (VALUE + place_at ws top) 0) (place_at ws top) m.should_record_errors ≡ handing
    unfolding nodes_of
    hands =
        hand_same marked (get_or marked (VALUE + place_at ws top) 0) (place_at ws top) m.should_record_errors x_below
        ∙ ap (λ (l : List ℕ). hand_w l (get_or marked (VALUE + place_at ws top) 0) (place_at ws top) m.should_record_errors) (nodes_below u.mark (omega arith))
        ∙ ap (λ (v : ℕ). hand_w (take SEEN ws) v (place_at ws top) m.should_record_errors) u.value_kept
        ∙ handed_is (take SEEN ws) (value (rows_of ws) (place_at ws top)) (place_at ws top) m x_below

    ph' : Wrote handing marked hand ws_h h
    ph' = subst (λ (vs : List ℕ). Wrote vs marked hand ws_h h) hands ph

    abbrev touched : List Record
    touched = set (records_of (nodes_of ws)) (place_at ws top) (touch (item_of (last ws top)).transitive (mutation_says m) (record { kind = (item_of (last ws top)).kind; span = m.span }) (get_or (records_of (nodes_of ws)) (place_at ws top) no_record))

    hand_room : h + bare touched ≤ MUTATIONS
    hand_room =
        omega (
          arith,
          ph'.next,
          ready.handing.room,
          room_kept (records_of (nodes_of ws)) (place_at ws top) (records_errors (mode_says m)) (value_of (value (rows_of ws) (place_at ws top))) (item_of (last ws top)).transitive (mutation_says m)
              (record { kind = (item_of (last ws top)).kind; span = m.span }) (omega (arith, records_length (nodes_of ws))),
        )

    kept_hand : Kept HANDED MUTATIONS marked ws_h
    kept_hand = pushed_kept HANDED MUTATIONS ph' ready.handing.low (omega (arith, hand_room))

    module _ (ws₂ : List ℕ) (is₂ : ws₂ ≡ accept_w ws_h (place_at ws top) (transitive_at ws top) (kind_at ws top + 1) m) where
      kept_fields : Kept 0 SEEN ws_h ws₂
      kept_fields = subst (Kept 0 SEEN ws_h) (sym is₂) (accept_kept ws_h (place_at ws top) (transitive_at ws top) (kind_at ws top + 1) m x_below)

      rows₂ : rows_of ws₂ ≡ rows_of ws
      rows₂ = rows_above kept_fields (omega arith) ∙ rows_below kept_hand (omega arith) ∙ rows_above u.mark (omega arith)

      length₂ : length ws₂ ≡ length ws
      length₂ = kept_fields.same ∙ kept_hand.same ∙ u.mark.same

      pub step_room : Room ws₂ (top - 1) (deg (rows_of ws₂) (place_at ws top))
      step_room = record {
        size = omega (arith, ready.size, length₂);
        low = omega arith;
        good = subst Good (sym rows₂) ready.good;
        room = omega (arith, u.falls, ready.fits, ap (λ (g : List ℕ). deg g (place_at ws top)) rows₂);
      }

      module _ (there : get_or marked (VALUE + place_at ws top) 0 ≡ 0 → ⊥) (ws₃ : List ℕ) (r : ℕ)
          (p : Wrote (pushed_w (rows_of ws₂) (place_at ws top) (direction_at ws top) m.index (transitive_at ws top) (kind_at ws top)) ws₂ (top - 1) ws₃ r) where
        abbrev pushed : List ℕ
        pushed = pushed_w (rows_of ws) (place_at ws top) (direction_at ws top) m.index (transitive_at ws top) (kind_at ws top)

        p' : Wrote pushed ws₂ (top - 1) ws₃ r
        p' = subst (λ (g : List ℕ). Wrote (pushed_w g (place_at ws top) (direction_at ws top) m.index (transitive_at ws top) (kind_at ws top)) ws₂ (top - 1) ws₃ r) rows₂ p

        few : length pushed ≤ deg (rows_of ws) (place_at ws top)
        few = pushed_le (rows_of ws) (rows_length ws ready.size) ready.good (place_at ws top) (direction_at ws top) m.index (transitive_at ws top) (kind_at ws top) x_below

        room : r ≤ HANDED
        room = omega (arith, p'.next, u.falls, few, ready.fits)

        kept_queue : Kept QUEUE HANDED ws₂ ws₃
        kept_queue = pushed_kept QUEUE HANDED p' (omega arith) room

        nodes₃ : nodes_of ws₃ ≡ accept_w (nodes_of ws) (place_at ws top) (transitive_at ws top) (kind_at ws top + 1) m
        nodes₃ =
            nodes_below kept_queue (omega arith) ∙ ap nodes_of is₂ ∙ accept_nodes ws_h (place_at ws top) (transitive_at ws top) (kind_at ws top + 1) m x_below
            ∙ ap (λ (l : List ℕ). accept_w l (place_at ws top) (transitive_at ws top) (kind_at ws top + 1) m) (nodes_below kept_hand (omega arith) ∙ nodes_below u.mark (omega arith))

        marks₃ : seen_of ws₃ ≡ seen_of marked
        marks₃ = seen_below kept_queue (omega arith) ∙ seen_above kept_fields (omega arith) ∙ seen_below kept_hand (omega arith)

        base₃ : get_or ws₃ BASE 0 ≡ get_or marked BASE 0
        base₃ = base_below kept_queue (omega arith) ∙ base_above kept_fields (omega arith) ∙ base_below kept_hand (omega arith)

        seen₃ : levels base (seen_of ws₃) ≡ set (levels base (seen_of ws)) (place_at ws top) (kind_at ws top + 1)
        seen₃ = ap (levels base) marks₃ ∙ u.marks

        rows₃ : rows_of ws₃ ≡ rows_of ws
        rows₃ = rows_below kept_queue (omega arith) ∙ rows₂

        queue₃ : slice QUEUE r ws₃ ≡ slice QUEUE (top - 1) ws ++ pushed
        queue₃ =
            pushed_part QUEUE p' (omega arith) (omega (arith, room, length₂, ready.size))
            ∙ ap (λ (q : List ℕ). q ++ pushed)
            (slice_above kept_fields QUEUE (top - 1) (omega arith) (omega arith) ∙ slice_below kept_hand QUEUE (top - 1) (omega (arith, ready.fits)) ∙ slice_above u.mark QUEUE (top - 1) (omega arith) (omega arith))

        handed₃ : slice HANDED h ws₃ ≡ slice HANDED hand ws ++ handing
        handed₃ =
            slice_above kept_queue HANDED h (omega arith) (omega (arith, ph'.next, ready.handing.low)) ∙ slice_above kept_fields HANDED h (omega arith) (omega (arith, ph'.next, ready.handing.low))
            ∙ pushed_part HANDED ph' ready.handing.low (omega (arith, hand_room, u.mark.same, ready.size))
            ∙ ap (λ (q : List ℕ). q ++ handing) (slice_above u.mark HANDED hand (omega arith) ready.handing.low)

        records₃ : records_of (nodes_of ws₃) ≡ touched
        unfolding item_of
        records₃ = ap records_of nodes₃ ∙ accept_records (nodes_of ws) (nodes_length ws ready.size) (place_at ws top) (kind_at ws top) x_below k_below m (transitive_at ws top)

        state₃ : state_of ws₃ h
            ≡ accepts (mode_says m) (mutation_says m) (place_at ws top) (value_of (value (rows_of ws) (place_at ws top))) (item_of (last ws top)).transitive (item_of (last ws top)).kind (state_of ws hand)
        unfolding state_of accepts mutation_says
        state₃ = λ j. record {
          graph = graph_of_rows (rows₃ j);
          records = records₃ j;
          ends = (ap ends_of nodes₃ ∙ accept-ends (nodes_of ws) (nodes_length ws ready.size) (place_at ws top) (transitive_at ws top) (kind_at ws top + 1) m x_below) j;
          handed = handed₃ j;
        }

        own_there : value (rows_of ws) (place_at ws top) ≡ 0 → ⊥
        own_there z = there (u.value_kept ∙ z)

        abbrev own : Node
        own = own_node (value (rows_of ws) (place_at ws top)) (row_f (rows_of ws)) (row_b (rows_of ws)) (place_at ws top)

        entries₃ : queue_of (slice QUEUE r ws₃) ≡ reverse_aux (pushes (mutation_says m).index own (item_of (last ws top))) (queue_of (slice QUEUE (top - 1) ws))
        unfolding item_of mutation_says
        entries₃ =
            ap queue_of queue₃ ∙ queue_push (slice QUEUE (top - 1) ws) pushed
            ∙ ap (λ (l : List Item). reverse_aux l (queue_of (slice QUEUE (top - 1) ws)))
            (pushed_items (rows_of ws) (place_at ws top) m.index (transitive_at ws top) (direction_at ws top) (kind_at ws top) (omega arith) (omega arith) (omega arith) (item_of (last ws top)) refl refl refl)

        accepts_it : (w : Walk) → Shows base ws top hand w → Shows base ws₃ r h (step (mode_says m) (mutation_says m) w.queue w)
        unfolding item_of
        accepts_it w s =
            shows_to (step (mode_says m) (mutation_says m) w.queue w) (accept (mode_says m) (mutation_says m) own (item_of (last ws top)) (queue_of (slice QUEUE (top - 1) ws)) w)
            (record {
              queue = entries₃;
              seen = u.remembered w s ws₃ seen₃;
              state = state₃ ∙ ap (accepts (mode_says m) (mutation_says m) (place_at ws top) (value_of (value (rows_of ws) (place_at ws top))) (item_of (last ws top)).transitive (item_of (last ws top)).kind) s.state;
            })
            (step-accepts (mode_says m) (mutation_says m) w (item_of (last ws top)) (queue_of (slice QUEUE (top - 1) ws)) (queue_is base ws top hand ready w s more) own (u.higher w s)
            (ap (λ (t : State). node_at t.graph (place_at ws top)) (sym s.state) ∙ graph_there ws hand (place_at ws top) x_below own_there))

        phi₃ : phi (levels base (seen_of ws₃)) (rows_of ws₃) most_identifiers ≡ phi (set (levels base (seen_of ws)) (place_at ws top) (kind_at ws top + 1)) (rows_of ws) most_identifiers
        phi₃ = ap (λ (l : List ℕ). phi l (rows_of ws₃) most_identifiers) seen₃ ∙ ap (λ (g : List ℕ). phi (set (levels base (seen_of ws)) (place_at ws top) (kind_at ws top + 1)) g most_identifiers) rows₃

        pub step_accepted : Stepped m base ws top hand ws₃ r h
        step_accepted = record {
          follows = accepts_it;
          ready = record {
            size = omega (arith, ready.size, length₂, kept_queue.same);
            low = omega (arith, p'.next);
            good = subst Good (sym rows₃) ready.good;
            fits = omega (arith, p'.next, few, u.falls, phi₃, ready.fits);
            few = ready.few;
            next = base₃ ∙ u.base_same ∙ ready.next;
            handing = record {
              low = omega (arith, ph'.next, ready.handing.low);
              marks = above_as marks₃ (omega (arith, base₃)) u.most;
              room = omega (arith, hand_room, ap bare records₃);
            };
          };
          falls = omega (arith, p'.next, few, u.falls, phi₃);
          aside = record {
            graph = rows₃;
            behind = drop_more HANDED MUTATIONS ws₃ ws₂ (omega arith) kept_queue.high ∙ drop_more SEEN MUTATIONS ws₂ ws_h (omega arith) kept_fields.high ∙ kept_hand.high ∙ drop_more BASE MUTATIONS marked ws (omega arith) u.mark.high;
            same = kept_queue.same ∙ length₂;
          };
        }
