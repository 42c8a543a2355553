-- The logs under each write: an edge, an entry, a creation.
use Prim.Native.Nat.{ℕ, ◌+◌, ◌/◌, ◌%◌, ◌≤◌, ◌<◌, max}
use native.Mathlib.Omega.{arith}
use mathlib.Core.Bool.{Bool, true, false, not}
use mathlib.Core.List.{List, [], ◌∷◌, ◌++◌}
use mathlib.Core.Path.{◌≡◌, refl, sym, ap, subst, ◌∙◌}
use lib.ListN.{length, get_or, set, take, drop, length-set, length-append}
use lib.Seq.{get_or-set_same, get_or-set_other, slice, length-slice, take-set-le, drop-set-lt}
use borrow.Author.Tests.{eqb-true, not-true, not-false}
use lib.Dec.{eqb}
use Rattle.model.specs.Limits.{most_identifiers, most_relations}
use Rattle.model.specs.Graph.{Graph, has_node, create, with_edge, with_entry}
use Rattle.model.specs.Size.{edges, entries}
use Rattle.model.specs.Built.{held_in}
use Rattle.workspace.specs.Layout.{LEAST, VALUE, FBOUND, EDGES, ENTRIES, PHIS, MARKS}
use Rattle.workspace.specs.Graph.{MISSING, value_of, relation_of}
use Rattle.workspace.proofs.Parts.{take-word, drop_more, take_less, slice_take, slice_drop, slice_set_in, slice_push, slice_before, slice_after}
use Rattle.building.specs.declared.Held.{Held}
use Rattle.building.specs.Logs.{Logs, graph_of_logs, owner_w, without, Clean, any_w, once_w, create_l, edge_l, entry_l, edge_g, entry_g}
use Rattle.building.specs.Held.{values_of, has_value, logs_of, Marked, held_over, graph_of, Room, Builds, Left}
use Rattle.building.proofs.Graphs.{create-step, edge-step, entry_step}
use Rattle.building.proofs.Counts.{logs_edges, logs_entries, held_edges, held_entries}
use Rattle.building.proofs.Clean.{without_last, without_swap, clean_edge, clean_entry, clean_create, create_missing}
use Rattle.building.proofs.Holds.{logs_eq, marked-same, change_has, value-word, value_there, by_limit}

-- ---- a step on the logs that is a step on the graph
module _ (f : Logs → Logs) (F : Graph → Graph) (ws : List ℕ) (h : Held) (ws' : List ℕ) (r : Held) (is : logs_of ws' r ≡ f (logs_of ws h)) where
  graph_from : graph_of_logs (f (logs_of ws h)) ≡ F (graph_of_logs (logs_of ws h)) → graph_of ws' r ≡ F (graph_of ws h)
  unfolding graph_of
  graph_from q = ap graph_of_logs is ∙ q

  -- the counts are those of the graph, and `most` is the larger of what it was and of them, as long as it was within the limit
  builds_from : graph_of_logs (f (logs_of ws h)) ≡ F (graph_of_logs (logs_of ws h)) → Clean (f (logs_of ws h)) → LEAST ≤ length ws → r.edges ≤ most_relations → r.entries ≤ most_relations
      → h.most ≤ r.most → (h.most ≤ most_relations → r.most ≡ max h.most (max r.edges r.entries))
      → Marked ws' r.edges → take VALUE ws' ≡ take VALUE ws → drop PHIS ws' ≡ drop PHIS ws → length ws' ≡ length ws → Builds F ws h ws' r
  builds_from q c size e n l m marked low high same =
      let clean : Clean (logs_of ws' r) = subst Clean (sym is) c in
      let long : LEAST ≤ length ws' = omega (arith, size, same) in
      let g : graph_of ws' r ≡ F (graph_of ws h) = graph_from q in
      let held : held_in (F (graph_of ws h)) ≡ max r.edges r.entries =
      ap held_in (sym g) ∙ omega (arith, held_edges ws' r clean long e n, held_entries ws' r clean long e n) in
      record {
        graph = λ k. g;
        most = λ k. m (omega (arith, l, k)) ∙ ap (max h.most) (sym held);
        over = λ k. by_limit h.most (λ a. omega (arith, k, m a, held)) (λ a. omega (arith, a));
        nodes = λ x. ap (λ (y : Graph). has_node y x) g;
        room = record {
          size = long;
          edges = e;
          entries = n;
          held = λ k. let a = m (omega (arith, l, k)) in (omega (arith, a), omega (arith, a));
          clean = clean;
          marked = marked;
        };
        low = low;
        high = high;
        same = same;
      }

-- ---- an edge
own_edge : (w : ℕ) → owner_w 0 w ≡ w % 512
unfolding owner_w
own_edge w = refl

own_entry : (w : ℕ) → owner_w 1 w ≡ w / 512 % 512
unfolding owner_w
own_entry w = refl

-- what cannot be stored: nothing changes, and the definition would hold too much
over_builds : (F : Graph → Graph) (ws : List ℕ) (h : Held) → Room ws h → ((x : ℕ) → has_node (graph_of ws h) x ≡ has_node (F (graph_of ws h)) x) → most_relations < held_in (F (graph_of ws h)) → Builds F ws h ws (held_over h)
unfolding graph_of
over_builds F ws h room n k = record {
  graph = λ l. absurd (omega (arith, l));
  most = λ l. absurd (omega (arith, l));
  over = λ l. omega (arith, k);
  nodes = n;
  room = record { size = room.size; edges = room.edges; entries = room.entries; held = λ l. absurd (omega (arith, l)); clean = room.clean; marked = room.marked };
  low = refl;
  high = refl;
  same = refl;
}

module _ (ws : List ℕ) (h : Held) (w : ℕ) (room : Room ws h) (held : has_node (graph_of ws h) (w % 512) ≡ true) where
  edge_clean : Clean (edge_l w (logs_of ws h))
  edge_clean = clean_edge w (logs_of ws h) room.clean (λ e. value_there ws h (w % 512) (omega arith) held (ap (λ (x : ℕ). get_or (values_of ws) x 0) (sym (own_edge w)) ∙ e))

  abbrev one_edge : Held
  one_edge = record { edges = h.edges + 1; entries = h.entries; most = max h.most (h.edges + 1) }

  -- its word, and the mark
  abbrev edge_words : List ℕ
  edge_words = set (set ws (EDGES + h.edges) w) (MARKS + w % 512) 1

  edge_log : h.edges < most_relations → slice EDGES (EDGES + (h.edges + 1)) edge_words ≡ slice EDGES (EDGES + h.edges) ws ++ (w ∷ [])
  edge_log k = slice_before EDGES (EDGES + (h.edges + 1)) (MARKS + w % 512) 1 (set ws (EDGES + h.edges) w) (omega arith) (omega arith) ∙ slice_push EDGES h.edges w ws (omega (arith, room.size, k))

  edge_logs : h.edges < most_relations → logs_of edge_words one_edge ≡ edge_l w (logs_of ws h)
  unfolding edge_l
  edge_logs k =
      logs_eq (slice_after VALUE FBOUND (MARKS + w % 512) 1 (set ws (EDGES + h.edges) w) (omega arith) ∙ slice_after VALUE FBOUND (EDGES + h.edges) w ws (omega arith))
      (edge_log k)
      (slice_before ENTRIES (ENTRIES + h.entries) (MARKS + w % 512) 1 (set ws (EDGES + h.edges) w) (omega arith) (omega arith) ∙ slice_before ENTRIES (ENTRIES + h.entries) (EDGES + h.edges) w ws (omega (arith, k)) (omega arith))

  edge-marked : h.edges < most_relations → Marked edge_words (h.edges + 1)
  edge-marked k x below z =
      let size : MARKS + w % 512 < length (set ws (EDGES + h.edges) w) = omega (arith, room.size, length-set ws (EDGES + h.edges) w) in
      let other : w % 512 ≡ x → ⊥ = λ e. absurd (omega (arith, sym (get_or-set_same (set ws (EDGES + h.edges) w) (MARKS + w % 512) 1 0 size) ∙ ap (λ (y : ℕ). get_or edge_words (MARKS + y) 0) e ∙ z)) in
      let old : get_or ws (MARKS + x) 0 ≡ 0 =
      sym (get_or-set_other ws (EDGES + h.edges) (MARKS + x) w 0 (omega (arith, below))) ∙ sym (get_or-set_other (set ws (EDGES + h.edges) w) (MARKS + w % 512) (MARKS + x) 1 0 (λ e. other (omega (arith, e)))) ∙ z in
      ap (without 0 x) (edge_log k) ∙ without_last 0 x w (λ e. other (sym (own_edge w) ∙ e)) (slice EDGES (EDGES + h.edges) ws)
      ∙ ap (λ (l : List ℕ). l ++ (w ∷ [])) (room.marked x below old) ∙ sym (edge_log k)

  edge_builds : h.edges < most_relations → Builds (edge_g w) ws h edge_words one_edge
  edge_builds k =
      builds_from (edge_l w) (edge_g w) ws h _ _ (edge_logs k) (edge-step w (logs_of ws h)) edge_clean room.size (omega (arith, k)) room.entries (omega arith)
      (λ a. omega (arith, (room.held a).1)) (edge-marked k)
      (take-set-le VALUE (set ws (EDGES + h.edges) w) (MARKS + w % 512) 1 (omega arith) ∙ take-set-le VALUE ws (EDGES + h.edges) w (omega arith))
      (drop-set-lt PHIS (set ws (EDGES + h.edges) w) (MARKS + w % 512) 1 (omega arith) ∙ drop-set-lt PHIS ws (EDGES + h.edges) w (omega (arith, k)))
      (length-set (set ws (EDGES + h.edges) w) (MARKS + w % 512) 1 ∙ length-set ws (EDGES + h.edges) w)

  edge-over : most_relations ≤ h.edges → Builds (edge_g w) ws h ws (held_over h)
  unfolding graph_of edge_l
  edge-over k =
      over_builds (edge_g w) ws h room (λ x. sym (change_has (w % 512) (with_edge (relation_of (w / 262144 % 4)) (w / 1048576) (w / 512 % 512)) (graph_of ws h) x))
      (omega (arith, k, sym (logs_edges (edge_l w (logs_of ws h)) edge_clean) ∙ ap edges (edge-step w (logs_of ws h)), length-append (slice EDGES (EDGES + h.edges) ws) (w ∷ []), length-slice EDGES (EDGES + h.edges) ws (omega (arith, room.size, room.edges))))

  -- as the code has them
  pub edge_full : most_relations ≤ h.edges → {r : Held} → r ≡ held_over h → Builds (edge_g w) ws h ws r
  edge_full k e = subst (λ (x : Held). Builds (edge_g w) ws h ws x) (sym e) (edge-over k)

  pub edge-stored : h.edges < most_relations → {m : ℕ} → m ≡ max h.most (h.edges + 1) → Builds (edge_g w) ws h edge_words (record { edges = h.edges + 1; entries = h.entries; most = m })
  edge-stored k e = subst (λ (m : ℕ). Builds (edge_g w) ws h edge_words (record { edges = h.edges + 1; entries = h.entries; most = m })) (sym e) (edge_builds k)

-- ---- an entry
module _ (ws : List ℕ) (h : Held) (w : ℕ) (room : Room ws h) (held : has_node (graph_of ws h) (w / 512 % 512) ≡ true) where
  once_new : any_w w (slice ENTRIES (ENTRIES + h.entries) ws) ≡ false → once_w w (slice ENTRIES (ENTRIES + h.entries) ws) ≡ slice ENTRIES (ENTRIES + h.entries) ws ++ (w ∷ [])
  unfolding once_w
  once_new e = rw e

  once_old : any_w w (slice ENTRIES (ENTRIES + h.entries) ws) ≡ true → once_w w (slice ENTRIES (ENTRIES + h.entries) ws) ≡ slice ENTRIES (ENTRIES + h.entries) ws
  unfolding once_w
  once_old e = rw e

  still_clean : Clean (entry_l w (logs_of ws h))
  still_clean = clean_entry w (logs_of ws h) room.clean (λ e. value_there ws h (w / 512 % 512) (omega arith) held (ap (λ (x : ℕ). get_or (values_of ws) x 0) (sym (own_entry w)) ∙ e))

  abbrev one_entry : Held
  one_entry = record { edges = h.edges; entries = h.entries + 1; most = max h.most (h.entries + 1) }

  entry_logs : any_w w (slice ENTRIES (ENTRIES + h.entries) ws) ≡ false → h.entries < most_relations → logs_of (set ws (ENTRIES + h.entries) w) one_entry ≡ entry_l w (logs_of ws h)
  unfolding entry_l
  entry_logs e k =
      logs_eq (slice_after VALUE FBOUND (ENTRIES + h.entries) w ws (omega arith))
      (slice_after EDGES (EDGES + h.edges) (ENTRIES + h.entries) w ws (omega (arith, room.edges)))
      (slice_push ENTRIES h.entries w ws (omega (arith, room.size, k)) ∙ sym (once_new e))

  entry_builds : any_w w (slice ENTRIES (ENTRIES + h.entries) ws) ≡ false → h.entries < most_relations → Builds (entry_g w) ws h (set ws (ENTRIES + h.entries) w) one_entry
  entry_builds e k =
      builds_from (entry_l w) (entry_g w) ws h _ _ (entry_logs e k) (entry_step w (logs_of ws h)) still_clean room.size room.edges (omega (arith, k)) (omega arith)
      (λ a. omega (arith, (room.held a).0))
      (marked-same ws (set ws (ENTRIES + h.entries) w) h.edges (λ x b. get_or-set_other ws (ENTRIES + h.entries) (MARKS + x) w 0 (omega (arith, b))) (slice_after EDGES (EDGES + h.edges) (ENTRIES + h.entries) w ws (omega (arith, room.edges))) room.marked)
      (take-set-le VALUE ws (ENTRIES + h.entries) w (omega arith)) (drop-set-lt PHIS ws (ENTRIES + h.entries) w (omega (arith, k))) (length-set ws (ENTRIES + h.entries) w)

  entry_over : any_w w (slice ENTRIES (ENTRIES + h.entries) ws) ≡ false → most_relations ≤ h.entries → Builds (entry_g w) ws h ws (held_over h)
  unfolding graph_of entry_l
  entry_over e k =
      over_builds (entry_g w) ws h room (λ x. sym (change_has (w / 512 % 512) (with_entry (relation_of (w / 262144 % 4)) (w / 1048576) (w % 512)) (graph_of ws h) x))
      (omega (
        arith,
        k,
        sym (logs_entries (entry_l w (logs_of ws h)) still_clean) ∙ ap entries (entry_step w (logs_of ws h)),
        ap length (once_new e),
        length-append (slice ENTRIES (ENTRIES + h.entries) ws) (w ∷ []),
        length-slice ENTRIES (ENTRIES + h.entries) ws (omega (arith, room.size, room.entries)),
      ))

  entry_same : any_w w (slice ENTRIES (ENTRIES + h.entries) ws) ≡ true → logs_of ws h ≡ entry_l w (logs_of ws h)
  unfolding entry_l
  entry_same e = logs_eq refl refl (sym (once_old e))

  pub entry_kept : any_w w (slice ENTRIES (ENTRIES + h.entries) ws) ≡ true → Builds (entry_g w) ws h ws h
  entry_kept e =
      builds_from (entry_l w) (entry_g w) ws h ws h (entry_same e) (entry_step w (logs_of ws h)) still_clean room.size room.edges room.entries (omega arith)
      (λ a. omega (arith, (room.held a).0, (room.held a).1)) room.marked refl refl refl

  -- as the code has them
  pub entry_full : any_w w (slice ENTRIES (ENTRIES + h.entries) ws) ≡ false → most_relations ≤ h.entries → {r : Held} → r ≡ held_over h → Builds (entry_g w) ws h ws r
  entry_full e k f = subst (λ (x : Held). Builds (entry_g w) ws h ws x) (sym f) (entry_over e k)

  pub entry_stored : any_w w (slice ENTRIES (ENTRIES + h.entries) ws) ≡ false → h.entries < most_relations → {m : ℕ} → m ≡ max h.most (h.entries + 1)
      → Builds (entry_g w) ws h (set ws (ENTRIES + h.entries) w) (record { edges = h.edges; entries = h.entries + 1; most = m })
  entry_stored e k f = subst (λ (m : ℕ). Builds (entry_g w) ws h (set ws (ENTRIES + h.entries) w) (record { edges = h.edges; entries = h.entries + 1; most = m })) (sym f) (entry_builds e k)

-- ---- a creation
pub no_value : (ws : List ℕ) (x : ℕ) {t : Bool} → t ≡ has_value ws x → not t ≡ true → get_or ws (VALUE + x) 0 ≡ MISSING
no_value ws x {t} e p = eqb-true (get_or ws (VALUE + x) 0) MISSING (not-false (eqb (get_or ws (VALUE + x) 0) MISSING) (sym e ∙ not-true t p))

module _ (ws : List ℕ) (h : Held) (x v : ℕ) (room : Room ws h) (below : x < most_identifiers) (nonzero : MISSING < v) where
  wide : x < length (values_of ws)
  wide = omega (arith, length-slice VALUE FBOUND ws (omega (arith, room.size)))

  step : graph_of_logs (create_l x v (logs_of ws h)) ≡ create x (value_of v) (graph_of_logs (logs_of ws h))
  step = create-step x v (logs_of ws h) wide (omega arith)

  cleaned : Clean (create_l x v (logs_of ws h))
  cleaned = clean_create x v (logs_of ws h) room.clean wide (omega arith)

  -- of a missing node: one write
  new_logs : get_or ws (VALUE + x) 0 ≡ MISSING → logs_of (set ws (VALUE + x) v) h ≡ create_l x v (logs_of ws h)
  new_logs e =
      logs_eq (slice_set_in VALUE FBOUND x ws v (omega arith))
      (slice_before EDGES (EDGES + h.edges) (VALUE + x) v ws (omega arith) (omega arith))
      (slice_before ENTRIES (ENTRIES + h.entries) (VALUE + x) v ws (omega arith) (omega arith))
      ∙ sym (create_missing x v (logs_of ws h) room.clean below (value-word ws h x below ∙ e))

  pub create_new : get_or ws (VALUE + x) 0 ≡ MISSING → Builds (create x (value_of v)) ws h (set ws (VALUE + x) v) h
  create_new e =
      builds_from (create_l x v) (create x (value_of v)) ws h _ _ (new_logs e) step cleaned room.size room.edges room.entries (omega arith)
      (λ a. omega (arith, (room.held a).0, (room.held a).1))
      (marked-same ws (set ws (VALUE + x) v) h.edges (λ y b. get_or-set_other ws (VALUE + x) (MARKS + y) v 0 (omega arith)) (slice_before EDGES (EDGES + h.edges) (VALUE + x) v ws (omega arith) (omega arith)) room.marked)
      (take-set-le VALUE ws (VALUE + x) v (omega arith)) (drop-set-lt PHIS ws (VALUE + x) v (omega arith)) (length-set ws (VALUE + x) v)

  module _ (ws₁ : List ℕ) (e : ℕ) (l₁ : Left 0 EDGES h.edges x ws ws₁ e) (ws₂ : List ℕ) (n : ℕ) (l₂ : Left 1 ENTRIES h.entries x ws₁ ws₂ n) where
    values₂ : values_of ws₂ ≡ values_of ws
    values₂ =
        slice_take ENTRIES VALUE FBOUND ws₂ ws₁ (omega arith) l₂.kept.low
        ∙ slice_take EDGES VALUE FBOUND ws₁ ws (omega arith) l₁.kept.low

    edges₂ : slice EDGES (EDGES + e) ws₂ ≡ without 0 x (slice EDGES (EDGES + h.edges) ws)
    edges₂ = slice_take ENTRIES EDGES (EDGES + e) ws₂ ws₁ (omega (arith, l₁.few, room.edges)) l₂.kept.low ∙ l₁.log

    edges₃ : slice EDGES (EDGES + e) (set ws₂ (VALUE + x) v) ≡ without 0 x (slice EDGES (EDGES + h.edges) ws)
    edges₃ = slice_before EDGES (EDGES + e) (VALUE + x) v ws₂ (omega arith) (omega arith) ∙ edges₂

    marked₃ : Marked (set ws₂ (VALUE + x) v) e
    marked₃ y b z =
        let old : get_or ws (MARKS + y) 0 ≡ 0 =
        sym (get_or-set_other ws₂ (VALUE + x) (MARKS + y) v 0 (omega arith) ∙ take-word ENTRIES (MARKS + y) ws₁ ws₂ (omega arith) l₂.kept.low ∙ take-word EDGES (MARKS + y) ws ws₁ (omega arith) l₁.kept.low) ∙ z in
        ap (without 0 y) edges₃ ∙ without_swap 0 y x (slice EDGES (EDGES + h.edges) ws) ∙ ap (without 0 x) (room.marked y b old) ∙ sym edges₃

    entries₁ : slice ENTRIES (ENTRIES + h.entries) ws₁ ≡ slice ENTRIES (ENTRIES + h.entries) ws
    entries₁ = slice_drop (EDGES + h.edges) ENTRIES (ENTRIES + h.entries) ws₁ ws (omega (arith, room.edges)) (omega arith) l₁.kept.high

    again_logs : logs_of (set ws₂ (VALUE + x) v) (record { edges = e; entries = n; most = h.most }) ≡ create_l x v (logs_of ws h)
    unfolding create_l
    again_logs =
        logs_eq (slice_set_in VALUE FBOUND x ws₂ v (omega arith) ∙ ap (λ (l : List ℕ). set l x v) values₂)
        edges₃
        (slice_before ENTRIES (ENTRIES + n) (VALUE + x) v ws₂ (omega arith) (omega arith) ∙ l₂.log ∙ ap (without 1 x) entries₁)

    pub create_again : Builds (create x (value_of v)) ws h (set ws₂ (VALUE + x) v) (record { edges = e; entries = n; most = h.most })
    create_again =
        builds_from (create_l x v) (create x (value_of v)) ws h _ _ again_logs step cleaned room.size (omega (arith, l₁.few, room.edges)) (omega (arith, l₂.few, room.entries)) (omega arith)
        (λ a. omega (arith, l₁.few, l₂.few, (room.held a).0, (room.held a).1)) marked₃
        (take-set-le VALUE ws₂ (VALUE + x) v (omega arith) ∙ take_less VALUE ENTRIES ws₂ ws₁ (omega arith) l₂.kept.low ∙ take_less VALUE EDGES ws₁ ws (omega arith) l₁.kept.low)
        (drop-set-lt PHIS ws₂ (VALUE + x) v (omega arith)
        ∙ drop_more (ENTRIES + h.entries) PHIS ws₂ ws₁ (omega (arith, room.entries)) l₂.kept.high
        ∙ drop_more (EDGES + h.edges) PHIS ws₁ ws (omega (arith, room.edges)) l₁.kept.high)
        (length-set ws₂ (VALUE + x) v ∙ l₂.kept.same ∙ l₁.kept.same)
