-- The words that the logs hold are the edges and the entries of the graph.
use Prim.Native.Nat.{ℕ, zero, suc, ◌+◌, ◌*◌, ◌≤◌, ◌<◌}
use native.Mathlib.Omega.{arith}
use native.Mathlib.Decide.{ℕ_discrete}
use mathlib.Core.Bool.{Bool, true, false}
use mathlib.Core.List.{List, [], ◌∷◌, ◌++◌, map}
use mathlib.Core.Option.{Option}
use mathlib.Core.Path.{◌≡◌, refl, sym, ap, ◌∙◌}
use lib.ListN.{length, get_or, length-map}
use lib.Seq.{length-slice}
use lib.Dec.{eqb}
use Rattle.model.specs.Limits.{most_identifiers, most_relations}
use Rattle.model.specs.Lists.{pick}
use Rattle.model.specs.Graph.{Node, Graph}
use Rattle.model.specs.Size.{node_edges, node_entries, edges, entries}
use Rattle.workspace.specs.Rows.{most_lists}
use Rattle.workspace.specs.Layout.{LEAST, EDGES, ENTRIES}
use Rattle.workspace.specs.Sort.{key_w, word_w, sel, cnt, low}
use Rattle.workspace.specs.Graph.{edge_row, entry_row, node_of, tab}
use Rattle.workspace.proofs.Counting.{low-suc, low_zero, low_all}
use Rattle.workspace.proofs.Rows.{keys₀, keys₁}
use Rattle.workspace.proofs.Graph.{node_some, node_none}
use Rattle.building.specs.declared.Held.{Held}
use Rattle.building.specs.Logs.{Logs, graph_of_logs, Clean}
use Rattle.building.specs.Held.{logs_of, graph_of}
use Rattle.building.proofs.Words.{sel_own, key_edge, key_entry}

edges_last : (g : Graph) (o : Option Node) → edges (g ++ (o ∷ [])) ≡ edges g + node_edges o
edges_last [] o = omega arith
edges_last (p ∷ g) o = omega (arith, edges_last g o)

entries_last : (g : Graph) (o : Option Node) → entries (g ++ (o ∷ [])) ≡ entries g + node_entries o
entries_last [] o = omega arith
entries_last (p ∷ g) o = omega (arith, entries_last g o)

sel-count : (t k : ℕ) (l : List ℕ) → length (sel t k l) ≡ cnt t k l
unfolding sel cnt
sel-count t k [] = refl
sel-count t k (w ∷ l) = go (sel-count t k l) (eqb (key_w t w) k)
  where
    go : length (sel t k l) ≡ cnt t k l → (b : Bool) → length (pick b (word_w t w ∷ sel t k l) (sel t k l)) ≡ pick b (suc (cnt t k l)) (cnt t k l)
    go ih true = ap suc ih
    go ih false = ih

module _ (s : Logs) (clean : Clean s) where
  abbrev node : ℕ → Option Node
  node = node_of s.values (λ y. sel 0 y s.edges) (λ k. sel 1 k s.entries)

  -- a missing node has no row
  no_edges : (x : ℕ) → x < most_identifiers → get_or s.values x 0 ≡ 0 → cnt 0 x s.edges ≡ 0
  no_edges x h e = sym (sel-count 0 x s.edges) ∙ ap length (ap (sel 0 x) (sym (clean.edges x h e)) ∙ sel_own 0 x x (λ w p. key_edge w x p) s.edges)

  no_entries : (x t : ℕ) → x < most_identifiers → t < 4 → get_or s.values x 0 ≡ 0 → cnt 1 (4 * x + t) s.entries ≡ 0
  no_entries x t h k e =
      sym (sel-count 1 (4 * x + t) s.entries)
      ∙ ap length (ap (sel 1 (4 * x + t)) (sym (clean.entries x h e)) ∙ sel_own 1 (4 * x + t) x (λ w p. key_entry w x t k p) s.entries)

  -- the four rows of a node, one after the other
  four : (x : ℕ) → low 1 (4 * suc x) s.entries ≡ low 1 (4 * x) s.entries + cnt 1 (4 * x + 0) s.entries + cnt 1 (4 * x + 1) s.entries + cnt 1 (4 * x + 2) s.entries + cnt 1 (4 * x + 3) s.entries
  four x =
      let e : 4 * suc x ≡ suc (4 * x + 3) = omega arith in
      let a : 4 * x + 3 ≡ suc (4 * x + 2) = omega arith in
      let b : 4 * x + 2 ≡ suc (4 * x + 1) = omega arith in
      let c : 4 * x + 1 ≡ suc (4 * x + 0) = omega arith in
      let d : 4 * x + 0 ≡ 4 * x = omega arith in
      let l : ℕ → ℕ = λ k. low 1 k s.entries in
      omega (arith, ap l e, low-suc 1 (4 * x + 3) s.entries, ap l a, low-suc 1 (4 * x + 2) s.entries, ap l b, low-suc 1 (4 * x + 1) s.entries, ap l c, low-suc 1 (4 * x + 0) s.entries, ap l d)

  edges_at : (x : ℕ) → x < most_identifiers → node_edges (node x) ≡ cnt 0 x s.edges
  edges_at x h = go (ℕ_discrete (get_or s.values x 0) 0)
    where
      go : Dec (get_or s.values x 0 ≡ 0) → node_edges (node x) ≡ cnt 0 x s.edges
      go (yes e) = ap node_edges (node_none s.values (λ y. sel 0 y s.edges) (λ k. sel 1 k s.entries) x e) ∙ sym (no_edges x h e)
      go (no e) = ap node_edges (node_some s.values (λ y. sel 0 y s.edges) (λ k. sel 1 k s.entries) x e) ∙ length-map (sel 0 x s.edges) edge_row ∙ sel-count 0 x s.edges

  row_count : (k : ℕ) → length (map entry_row (sel 1 k s.entries)) ≡ cnt 1 k s.entries
  row_count k = length-map (sel 1 k s.entries) entry_row ∙ sel-count 1 k s.entries

  first_count : (x : ℕ) → cnt 1 (4 * x) s.entries ≡ cnt 1 (4 * x + 0) s.entries
  first_count x = let d : 4 * x ≡ 4 * x + 0 = omega arith in ap (λ (k : ℕ). cnt 1 k s.entries) d

  entries_at : (x : ℕ) → x < most_identifiers → node_entries (node x) ≡ cnt 1 (4 * x + 0) s.entries + cnt 1 (4 * x + 1) s.entries + cnt 1 (4 * x + 2) s.entries + cnt 1 (4 * x + 3) s.entries
  entries_at x h = go (ℕ_discrete (get_or s.values x 0) 0)
    where
      go : Dec (get_or s.values x 0 ≡ 0) → node_entries (node x) ≡ cnt 1 (4 * x + 0) s.entries + cnt 1 (4 * x + 1) s.entries + cnt 1 (4 * x + 2) s.entries + cnt 1 (4 * x + 3) s.entries
      go (yes e) =
          let n : node_entries (node x) ≡ 0 = ap node_entries (node_none s.values (λ y. sel 0 y s.edges) (λ k. sel 1 k s.entries) x e) in
          omega (arith, n, no_entries x 0 h (omega arith) e, no_entries x 1 h (omega arith) e, no_entries x 2 h (omega arith) e, no_entries x 3 h (omega arith) e)
      go (no e) =
          ap node_entries (node_some s.values (λ y. sel 0 y s.edges) (λ k. sel 1 k s.entries) x e)
          ∙ (rw (row_count (4 * x), row_count (4 * x + 1), row_count (4 * x + 2), row_count (4 * x + 3)) (omega (arith, first_count x)))

  edges-below : (n : ℕ) → n ≤ most_identifiers → edges (tab n node) ≡ low 0 n s.edges
  unfolding tab
  edges-below zero h = sym (low_zero 0 s.edges)
  edges-below (suc n) h = omega (arith, edges_last (tab n node) (node n), edges-below n (omega arith), edges_at n h, low-suc 0 n s.edges)

  entries_below : (n : ℕ) → n ≤ most_identifiers → entries (tab n node) ≡ low 1 (4 * n) s.entries
  unfolding tab
  entries_below zero h = sym (low_zero 1 s.entries)
  entries_below (suc n) h = omega (arith, entries_last (tab n node) (node n), entries_below n (omega arith), entries_at n h, four n)

  pub logs_edges : edges (graph_of_logs s) ≡ length s.edges
  unfolding graph_of_logs
  logs_edges = edges-below most_identifiers (omega arith) ∙ low_all 0 most_identifiers keys₀ s.edges

  pub logs_entries : entries (graph_of_logs s) ≡ length s.entries
  unfolding graph_of_logs
  logs_entries = entries_below most_identifiers (omega arith) ∙ low_all 1 most_lists keys₁ s.entries

-- ---- in the workspace
module _ (ws : List ℕ) (h : Held) (clean : Clean (logs_of ws h)) (size : LEAST ≤ length ws) (few : h.edges ≤ most_relations) (few' : h.entries ≤ most_relations) where
  pub held_edges : edges (graph_of ws h) ≡ h.edges
  unfolding graph_of
  held_edges = logs_edges (logs_of ws h) clean ∙ length-slice EDGES (EDGES + h.edges) ws (omega (arith, size, few)) ∙ omega arith

  pub held_entries : entries (graph_of ws h) ≡ h.entries
  unfolding graph_of
  held_entries = logs_entries (logs_of ws h) clean ∙ length-slice ENTRIES (ENTRIES + h.entries) ws (omega (arith, size, few')) ∙ omega arith
