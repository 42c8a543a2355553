-- The rows of the two logs: what the walks read is the graph that was built.
use Prim.Native.Nat.{ℕ, suc, ◌+◌, ◌*◌, ◌≤◌, ◌<◌}
use native.Mathlib.Omega.{arith}
use native.Mathlib.Numerals.{add-one}
use mathlib.Core.List.{List}
use mathlib.Core.Path.{◌≡◌, sym, ap, subst, ◌∙◌}
use lib.ListN.{length, get_or, take}
use lib.Seq.{slice}
use Rattle.model.specs.Limits.{most_identifiers}
use Rattle.workspace.specs.Layout.{LEAST, VALUE, FBOUND, FEDGE, BBOUND, BENTRY, QUEUE, EDGES, ENTRIES}
use Rattle.workspace.specs.Rows.{rows_of, most_lists, value, fb, bb, row_f, row_b, Good}
use Rattle.workspace.specs.Sort.{sel, low, Lay, log_of, Sorted}
use Rattle.workspace.specs.Graph.{node_of, graph_of_rows}
use Rattle.workspace.proofs.Parts.{slice_at, slice_take, take_less, take-word, drop_more, kept_at}
use Rattle.workspace.proofs.Counting.{kept_log, log_length, low-suc, low_le, low_zero, low_all}
use Rattle.workspace.proofs.Rows.{value_at_lem, f_word, b_word, fb_at, bb_at, row_f_at, row_b_at, keys₀, keys₁}
use Rattle.workspace.proofs.Tables.{tab-same}
use Rattle.workspace.proofs.Graph.{node-same}
use Rattle.building.specs.declared.Held.{Held}
use Rattle.building.specs.Logs.{graph_of_logs}
use Rattle.building.specs.Held.{values_of, graph_of, Room, Laid}

module _ (ws : List ℕ) (h : Held) (room : Room ws h) where
  E : List ℕ
  E = log_of ws EDGES h.edges

  N : List ℕ
  N = log_of ws ENTRIES h.entries

  E_length : length E ≡ h.edges
  unfolding E
  E_length = log_length ws EDGES h.edges (omega (arith, room.edges, room.size))

  N_length : length N ≡ h.entries
  unfolding N
  N_length = log_length ws ENTRIES h.entries (omega (arith, room.entries, room.size))

  pub lay_edges : Lay ws 0 FBOUND most_identifiers EDGES h.edges
  unfolding E
  lay_edges = record {
    few = room.edges;
    bounds = omega arith;
    after = omega (arith, room.edges);
    fits = omega (arith, room.edges, room.size);
    keys = low_all 0 most_identifiers keys₀ E ∙ E_length;
    small = omega arith;
  }

  module _ (ws₁ : List ℕ) (s₁ : Sorted ws 0 FBOUND most_identifiers EDGES h.edges ws₁) where
    log₁ : log_of ws₁ ENTRIES h.entries ≡ N
    unfolding N
    log₁ = kept_log s₁.kept ENTRIES h.entries (omega (arith, room.edges))

    pub lay_entries : Lay ws₁ 1 BBOUND most_lists ENTRIES h.entries
    lay_entries = record {
      few = room.entries;
      bounds = omega arith;
      after = omega (arith, room.entries);
      fits = omega (arith, room.entries, room.size, s₁.kept.same);
      keys = ap (low 1 most_lists) log₁ ∙ low_all 1 most_lists keys₁ N ∙ N_length;
      small = omega arith;
    }

    module _ (ws₂ : List ℕ) (s₂ : Sorted ws₁ 1 BBOUND most_lists ENTRIES h.entries ws₂) where
      long : LEAST ≤ length ws₂
      long = omega (arith, room.size, s₁.kept.same, s₂.kept.same)

      nodes : take FBOUND ws₂ ≡ take FBOUND ws
      nodes = take_less FBOUND BBOUND ws₂ ws₁ (omega arith) s₂.kept.low ∙ s₁.kept.low

      value_is_lem : (x : ℕ) → x < most_identifiers → value (rows_of ws₂) x ≡ get_or (values_of ws) x 0
      value_is_lem x q = value_at_lem ws₂ long x q ∙ take-word FBOUND (VALUE + x) ws ws₂ (omega (arith, q)) nodes ∙ sym (slice_at VALUE FBOUND x ws (omega (arith, q)))

      f_bound : (k : ℕ) → k ≤ most_identifiers → get_or ws₂ (FBOUND + k) 0 + low 0 k E ≡ h.edges
      unfolding E
      f_bound k q = omega (arith, kept_at s₂.kept (FBOUND + k) (omega arith), s₁.bounds k q)

      b_bound : (k : ℕ) → k ≤ most_lists → get_or ws₂ (BBOUND + k) 0 + low 1 k N ≡ h.entries
      b_bound k q = omega (arith, s₂.bounds k q, ap (low 1 k) log₁)

      f_all : get_or ws₂ FBOUND 0 ≡ h.edges
      f_all = omega (arith, f_bound 0 (omega arith), low_zero 0 E)

      b_all : get_or ws₂ BBOUND 0 ≡ h.entries
      b_all = omega (arith, b_bound 0 (omega arith), low_zero 1 N)

      fb_is : (k : ℕ) → k ≤ most_identifiers → fb (rows_of ws₂) k ≡ low 0 k E
      fb_is k q = omega (arith, fb_at ws₂ long k q, f_all, f_bound k q)

      bb_is : (k : ℕ) → k ≤ most_lists → bb (rows_of ws₂) k ≡ low 1 k N
      bb_is k q = omega (arith, bb_at ws₂ long k q, b_all, b_bound k q)

      next : (t k : ℕ) (l : List ℕ) → low t (k + 1) l ≡ low t (suc k) l
      next t k l = ap (λ (j : ℕ). low t j l) (add-one k)

      good : Good (rows_of ws₂)
      good = record {
        f_in = λ k q. omega (arith, f_word ws₂ long 0 (omega arith), f_all, f_word ws₂ long k q, f_bound k q);
        f_up = λ k q. omega (arith, fb_is k (omega (arith, q)), fb_is (k + 1) (omega (arith, q)), next 0 k E, low-suc 0 k E);
        f_top = λ k q. omega (arith, fb_is k q, low_le 0 k E, E_length, room.edges);
        b_in = λ k q. omega (arith, b_word ws₂ long 0 (omega arith), b_all, b_word ws₂ long k q, b_bound k q);
        b_up = λ k q. omega (arith, bb_is k (omega (arith, q)), bb_is (k + 1) (omega (arith, q)), next 1 k N, low-suc 1 k N);
        b_top = λ k q. omega (arith, bb_is k q, low_le 1 k N, N_length, room.entries);
      }

      s₁_rows : (x : ℕ) → x < most_identifiers → slice (FEDGE + low 0 x E) (FEDGE + low 0 (suc x) E) ws₁ ≡ sel 0 x E
      unfolding E
      s₁_rows x q = s₁.rows x q

      row-edges : (x : ℕ) → x < most_identifiers → row_f (rows_of ws₂) x ≡ sel 0 x E
      row-edges x q =
          sym (row_f_at ws₂ long x (low 0 x E) (low 0 (suc x) E) (sym (fb_is x (omega arith))) (sym (fb_is (x + 1) (omega arith) ∙ next 0 x E)) (omega (arith, low_le 0 (suc x) E, E_length, room.edges)))
          ∙ slice_take BBOUND (FEDGE + low 0 x E) (FEDGE + low 0 (suc x) E) ws₂ ws₁ (omega (arith, low_le 0 (suc x) E, E_length, room.edges)) s₂.kept.low
          ∙ s₁_rows x q

      row-entries : (k : ℕ) → k < most_lists → row_b (rows_of ws₂) k ≡ sel 1 k N
      row-entries k q =
          sym (row_b_at ws₂ long k (low 1 k N) (low 1 (suc k) N) (sym (bb_is k (omega arith))) (sym (bb_is (k + 1) (omega arith) ∙ next 1 k N)) (omega (arith, low_le 1 (suc k) N, N_length, room.entries)))
          ∙ subst (λ (l : List ℕ). slice (BENTRY + low 1 k l) (BENTRY + low 1 (suc k) l) ws₂ ≡ sel 1 k l) log₁ (s₂.rows k q)

      same-node : (x : ℕ) → x < most_identifiers → node_of (rows_of ws₂) (row_f (rows_of ws₂)) (row_b (rows_of ws₂)) x ≡ node_of (values_of ws) (λ y. sel 0 y E) (λ k. sel 1 k N) x
      unfolding value
      same-node x q =
          node-same (rows_of ws₂) (values_of ws) (row_f (rows_of ws₂)) (λ y. sel 0 y E) (row_b (rows_of ws₂)) (λ k. sel 1 k N) x (value_is_lem x q) (row-edges x q)
          (row-entries (4 * x) (omega arith)) (row-entries (4 * x + 1) (omega arith)) (row-entries (4 * x + 2) (omega arith)) (row-entries (4 * x + 3) (omega arith))

      same_graph : graph_of_rows (rows_of ws₂) ≡ graph_of ws h
      unfolding graph_of_rows graph_of graph_of_logs log_of E N
      same_graph =
          tab-same most_identifiers (node_of (rows_of ws₂) (row_f (rows_of ws₂)) (row_b (rows_of ws₂)))
          (node_of (values_of ws) (λ x. sel 0 x (slice EDGES (EDGES + h.edges) ws)) (λ k. sel 1 k (slice ENTRIES (ENTRIES + h.entries) ws))) same-node

      pub laid : Laid ws h ws₂
      laid = record {
        indexed = record { size = long; good = good };
        graph = same_graph;
        edges = fb_is most_identifiers (omega arith) ∙ low_all 0 most_identifiers keys₀ E ∙ E_length;
        entries = bb_is most_lists (omega arith) ∙ low_all 1 most_lists keys₁ N ∙ N_length;
        low = nodes;
        high = drop_more (BENTRY + h.entries) QUEUE ws₂ ws₁ (omega (arith, room.entries)) s₂.kept.high ∙ drop_more (FEDGE + h.edges) QUEUE ws₁ ws (omega (arith, room.edges)) s₁.kept.high;
        same = s₂.kept.same ∙ s₁.kept.same;
      }
