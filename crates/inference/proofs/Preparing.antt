-- A sheet that was built stands in the workspace as the walks ask for it.
use Prim.Native.Nat.{ℕ, ◌+◌, ◌-◌, ◌≤◌, ◌<◌}
use native.Mathlib.Omega.{arith}
use native.Mathlib.Decide.{dec_lt}
use mathlib.Core.Path.{◌≡◌, refl, sym, subst, ap, ◌∙◌}
use mathlib.Core.List.{List, ◌++◌, map}
use lib.ListN.{length, get_or, take, replicate, length-replicate, length-append, length-map, get_or-replicate, get_or-append}
use lib.Seq.{sets, length-sets, ext_get_or, get_or-append-add}
use lib.Dec.{ltb}
use borrow.Author.Tests.{lt-ltb, le-ltb}
use Rattle.model.specs.Limits.{most_identifiers, most_relations, most_order}
use Rattle.model.specs.Lists.{pick, Every}
use Rattle.model.specs.Sheet.{Identifier, Sheet}
use Rattle.model.specs.Mutation.{Mutation}
use Rattle.model.specs.Built.{Built}
use Rattle.model.specs.Building.{build}
use Rattle.model.specs.Summary.{sheet_ends, built}
use Rattle.model.specs.Ranges.{SheetBelow}
use Rattle.model.specs.Call.{applies}
use Rattle.workspace.specs.Layout.{LEAST, END, SEEN, FBOUND, QUEUE, MUTATIONS, RENDERS, FUNCTIONS}
use Rattle.workspace.specs.Rows.{rows_of, Kept}
use Rattle.workspace.specs.Graph.{tab, graph_of_rows}
use Rattle.workspace.specs.Pending.{mutations_of}
use Rattle.workspace.proofs.Parts.{drop_more, take_less, take-word, slice_at, slice_sets}
use Rattle.workspace.proofs.Tables.{tab-length, tab_at}
use Rattle.workspace.proofs.Pending.{mutations_kept, renders_kept}
use Rattle.building.specs.declared.Building.{Building}
use Rattle.building.specs.Built.{index_of, built_of, LaysOut}
use Rattle.aliasing.specs.State.{nodes_of, end_at, ends_of}
use Rattle.aliasing.proofs.New.{state_new}
use Rattle.aliasing.proofs.Parts.{rows_above}
use Rattle.aliasing.proofs.Walks.{indexed-after}
use Rattle.dataflow.specs.Whole.{Whole}
use Rattle.dataflow.specs.declared.function.HirFunction.{HirFunction}
use Rattle.dataflow.specs.Function.{Describes, Stands}
use Rattle.dataflow.proofs.Described.{limited}
use Rattle.dataflow.proofs.Standing.{stands_kept}
use Rattle.inference.specs.Whole.{Keeps, Prepared}
use Rattle.inference.proofs.Orders.{orders}

-- ---- the sheet's ends
module _ (ids : List Identifier) (few : length ids ≤ most_identifiers) (ws₀ : List ℕ) (size : LEAST ≤ length ws₀) (ws : List ℕ)
    (low : take SEEN ws ≡ take SEEN (sets ws₀ END (map (λ (i : Identifier). i.end) ids))) where
  abbrev ends : List ℕ
  ends = map (λ (i : Identifier). i.end) ids

  count : length ends ≡ length ids
  count = length-map ids (λ (i : Identifier). i.end)

  end_word : (x : ℕ) → x < length ids → get_or ws (END + x) 0 ≡ get_or ends x 0
  end_word x h =
      let k : END + length ends ≤ length (sets ws₀ END ends) = omega (arith, count, few, size, length-sets ws₀ END ends) in
      take-word SEEN (END + x) (sets ws₀ END ends) ws (omega (arith, h, few)) low
      ∙ sym (slice_at END (END + length ends) x (sets ws₀ END ends) (omega (arith, count, h)))
      ∙ ap (λ (l : List ℕ). get_or l x 0) (slice_sets ends ws₀ END (END + length ends) refl (omega (arith, count, few, size)))

  sheet_end : (x : ℕ) → x < most_identifiers → get_or (sheet_ends ids) x 0 ≡ pick (ltb x (length ids)) (get_or ws (END + x) 0) 0
  unfolding sheet_ends
  sheet_end x h = go (dec_lt x (length ids))
    where
      go : Dec (x < length ids) → get_or (ends ++ replicate (most_identifiers - length ids) 0) x 0 ≡ pick (ltb x (length ids)) (get_or ws (END + x) 0) 0
      go (yes k) = get_or-append ends (replicate (most_identifiers - length ids) 0) 0 x (omega (arith, count, k)) ∙ sym (end_word x k) ∙ sym (rw (lt-ltb x (length ids) k))
      go (no k) =
          let e : x ≡ length ends + (x - length ends) = omega (arith, count, k) in
          ap (λ (i : ℕ). get_or (ends ++ replicate (most_identifiers - length ids) 0) i 0) e
          ∙ get_or-append-add ends (replicate (most_identifiers - length ids) 0) (x - length ends) 0
          ∙ get_or-replicate (most_identifiers - length ids) (x - length ends) 0 0 (omega (arith, h, count, k))
          ∙ sym (rw (le-ltb x (length ids) (omega (arith, k))))

  ends-length : length (sheet_ends ids) ≡ most_identifiers
  unfolding sheet_ends
  ends-length = omega (arith, length-append ends (replicate {A = ℕ} (most_identifiers - length ids) 0), length-replicate {A = ℕ} (most_identifiers - length ids) 0, count, few)

  ends_stand : (ws' : List ℕ) → ((x : ℕ) → x < most_identifiers → end_at (nodes_of ws') x ≡ pick (ltb x (length ids)) (get_or ws (END + x) 0) 0) → ends_of (nodes_of ws') ≡ sheet_ends ids
  unfolding ends_of
  ends_stand ws' h =
      ext_get_or 0 (tab most_identifiers (end_at (nodes_of ws'))) (sheet_ends ids) (tab-length most_identifiers (end_at (nodes_of ws')) ∙ sym ends-length)
      (λ i q. let k : i < most_identifiers = omega (arith, q, tab-length most_identifiers (end_at (nodes_of ws'))) in tab_at most_identifiers (end_at (nodes_of ws')) i 0 k ∙ h i k ∙ sym (sheet_end i k))

module _ (s : Sheet) (sheet : List ℕ) {lists : List ℕ} (f : HirFunction) (b : Building) (ws₀ ws₁ ws₂ ws₃ ws₄ : List ℕ) where
  module _ (describes : Describes s sheet f) (told : f.applies ≡ applies s) (below : SheetBelow s) (stands : Stands s lists ws₁) (size : LEAST ≤ length ws₀)
      (ends : take SEEN ws₁ ≡ take SEEN (sets ws₀ END (map (λ (i : Identifier). i.end) s.identifiers))) where
    module _ (w : Whole s sheet ws₁ ws₂ b) (within : b.held.most ≤ most_relations) (l : LaysOut ws₂ b ws₃) (k : Keeps f.identifiers.count ws₃ ws₄) where
      low_kept : take SEEN ws₃ ≡ take SEEN (sets ws₀ END (map (λ (i : Identifier). i.end) s.identifiers))
      low_kept = take_less SEEN FBOUND ws₃ ws₂ (omega arith) l.low ∙ w.low ∙ ends

      few_ids : length s.identifiers ≤ most_identifiers
      few_ids = omega (arith, f.identifiers_few, describes.n)

      high_kept : Kept 0 SEEN ws₃ ws₄
      high_kept = record { low = refl; high = k.high; same = k.same }

      rows_kept : rows_of ws₄ ≡ rows_of ws₃
      rows_kept = rows_above high_kept (omega arith)

      mutations_are : mutations_of ws₄ b.mutations ≡ (build s).mutations
      unfolding built_of
      mutations_are = mutations_kept ws₃ ws₄ b.mutations (drop_more SEEN MUTATIONS ws₄ ws₃ (omega arith) k.high) ∙ l.mutations ∙ ap (λ (x : Built). x.mutations) (w.built within)

      index_is : index_of b ≡ (build s).index
      unfolding built_of
      index_is = ap (λ (x : Built). x.index) (w.built within)

      pub prepared : Prepared s sheet lists ws₄ f b
      unfolding built built_of
      prepared = record {
        describes = describes;
        applies = told;
        below = below;
        limited = limited f;
        stands = stands_kept s lists (drop_more SEEN FUNCTIONS ws₄ ws₃ (omega arith) k.high ∙ drop_more QUEUE FUNCTIONS ws₃ ws₂ (omega arith) l.high ∙ w.high) (k.same ∙ l.same ∙ w.same) stands;
        indexed = indexed-after l.indexed rows_kept k.same;
        state = state_new ws₄ (build s).graph (sheet_ends s.identifiers) (ap graph_of_rows rows_kept ∙ l.graph ∙ ap (λ (x : Built). x.graph) (w.built within)) k.records
            (ends_stand s.identifiers few_ids ws₀ size ws₃ low_kept ws₄ (λ x h. k.ends x h ∙ ap (λ (n : ℕ). pick (ltb x n) (get_or ws₃ (END + x) 0) 0) describes.n));
        mutations = mutations_are;
        renders = renders_kept ws₃ ws₄ b.renders (drop_more SEEN RENDERS ws₄ ws₃ (omega arith) k.high) ∙ l.renders ∙ ap (λ (x : Built). x.renders) (w.built within);
        index = index_is;
        pending = record {
          few = w.sound.mutations;
          orders = subst (Every (λ (m : Mutation). m.order ≤ most_order)) (sym mutations_are) (orders s below);
        };
        indexes = w.sound.indexes;
        few_renders = w.sound.renders;
      }
