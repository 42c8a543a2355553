-- The pass over operands after the middle of the answer: it can run, the ranges are those that it leaves, and what the walks left stays.
use Prim.Native.Nat.{ℕ, ◌+◌, ◌*◌, ◌<◌}
use native.Mathlib.Omega.{arith}
use mathlib.Core.Path.{◌≡◌, refl, sym, subst, ap, ◌∙◌}
use mathlib.Core.List.{List, ◌++◌}
use lib.ListN.{length, get_or}
use lib.Seq.{ext_get_or, slice_empty}
use Rattle.model.specs.Sheet.{Sheet}
use Rattle.model.specs.State.{State}
use Rattle.model.specs.Operands.{Ranges, ends_before, after_pass}
use Rattle.model.specs.Answer.{ranges_after, range_words, section, answer, answer_words, middle_words, operand_words}
use Rattle.model.specs.SecondProperty.{no_range}
use Rattle.model.proofs.SecondProperty.{range_at_lem, after_starts, after-ends, answer_ranges}
use Rattle.model.proofs.Quiet.{final_ends}
use Rattle.workspace.specs.Layout.{BASE, HANDED, STARTS, PASSED, SIMULATED}
use Rattle.workspace.specs.Rows.{Kept}
use Rattle.workspace.specs.Graph.{tab, graph_of_rows}
use Rattle.workspace.proofs.Parts.{drop-word}
use Rattle.workspace.proofs.Tables.{tab-length, tab_at, tab-same}
use Rattle.building.specs.declared.Building.{Building}
use Rattle.aliasing.specs.State.{nodes_of, seen_of, records_of, ends_of, bare, state_of}
use Rattle.aliasing.proofs.Parts.{nodes_below, seen_below, rows_below, base_below}
use Rattle.aliasing.proofs.Walks.{indexed-after}
use Rattle.writing.specs.declared.Writer.{Writer}
use Rattle.writing.specs.Wrote.{Writes, moved}
use Rattle.writing.proofs.Writing.{writes_then, writes_as, writes_before}
use Rattle.copies.proofs.Lengths.{gather_length}
use Rattle.dataflow.specs.declared.function.HirFunction.{HirFunction}
use Rattle.operands.specs.Ranges.{ranges_of, range_at, first_ranges, range_width}
use Rattle.operands.specs.Whole.{Passing, OperandsPut}
use Rattle.summary.specs.Sections.{simulated_of}
use Rattle.summary.specs.Simulates.{Left, Walkable}
use Rattle.summary.proofs.Ends.{ends_words}
use Rattle.inference.specs.Whole.{Prepared, MiddlePut, PassedPut, AnswerPut}

-- ---- the ranges
-- those of the answer are the first ones that the pass leaves
pub ranges_first : (s : Sheet) → (answer s).ranges ≡ first_ranges (length s.identifiers) (after_pass s).ranges
unfolding answer ranges_after first_ranges
ranges_first s =
    let n : ℕ = length s.identifiers in
    let r : Ranges = (after_pass s).ranges in
    ext_get_or no_range (answer s).ranges (tab n (range_at r)) (answer_ranges s ∙ sym (tab-length n (range_at r)))
    (λ i k.
    let l : i < length s.identifiers = omega (arith, k, answer_ranges s) in
    range_at_lem s.identifiers r.starts r.ends i l (after_starts s) (after-ends s) ∙ sym (tab_at n (range_at r) i no_range l))

-- their words
ranges_words : (s : Sheet) → length (section range_words (answer s).ranges) ≡ 1 + range_width * length s.identifiers
ranges_words s = omega (arith, gather_length range_words range_width (λ r. refl) (answer s).ranges, answer_ranges s)

module _ {sheet lists : List ℕ} {f : HirFunction} {ws ws' : List ℕ} {a a₁ a₂ : Writer ℕ} {first : ℕ} where
  pub passed_put : OperandsPut sheet lists f ws a ws' a₁ → Writes (section range_words (first_ranges f.identifiers.count (ranges_of ws'))) (moved a₁ first) a₂ → PassedPut sheet lists f ws first a ws' (moved a₂ a₁.at)
  passed_put o w = record {
    between = a₁;
    operands = o.wrote;
    last = a₂;
    end = refl;
    ranges = λ s p.
        writes_as w
        (ap (section range_words)
        (ap (λ (n : ℕ). first_ranges n (ranges_of ws')) p.describes.n ∙ ap (first_ranges (length s.identifiers)) (o.ranges s p) ∙ sym (ranges_first s)));
    kept = o.kept;
    few = o.few;
  }

-- ---- what the walks left stays in the words before and behind those of the pass
module _ {ws ws' : List ℕ} (k : Kept STARTS PASSED ws ws') where
  state_kept : state_of ws' HANDED ≡ state_of ws HANDED
  unfolding state_of
  state_kept = λ j. record {
    graph = graph_of_rows (rows_below k (omega arith) j);
    records = records_of (nodes_below k (omega arith) j);
    ends = ends_of (nodes_below k (omega arith) j);
    handed = (slice_empty HANDED ws' ∙ sym (slice_empty HANDED ws)) j;
  }

  counts_kept : (count : ℕ) → simulated_of ws' count ≡ simulated_of ws count
  unfolding simulated_of
  counts_kept count =
      tab-same count (λ (i : ℕ). get_or ws' (SIMULATED + i) 0) (λ (i : ℕ). get_or ws (SIMULATED + i) 0) (λ i h. drop-word PASSED (SIMULATED + i) ws ws' (omega arith) k.high)

  left_kept : {s : Sheet} {count next : ℕ} → Left s ws count next → Left s ws' count next
  left_kept {count = count} l = record { counts = counts_kept count ∙ l.counts; state = state_kept ∙ l.state; unused = l.unused }

  walkable_kept : {ws₀ : List ℕ} → Walkable ws₀ ws → Walkable ws₀ ws'
  walkable_kept w =
      let nodes : nodes_of ws' ≡ nodes_of ws = nodes_below k (omega arith) in
      let seen : seen_of ws' ≡ seen_of ws = seen_below k (omega arith) in
      let base : get_or ws' BASE 0 ≡ get_or ws BASE 0 = base_below k (omega arith) in
      let none : bare (records_of (nodes_of ws')) ≡ bare (records_of (nodes_of ws)) = ap (λ (l : List ℕ). bare (records_of l)) nodes in
      record {
        graph = rows_below k (omega arith) ∙ w.graph;
        indexed = indexed-after w.indexed (rows_below k (omega arith)) k.same;
        handing = record {
          low = w.handing.low;
          marks = record { marks = λ x h. let e : get_or (seen_of ws') x 0 ≡ get_or (seen_of ws) x 0 = ap (λ (l : List ℕ). get_or l x 0) seen in omega (arith, e, base, w.handing.marks.marks x h) };
          room = omega (arith, none, w.handing.room);
        };
        same = k.same ∙ w.same;
      }

-- ---- after the middle
module _ {sheet lists ws : List ℕ} {f : HirFunction} {b : Building} {o a₁ : Writer ℕ} {ws₁ : List ℕ} (mid : MiddlePut sheet lists ws f b o ws₁ a₁) where
  -- the pass can run
  pub passing : {s : Sheet} → Prepared s sheet lists ws f b → Passing s sheet lists ws₁ f
  unfolding state_of ends_before
  passing {s} p = record {
    describes = p.describes;
    stands = record { size = mid.walkable.indexed.size; functions = mid.functions s p };
    below = p.below;
    ends = sym (ends_words ws₁ mid.walkable.indexed.size) ∙ ap (λ (t : State). t.ends) (mid.left s p).state ∙ final_ends s;
  }

  -- the whole answer: ranges before the sections that stand already
  pub answer_put : (a : Writer ℕ) {behind : ℕ} → o ≡ moved a behind → behind ≡ a.at + (1 + range_width * f.identifiers.count) → {ws₂ : List ℕ} {a₂ : Writer ℕ} → PassedPut sheet lists f ws₁ a.at a₁ ws₂ a₂ → AnswerPut sheet lists ws f b a ws₂ a₂
  unfolding answer_words
  answer_put a {behind} from e p₁ = record {
    wrote = λ s p.
        let n : behind ≡ a.at + length (section range_words (answer s).ranges) = omega (arith, e, ranges_words s, p.describes.n) in
        subst (Writes (answer_words (answer s)) a) (sym p₁.end) (writes_before (subst (λ (w : Writer ℕ). Writes (middle_words (answer s) ++ operand_words (answer s)) w p₁.between) from (writes_then (mid.wrote s p) (p₁.operands s (passing p)))) n (p₁.ranges s (passing p)));
    left = λ s p. left_kept p₁.kept (mid.left s p);
    walkable = walkable_kept p₁.kept mid.walkable;
    few = omega (arith, e, f.identifiers_few, mid.few, p₁.few, ap (λ (w : Writer ℕ). w.at) from);
  }
