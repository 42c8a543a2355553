-- Order 4's two properties of one sheet, and the ranges of its answer.
use Prim.Native.Nat.{ℕ, zero, suc, ◌≤◌, ◌<◌}
use native.Mathlib.Omega.{arith}
use mathlib.Core.Path.{◌≡◌, refl, sym, ap, subst}
use mathlib.Core.List.{List, [], ◌∷◌}
use lib.ListN.{length, get_or}
use Rattle.model.specs.Sheet.{Identifier, Sheet}
use Rattle.model.specs.Summary.{after_real}
use Rattle.model.specs.Operands.{ends_before, before_pass, after_pass}
use Rattle.model.specs.Answer.{ranges_of, ranges_after, answer}
use Rattle.model.specs.SecondProperty.{no_range, SecondProperty}
use Rattle.model.proofs.Demand3.{demand3, starts_length, last_length}
use Rattle.model.proofs.EndsSet.{sheet-ends-set}

-- a range for each identifier, if both lists are long enough
pub range_at_lem : (ids : List Identifier) (ss es : List ℕ) (x : ℕ) → x < length ids → length ids ≤ length ss → length ids ≤ length es
    → get_or (ranges_of ids ss es) x no_range ≡ record { start = get_or ss x 0; end = get_or es x 0 }
range_at_lem [] ss es x h a b = absurd (omega (arith, h))
range_at_lem (i ∷ ids) [] es x h a b = absurd (omega (arith, a))
range_at_lem (i ∷ ids) (s ∷ ss) [] x h a b = absurd (omega (arith, b))
range_at_lem (i ∷ ids) (s ∷ ss) (e ∷ es) zero h a b = refl
range_at_lem (i ∷ ids) (s ∷ ss) (e ∷ es) (suc x) h a b = range_at_lem ids ss es x (omega (arith, h)) (omega (arith, a)) (omega (arith, b))

-- as many ranges as identifiers
ranges_count : (ids : List Identifier) (ss es : List ℕ) → length ids ≤ length ss → length ids ≤ length es → length (ranges_of ids ss es) ≡ length ids
ranges_count [] ss es a b = refl
ranges_count (i ∷ ids) [] es a b = absurd (omega (arith, a))
ranges_count (i ∷ ids) (s ∷ ss) [] a b = absurd (omega (arith, b))
ranges_count (i ∷ ids) (s ∷ ss) (e ∷ es) a b = ap (λ (n : ℕ). suc n) (ranges_count ids ss es (omega (arith, a)) (omega (arith, b)))

module _ (t : Sheet) where
  pub before_starts : length t.identifiers ≤ length (before_pass t).ranges.starts
  unfolding before_pass
  before_starts = starts_length t

  pub before_ends : length t.identifiers ≤ length (before_pass t).ranges.ends
  unfolding before_pass ends_before after_real
  before_ends = last_length t

  pub after_starts : length t.identifiers ≤ length (after_pass t).ranges.starts
  after_starts = subst (λ (n : ℕ). length t.identifiers ≤ n) (sym (sheet-ends-set t).start_count) before_starts

  pub after-ends : length t.identifiers ≤ length (after_pass t).ranges.ends
  after-ends = subst (λ (n : ℕ). length t.identifiers ≤ n) (sym (sheet-ends-set t).end_count) before_ends

  pub answer_ranges : length (answer t).ranges ≡ length t.identifiers
  unfolding answer ranges_after
  answer_ranges = ranges_count t.identifiers (after_pass t).ranges.starts (after_pass t).ranges.ends after_starts after-ends

  pub second_property : SecondProperty t
  unfolding ends_before after_real answer ranges_after
  second_property = record {
    chain = demand3 t;
    before = refl;
    set = sheet-ends-set t;
    known = λ x h. let k : length t.identifiers ≤ length (before_pass t).ranges.ends = before_ends in omega (arith, h, k);
    ranges = λ x h. range_at_lem t.identifiers (after_pass t).ranges.starts (after_pass t).ranges.ends x h after_starts after-ends;
  }
