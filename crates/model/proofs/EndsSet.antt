-- Order 4's second property, for every tree: which ends the pass over operands sets.
use Prim.Native.Nat.{ℕ, zero, suc, ◌≤◌, ◌<◌}
use native.Mathlib.Omega.{arith}
use mathlib.Core.Path.{◌≡◌, refl, sym, ◌∙◌, subst}
use mathlib.Core.Bool.{Bool, true, false}
use mathlib.Core.Logic.{◌⊎◌, inl, inr, ⊎_elim}
use mathlib.Core.List.{List, [], ◌∷◌}
use lib.ListN.{length, get_or}
use lib.Dec.{ltb}
use borrow.Author.Tests.{ltb-true, ltb-false}
use Rattle.model.specs.Lists.{each}
use Rattle.model.specs.Sheet.{InnerFunction, Instruction, Block, Sheet}
use Rattle.model.specs.Operands.{Ranges, Pass, block, before_pass, after_pass}
use Rattle.model.specs.EndsSet.{instructions_of, SetBy, end_after, end_of, start_of, EndsSet}
use Rattle.model.proofs.EndMoves.{end_rises, end_moves, end_moved}
use Rattle.model.proofs.EndAlone.{end_alone, pass_long, pass_begins}

past : (l : List ℕ) (x : ℕ) → length l ≤ x → ◌≡◌ {A = ℕ} (get_or l x 0) 0
past [] x h = refl
past (a ∷ l) zero h = absurd (omega (arith, h))
past (a ∷ l) (suc x) h = past l x (omega (arith, h))

module _ (fe : Bool) (fs : List InnerFunction) (bs : List Block) (p : Pass) where
  abbrev before : Ranges
  before = p.ranges

  abbrev after : Ranges
  after = (each (block fe fs) bs p).ranges

  abbrev is : List Instruction
  is = instructions_of bs

  -- an identifier without a range has end 0 before and after
  outside : (x : ℕ) → length before.ends ≤ x → end_of after x ≡ end_of before x
  outside x h = past after.ends x (subst (λ (n : ℕ). n ≤ x) (sym (pass_long fe fs bs p).1) h) ∙ sym (past before.ends x h)

  -- it has a range or not
  side : (x : ℕ) → (x < length before.ends) ⊎ (length before.ends ≤ x)
  side x = go (ltb x (length before.ends)) refl
    where
      go : (b : Bool) → ltb x (length before.ends) ≡ b → (x < length before.ends) ⊎ (length before.ends ≤ x)
      go true h = inl (ltb-true x (length before.ends) h)
      go false h = inr (ltb-false x (length before.ends) h)

  abbrev MovedBy : ℕ → ℕ → Type 0
  MovedBy x f = (s : SetBy x (end_of before x) is) × (f ≡ suc s.instruction.order)

  -- it stays, or moves as it should
  either : (x : ℕ) → (end_of after x ≡ end_of before x) ⊎ MovedBy x (end_of after x)
  either x =
      ⊎_elim (λ (h : x < length before.ends). subst (λ (f : ℕ). (f ≡ end_of before x) ⊎ MovedBy x f) (sym (end_alone x fe fs bs p h)) (end_moved x is (end_of before x)))
      (λ (h : length before.ends ≤ x). inl (outside x h)) (side x)

  begins : (x s : ℕ) → start_of before x ≡ s → 0 < s → start_of after x ≡ s
  begins x zero e h = absurd (omega (arith, h))
  begins x (suc s) e h = pass_begins x s fe fs bs p e

  pub ends_set : EndsSet is before after
  ends_set = record {
    moves = λ x h s e.
        let k : end_of before x < each (end_after x) is (end_of before x) = end_moves x is (end_of before x) s.instruction s.listed s.sets in
        let a : end_of after x ≡ each (end_after x) is (end_of before x) = end_alone x fe fs bs p h in
        omega (arith, k, a, e);
    moved = λ x m. ⊎_elim (λ (e : end_of after x ≡ end_of before x). absurd (m e)) (λ (s : MovedBy x (end_of after x)). s) (either x);
    rises = λ x.
        ⊎_elim
        (λ (h : x < length before.ends).
        let k : end_of before x ≤ each (end_after x) is (end_of before x) = end_rises x is (end_of before x) in
        let a : end_of after x ≡ each (end_after x) is (end_of before x) = end_alone x fe fs bs p h in
        omega (arith, k, a))
        (λ (h : length before.ends ≤ x). let a : end_of after x ≡ end_of before x = outside x h in omega (arith, a)) (side x);
    stays = λ x n. ⊎_elim (λ (e : end_of after x ≡ end_of before x). e) (λ (s : MovedBy x (end_of after x)). absurd (n s.0)) (either x);
    which = λ x h. end_alone x fe fs bs p h;
    starts = λ x h. begins x (start_of before x) refl h;
    start_count = (pass_long fe fs bs p).0;
    end_count = (pass_long fe fs bs p).1;
  }

-- for every sheet, from the ends after its real walks to the answer's
pub sheet-ends-set : (t : Sheet) → EndsSet (instructions_of t.blocks) (before_pass t).ranges (after_pass t).ranges
unfolding after_pass
sheet-ends-set t = ends_set t.flags.function_expression t.functions t.blocks (before_pass t)
