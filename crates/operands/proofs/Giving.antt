-- What is given to a place, by a word.
use Prim.Native.Nat.{ℕ, ◌-◌, ◌≤◌}
use native.Mathlib.Omega.{arith}
use mathlib.Core.Path.{◌≡◌, sym, ap, ◌∙◌}
use mathlib.Core.Bool.{Bool}
use borrow.Author.Tests.{eq-eqb, ne_eqb}
use Rattle.model.specs.Lists.{pick}
use Rattle.model.specs.Sheet.{Place}
use Rattle.model.specs.Traits.{effect_of}
use Rattle.model.specs.Marks.{with_effect}
use Rattle.std.specs.Prelude.{Option, None, Some}
use Rattle.std.specs.Option.{SomeIff, MatchOption, IsSomeAnd}
use Rattle.hir.specs.Numbers.{effect_number}
use Rattle.hir.specs.declared.Effect.{Effect}
use Rattle.operands.specs.Given.{given_to, word_gives}

-- the word 0 gives nothing
pub gives_nothing : (w : ℕ) (p : Place) → w ≡ 0 → p ≡ word_gives w p
unfolding word_gives
gives_nothing w p e = ap (λ (b : Bool). pick b p (with_effect (effect_of (w - 1)) p)) (sym (eq-eqb w 0 e))

-- another gives the effect one below it
pub gives-effect : (w : ℕ) (p : Place) → ¬ (w ≡ 0) → {n : ℕ} → n ≡ effect_of (w - 1) → with_effect n p ≡ word_gives w p
unfolding word_gives
gives-effect w p h e = ap (λ (k : ℕ). with_effect k p) e ∙ ap (λ (b : Bool). pick b p (with_effect (effect_of (w - 1)) p)) (sym (ne_eqb w 0 h))

-- the effect by the word below it, where there is one
pub word_given : (w : ℕ) (below : Option ℕ) (given : Option Effect) → SomeIff below (1 ≤ w) (w - 1) → MatchOption below (given ≡ None) (λ x. IsSomeAnd given (λ e. effect_number e ≡ effect_of x))
    → (p : Place) → given_to given p ≡ word_gives w p
word_given w None None h k p = gives_nothing w p (omega (arith, h))
word_given w None (Some e) h k p = absurd (cc k)
word_given w (Some x) None h k p = absurd k
word_given w (Some x) (Some e) h k p = gives-effect w p (λ z. omega (arith, h.0, z)) (k ∙ ap effect_of h.1)
