-- The bounds of a class load's arguments.
use Prim.Native.Nat.{ℕ}
use native.Mathlib.Omega.{arith}
use mathlib.Core.Path.{◌≡◌, sym, ap, ◌∙◌}
use mathlib.Core.Bool.{Bool, true, false, ◌&&◌}
use lib.Dec.{leb}
use Rattle.std.specs.Prelude.{Some}
use Rattle.std.specs.Ordering.{is_le, nat_cmp}
use Rattle.std.specs.Range.{range_inclusive_contains, range_inclusive_start, range_inclusive_end, range_inclusive_exhausted}
use Rattle.std.specs.declared.ops.RangeInclusive.{RangeInclusive}
use Rattle.std.proofs.lemmas.Bool.Decides.{nat_tests}

is-le : (x y : ℕ) → is_le (nat_cmp x y) ≡ leb x y
is-le x y = grind (arith, nat_tests)

-- what `contains` answers at a range that was just made
pub contained : {s : RangeInclusive ℕ} {a b : ℕ} (x : ℕ) {r : Bool} → r ≡ range_inclusive_contains (λ p q. Some (nat_cmp p q)) s x
    → range_inclusive_start s ≡ a → range_inclusive_end s ≡ b → range_inclusive_exhausted s ≡ false → r ≡ leb a x && leb x b
contained {s} {a} {b} x h e f g = h ∙ rw (e, f, g) (rw (is-le a x) (ap (λ (t : Bool). leb a x && t) (is-le x b)))

-- one test and then another
pub both_tests : {r t p q : Bool} → r ≡ p → r ≡ true → t ≡ q → t ≡ p && q
both_tests {q = q} h e f = f ∙ ap (λ (b : Bool). b && q) (sym e ∙ h)

pub first_test : {r p : Bool} (q : Bool) → r ≡ p → r ≡ false → r ≡ p && q
first_test q h e = e ∙ ap (λ (b : Bool). b && q) (sym e ∙ h)
