-- How many words the parts of the answer have.
use Prim.Native.Nat.{ℕ, ◌*◌}
use native.Mathlib.Omega.{arith}
use mathlib.Core.Path.{◌≡◌}
use mathlib.Core.List.{List, [], ◌∷◌}
use lib.ListN.{length, length-append}
use Rattle.model.specs.Lists.{gather}

-- lists of one length
pub gather_length : {A : Type 0} (w : A → List ℕ) (k : ℕ) → ((a : A) → length (w a) ≡ k) → (l : List A) → length (gather w l) ≡ k * length l
gather_length w k e [] = omega arith
gather_length w k e (a ∷ l) = omega (arith, length-append (w a) (gather w l), e a, gather_length w k e l)
