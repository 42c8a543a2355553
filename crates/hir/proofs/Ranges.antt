-- What a number that was read is known to be.
use Prim.Native.Nat.{ℕ, ◌<◌}
use mathlib.Core.Path.{◌≡◌}
use mathlib.Core.List.{List, [], ◌∷◌}
use lib.Dec.{eqb, eqb→eq}
use lib.ListN.{get_or}
use Rattle.model.specs.Traits.{reactive_traits}
use Rattle.hir.specs.Numbers.{effect_number}
use Rattle.hir.specs.declared.Effect.{Effect}
use Rattle.hir.specs.declared.Effect.TheVariants.{Unknown, Freeze, Read as Reading, Capture, ConditionallyMutateIterator, ConditionallyMutate, Mutate, Store}
use Rattle.hir.proofs.Table.{at}
use native.Mathlib.Omega.{arith}

-- there are eight effects
pub effect_number_lem : (e : Effect) → effect_number e < reactive_traits
effect_number_lem Unknown = omega arith
effect_number_lem Freeze = omega arith
effect_number_lem Reading = omega arith
effect_number_lem Capture = omega arith
effect_number_lem ConditionallyMutateIterator = omega arith
effect_number_lem ConditionallyMutate = omega arith
effect_number_lem Mutate = omega arith
effect_number_lem Store = omega arith

-- the effects as the code has them, by their numbers
abbrev pub effects : List Effect
effects = Unknown ∷ Freeze ∷ Reading ∷ Capture ∷ ConditionallyMutateIterator ∷ ConditionallyMutate ∷ Mutate ∷ Store ∷ []

pub effect_right : (k : ℕ) → k < reactive_traits → effect_number (get_or effects k Unknown) ≡ k
effect_right k h = eqb→eq _ _ (at Unknown (λ (i : ℕ) (e : Effect). eqb (effect_number e) i) effects tt k (omega arith))
