-- The code's effect kinds by their numbers: a row of the table is known by its number.
use mathlib.Core.Path.{◌≡◌, refl}
use lib.Dec.{eqb}
use denote.Enum.Bare.{sameb}
use denote.Enum.Declared.{tag_of}
use Rattle.hir.specs.contracts.EffectKind.{the_type}
use Rattle.model.specs.Effects.{kind_of, row_of}
use Rattle.hir.specs.Numbers.{kind_says, kind_number}
use Rattle.hir.specs.declared.EffectKind.{EffectKind as Kind}
use Rattle.hir.specs.declared.EffectKind.TheVariants.{Freeze as KindFreeze, Mutate as KindMutate, MutateConditionally as KindMutateConditionally, MutateTransitive as KindMutateTransitive, MutateTransitiveConditionally as KindMutateTransitiveConditionally, Capture as KindCapture, Alias as KindAlias, MaybeAlias as KindMaybeAlias, Assign as KindAssign, Create as KindCreate, CreateFrom as KindCreateFrom, ImmutableCapture as KindImmutableCapture, Apply as KindApply, CreateFunction as KindCreateFunction, MutateFrozen as KindMutateFrozen, MutateGlobal as KindMutateGlobal, Impure as KindImpure, Render as KindRender}

-- the number of the code and that of the table are one
pub number_same : (k : Kind) → (row_of (kind_says k)).number ≡ kind_number k
unfolding row_of
number_same KindFreeze = refl
number_same KindMutate = refl
number_same KindMutateConditionally = refl
number_same KindMutateTransitive = refl
number_same KindMutateTransitiveConditionally = refl
number_same KindCapture = refl
number_same KindAlias = refl
number_same KindMaybeAlias = refl
number_same KindAssign = refl
number_same KindCreate = refl
number_same KindCreateFrom = refl
number_same KindImmutableCapture = refl
number_same KindApply = refl
number_same KindCreateFunction = refl
number_same KindMutateFrozen = refl
number_same KindMutateGlobal = refl
number_same KindImpure = refl
number_same KindRender = refl

-- a kind is the one of its number
pub kind_of_number : (k : Kind) → kind_of (kind_number k) ≡ kind_says k
unfolding kind_of
kind_of_number KindFreeze = refl
kind_of_number KindMutate = refl
kind_of_number KindMutateConditionally = refl
kind_of_number KindMutateTransitive = refl
kind_of_number KindMutateTransitiveConditionally = refl
kind_of_number KindCapture = refl
kind_of_number KindAlias = refl
kind_of_number KindMaybeAlias = refl
kind_of_number KindAssign = refl
kind_of_number KindCreate = refl
kind_of_number KindCreateFrom = refl
kind_of_number KindImmutableCapture = refl
kind_of_number KindApply = refl
kind_of_number KindCreateFunction = refl
kind_of_number KindMutateFrozen = refl
kind_of_number KindMutateGlobal = refl
kind_of_number KindImpure = refl
kind_of_number KindRender = refl

-- the code's equality is that of the numbers
tag_number : (k : Kind) → tag_of the_type k ≡ kind_number k
tag_number KindFreeze = refl
tag_number KindMutate = refl
tag_number KindMutateConditionally = refl
tag_number KindMutateTransitive = refl
tag_number KindMutateTransitiveConditionally = refl
tag_number KindCapture = refl
tag_number KindAlias = refl
tag_number KindMaybeAlias = refl
tag_number KindAssign = refl
tag_number KindCreate = refl
tag_number KindCreateFrom = refl
tag_number KindImmutableCapture = refl
tag_number KindApply = refl
tag_number KindCreateFunction = refl
tag_number KindMutateFrozen = refl
tag_number KindMutateGlobal = refl
tag_number KindImpure = refl
tag_number KindRender = refl

pub kinds_equal : (a b : Kind) → sameb the_type a b ≡ eqb (kind_number a) (kind_number b)
kinds_equal a b = rw (tag_number a, tag_number b)
