-- The bits of the code's values, and what they say.
use Prim.Native.Nat.{ℕ, zero, suc, ◌<◌}
use native.Mathlib.Omega.{arith}
use mathlib.Core.Bool.{Bool, true, false}
use mathlib.Core.Path.{◌≡◌, refl, ap}
use lib.Dec.{eqb}
use denote.Enum.Declared.{tag_of}
use mir.Val.{bool_byte}
use Rattle.std.specs.Prelude.{Option, None, Some, is_some}
use Rattle.hir.specs.contracts.MutationKind.{the_type}
use Rattle.aliasing.specs.contracts.pushes.Direction.{the_type as direction_type}
use Rattle.aliasing.specs.declared.pushes.Direction.{Direction}
use Rattle.aliasing.specs.declared.pushes.Direction.TheVariants.{Backwards, Forwards}
use Rattle.model.specs.Mutation.{reason_of, level}
use Rattle.workspace.specs.Pending.{kind_of}
use Rattle.hir.specs.declared.MutationKind.{MutationKind}
use Rattle.hir.specs.declared.MutationKind.TheVariants.{Conditional, Definite}
use Rattle.hir.specs.declared.MutationReason.{MutationReason}
use Rattle.hir.specs.declared.MutationReason.TheVariants.{AssignCurrentProperty}
use Rattle.std.specs.Bool.{then_some}
use Rattle.hir.specs.Mutations.{kind_says, kind_bit, reason_says, reason_bit}
use Rattle.aliasing.specs.Says.{bit, direction_bit}

pub bit_below : (b : Bool) → bit b < 2
bit_below true = omega arith
bit_below false = omega arith

pub kind_below : (k : MutationKind) → kind_bit k < 2
kind_below Conditional = omega arith
kind_below Definite = omega arith

pub reason_below : (o : Option MutationReason) → reason_bit o < 2
reason_below None = omega arith
reason_below (Some r) = omega arith

pub bit_is : (b : Bool) → eqb (bit b) 1 ≡ b
bit_is true = refl
bit_is false = refl

pub kind_is : (k : MutationKind) → kind_of (kind_bit k) ≡ kind_says k
kind_is Conditional = refl
kind_is Definite = refl

pub reason_is : (o : Option MutationReason) → reason_of (reason_bit o) ≡ reason_says o
reason_is None = refl
reason_is (Some r) = refl

-- the reason of a bit
pub reason_then : (n : ℕ) → n < 2 → reason_says (then_some (eqb n 1) AssignCurrentProperty) ≡ reason_of n
reason_then zero h = refl
reason_then (suc zero) h = refl
reason_then (suc (suc n)) h = absurd (omega arith)

-- a kind as a number
pub tag_bit : (k : MutationKind) → tag_of the_type k ≡ kind_bit k
tag_bit Conditional = refl
tag_bit Definite = refl

-- whether there is a reason, as a number
pub some_bit : (o : Option MutationReason) → bool_byte (is_some o) ≡ reason_bit o
some_bit None = refl
some_bit (Some r) = refl

-- a direction as a number
pub tag_direction : (d : Direction) → tag_of direction_type d ≡ direction_bit d
tag_direction Backwards = refl
tag_direction Forwards = refl

-- a truth value as a number
pub byte_bit : (b : Bool) → bool_byte b ≡ bit b
byte_bit true = refl
byte_bit false = refl

-- a number that is a bit, by what it says
pub number_bit : (n : ℕ) → n < 2 → bit (eqb n 1) ≡ n
number_bit zero h = refl
number_bit (suc zero) h = refl
number_bit (suc (suc n)) h = absurd (omega arith)

pub number_kind : (k : MutationKind) (n : ℕ) → n < 2 → kind_says k ≡ kind_of n → kind_bit k ≡ n
number_kind Conditional zero h e = refl
number_kind Conditional (suc n) h e = absurd (omega (arith, ap level e))
number_kind Definite zero h e = absurd (omega (arith, ap level e))
number_kind Definite (suc zero) h e = refl
number_kind Definite (suc (suc n)) h e = absurd (omega arith)
