-- Which kind and which reason of a mutation those of the code stand for, and their bits in a word.
use Rattle.std.specs.Prelude.{ℕ, Option, None, Some}
use Rattle.std.proofs.Math.Option.{Option as ModelOption, none, some}
use Rattle.model.specs.Mutation.{Kind, conditional, definite, Reason, assign_current_property}
use Rattle.hir.specs.declared.MutationKind.{MutationKind}
use Rattle.hir.specs.declared.MutationKind.TheVariants.{Conditional, Definite}
use Rattle.hir.specs.declared.MutationReason.{MutationReason}

-- the kind of the same name
abbrev pub kind_says : MutationKind → Kind
kind_says Conditional = conditional
kind_says Definite = definite

-- its bit
abbrev pub kind_bit : MutationKind → ℕ
kind_bit Conditional = 0
kind_bit Definite = 1

-- the reason, of which there is one
abbrev pub reason_says : Option MutationReason → ModelOption Reason
reason_says None = none
reason_says (Some r) = some assign_current_property

-- its bit, 0 for none
abbrev pub reason_bit : Option MutationReason → ℕ
reason_bit None = 0
reason_bit (Some r) = 1
