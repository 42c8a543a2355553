use mathlib.Core.Path.{refl}
use Rattle.model.specs.Operands.{name_lvalues}
use Rattle.operands.proofs.RangeWords.{ranged_then, ranged_as}
use Rattle.operands.proofs.instruction.name_all.Goals as goal

pub returns : goal.returns
unfolding name_lvalues
returns c =
    ranged_as (ranged_then c.name_lvalue.ensures c.name_lvalues.ensures) refl
