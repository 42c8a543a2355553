use native.Mathlib.Omega.{arith}
use mathlib.Core.Path.{refl, ap}
use Rattle.model.specs.Limits.{identifier_width}
use Rattle.hir.specs.Words.{identifier_at}
use Rattle.hir.proofs.Widths.{wide_rises}
use Rattle.operands.specs.Begun.{start_of}
use Rattle.dataflow.proofs.Storing.{storing_inside, storing_next, storing_done}
use Rattle.operands.proofs.begin.read_starts.Goals as goal

pub identifier_at-requires : goal.identifier_at-requires
identifier_at-requires c =
    storing_inside c.loop-to.invariant (wide_rises identifier_width identifier_at) (omega arith) c.requires.list_in_bounds

pub overflow_add-next : goal.overflow_add-next
overflow_add-next c =
    omega (arith, storing_inside c.loop-to.invariant (wide_rises identifier_width identifier_at) (omega arith) c.requires.list_in_bounds)

pub loop-to-preserved : goal.loop-to-preserved
loop-to-preserved c = storing_next c.loop-to.invariant (omega arith) (ap start_of c.identifier_at.ensures) refl (omega arith)

pub returns : goal.returns
returns c = (storing_done c.loop-to.invariant (omega arith)).words
