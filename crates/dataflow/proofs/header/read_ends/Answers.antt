use native.Mathlib.Omega.{arith}
use mathlib.Core.Path.{refl, ap}
use Rattle.model.specs.Sheet.{Identifier}
use Rattle.hir.specs.Words.{wide, identifier_at}
use Rattle.model.specs.Limits.{identifier_width}
use Rattle.hir.proofs.Widths.{wide_rises}
use Rattle.dataflow.specs.Read.{end_of}
use Rattle.dataflow.proofs.Storing.{storing_all, storing_inside, storing_next, storing_done}
use Rattle.dataflow.proofs.header.read_ends.Goals as goal

pub loop-to-init : goal.loop-to-init
loop-to-init c = storing_all (wide identifier_width identifier_at) end_of _ _ _ _ _ (omega arith)

pub identifier_at-requires : goal.identifier_at-requires
identifier_at-requires c =
    storing_inside c.loop-to.invariant (wide_rises identifier_width identifier_at) (omega arith) c.requires.first_in_bounds

pub overflow_add-next : goal.overflow_add-next
overflow_add-next c =
    omega (arith, storing_inside c.loop-to.invariant (wide_rises identifier_width identifier_at) (omega arith) c.requires.first_in_bounds)

pub loop-to-preserved : goal.loop-to-preserved
loop-to-preserved c = storing_next c.loop-to.invariant (omega arith) (ap (λ (i : Identifier). i.end) c.identifier_at.ensures) refl (omega arith)

pub returns : goal.returns
returns c = storing_done c.loop-to.invariant (omega arith)
