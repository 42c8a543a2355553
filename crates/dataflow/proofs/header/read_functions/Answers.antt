use native.Mathlib.Omega.{arith}
use mathlib.Core.Path.{refl}
use Rattle.hir.specs.Words.{placed, function_from}
use Rattle.hir.proofs.Widths.{function_rises}
use Rattle.dataflow.specs.Read.{stands_at}
use Rattle.dataflow.proofs.Storing.{storing_all, storing_next, storing_done, function_inside}
use Rattle.dataflow.proofs.header.read_functions.Goals as goal

pub loop-to-init : goal.loop-to-init
loop-to-init c = storing_all (placed function_from) stands_at _ _ _ _ _ (omega arith)

pub overflow_cast-ws : goal.overflow_cast-ws
overflow_cast-ws c =
    omega (arith, function_rises c.args.sheet.now c.loop-to.next, function_inside c.loop-to.invariant (omega arith) c.requires.first_in_bounds, c.requires.count_le_most_functions.1.1)

pub skip_function-next-requires : goal.skip_function-next-requires
skip_function-next-requires c = function_inside c.loop-to.invariant (omega arith) c.requires.first_in_bounds

pub loop-to-preserved : goal.loop-to-preserved
loop-to-preserved c = storing_next c.loop-to.invariant (omega arith) refl c.skip_function-next.ensures (omega arith)

pub returns : goal.returns
returns c = storing_done c.loop-to.invariant (omega arith)
