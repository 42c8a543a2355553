use native.Mathlib.Omega.{arith}
use Rattle.hir.specs.Words.{instruction_from}
use Rattle.instructions.proofs.Building.{list_inside, list_ready, list_builds, loop_start, loop_done, loop_ready, loop_turn}
use Rattle.instructions.proofs.Instruction.{rises}
use Rattle.instructions.proofs.build_instructions.Goals as goal

pub list_at-list-requires : goal.list_at-list-requires
list_at-list-requires c = list_inside instruction_from rises _ _ c.requires

pub loop-init : goal.loop-init
loop-init c = loop_start (list_ready instruction_from _ _ c.list_at-list.ensures c.requires) (omega arith)

pub build_instruction-next-requires : goal.build_instruction-next-requires
build_instruction-next-requires c = loop_ready c.loop.invariant (omega arith) rises

pub loop-preserved : goal.loop-preserved
loop-preserved c = loop_turn c.loop.invariant (omega arith) c.build_instruction-next.ensures (omega arith)

pub returns : goal.returns
returns c = list_builds instruction_from _ _ c.list_at-list.ensures (loop_done c.loop.invariant (omega arith))
