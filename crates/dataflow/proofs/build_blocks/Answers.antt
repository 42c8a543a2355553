use native.Mathlib.Omega.{arith}
use Rattle.instructions.proofs.Building.{loop_start, loop_done, loop_ready, loop_turn}
use Rattle.dataflow.proofs.Block.{rises}
use Rattle.dataflow.proofs.build_blocks.Goals as goal

pub loop-init : goal.loop-init
loop-init c = loop_start c.requires.ready (omega arith)

pub build_block-next-requires : goal.build_block-next-requires
build_block-next-requires c = record { place_below = c.requires.place_below; ready = loop_ready c.loop.invariant (omega arith) rises }

pub loop-preserved : goal.loop-preserved
loop-preserved c = loop_turn c.loop.invariant (omega arith) c.build_block-next.ensures (omega arith)

pub returns : goal.returns
returns c = loop_done c.loop.invariant (omega arith)
