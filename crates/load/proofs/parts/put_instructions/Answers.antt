use native.Mathlib.Omega.{arith}
use Rattle.load.proofs.Putting.{drawing_start, drawing_room, drawing_turn, drawing_end}
use Rattle.load.proofs.parts.put_instructions.Goals as goal

pub loop-order-init : goal.loop-order-init
loop-order-init c = drawing_start _ _ _ _

pub put_instruction-requires : goal.put_instruction-requires
put_instruction-requires c =
    drawing_room c.put.ensures c.loop-order.invariant _ c.loop-order-test.true c.effect.ensures c.requires.seed_bound

pub loop-order-preserved : goal.loop-order-preserved
loop-order-preserved c =
    drawing_turn c.put.ensures c.loop-order.invariant c.loop-order-test.true c.effect.ensures c.put_instruction.ensures

pub returns : goal.returns
returns c = drawing_end c.put.ensures c.loop-order.invariant c.loop-order-test.false

pub returns-2 : goal.returns-2
returns-2 c =
    drawing_end c.put.ensures (drawing_turn c.put.ensures c.loop-order.invariant c.loop-order-test.true c.effect.ensures c.put_instruction.ensures) (omega arith)
