use native.Mathlib.Omega.{arith}
use Rattle.building.proofs.Storing.{waking_done, waking_turn, phi_known}
use Rattle.building.proofs.phis.wake.Goals as goal

pub store_operands-requires-clause-stands : goal.store_operands-requires-clause-stands
store_operands-requires-clause-stands c = (phi_known c.loop-i.invariant c.loop-i-test.true, omega (arith, c.loop-i.invariant.few.1))

pub loop-i-preserved : goal.loop-i-preserved
loop-i-preserved c = waking_turn c.loop-i.invariant c.loop-i-test.true c.store_operands.ensures

pub returns : goal.returns
returns c = waking_done c.loop-i.invariant c.loop-i-test.false
