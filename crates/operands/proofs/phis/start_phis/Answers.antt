use native.Mathlib.Omega.{arith}
use Rattle.operands.proofs.PhiNames.{phi_inside}
use Rattle.operands.proofs.PhiStarts.{starting_inside, starting_below, starting_turn, starting_end}
use Rattle.operands.proofs.phis.start_phis.Goals as goal

pub phi_at-requires : goal.phi_at-requires
phi_at-requires c =
    phi_inside _ _ (starting_inside c.loop.invariant c.loop-test.true c.requires.list_in_bounds)

pub start_if-requires : goal.start_if-requires
start_if-requires c =
    (starting_below c.loop.invariant c.loop-test.true c.phi_at.ensures, omega (arith, c.loop.invariant.ranging.kept.same, c.requires.every.1))

pub past_phi-next-requires : goal.past_phi-next-requires
past_phi-next-requires c =
    starting_inside c.loop.invariant c.loop-test.true c.requires.list_in_bounds

pub loop-preserved : goal.loop-preserved
loop-preserved c =
    starting_turn c.loop.invariant c.loop-test.true c.phi_at.ensures c.start_if.ensures c.past_phi-next.ensures

pub returns : goal.returns
returns c = starting_end c.loop.invariant c.loop-test.false
