use native.Mathlib.Omega.{arith}
use Rattle.std.proofs.lemmas.Bool.Decides.{nat_tests}
use Rattle.operands.proofs.PhiNames.{phi_inside, naming_inside, naming_found, naming_turn, naming_end}
use Rattle.operands.proofs.phis.named.Goals as goal

pub phi_at-requires : goal.phi_at-requires
phi_at-requires c = phi_inside _ _ (naming_inside c.loop.invariant c.loop-test.true c.requires)

pub returns-then-eq : goal.returns-then-eq
returns-then-eq c = naming_found c.loop.invariant c.loop-test.true c.phi_at.ensures (grind (arith, nat_tests))

pub past_phi-next-requires : goal.past_phi-next-requires
past_phi-next-requires c = naming_inside c.loop.invariant c.loop-test.true c.requires

pub loop-preserved : goal.loop-preserved
loop-preserved c = naming_turn c.loop.invariant c.loop-test.true c.phi_at.ensures (grind (arith, nat_tests)) c.past_phi-next.ensures

pub returns : goal.returns
returns c = naming_end c.loop.invariant c.loop-test.false
