use native.Mathlib.Omega.{arith}
use Rattle.hir.specs.Words.{phi_from}
use Rattle.hir.proofs.Widths.{listed_rises}
use Rattle.copies.proofs.Passing.{phi_follows, phis-start, phis_turn, phis_inside, phis_end}
use Rattle.copies.proofs.past.past_phis.Goals as goal

pub list_at-list-requires : goal.list_at-list-requires
list_at-list-requires c = omega (arith, listed_rises phi_from phi_follows c.args.sheet.now c.args.from, c.requires)

pub loop-init : goal.loop-init
loop-init c = phis-start _ _ c.list_at-list.ensures

pub past_phi-next-requires : goal.past_phi-next-requires
past_phi-next-requires c = phis_inside _ _ _ c.loop.invariant (omega (arith, c.loop-test.true)) c.requires

pub loop-preserved : goal.loop-preserved
loop-preserved c = phis_turn _ _ _ _ c.loop-test.true c.loop.invariant c.past_phi-next.ensures

pub returns : goal.returns
returns c = phis_end _ _ _ c.loop.invariant (omega (arith, c.loop-test.false))
