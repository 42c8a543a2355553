use Rattle.operands.proofs.PhiNames.{phi_inside}
use Rattle.operands.proofs.MarkedPhis.{marking_start, marking_inside, done_inside, marking_below, kept_turn, marked_turn, marking_as, marking_end}
use Rattle.operands.proofs.phis.put_phis.Goals as goal
use Rattle.operands.proofs.phis.put_phis.Goals.{then-named, else-named}

pub loop-done-init : goal.loop-done-init
loop-done-init c = marking_start _ _ _ _ _ c.requires.every.0

pub phi_at-requires : goal.phi_at-requires
phi_at-requires c = phi_inside _ _ (marking_inside c.loop-done.invariant c.loop-done-test.true c.requires.list_in_bounds)

pub named-requires : goal.named-requires
named-requires c = done_inside c.loop-done.invariant c.requires.list_in_bounds

pub put_phi-requires-clause-from_in_bounds : goal.put_phi-requires-clause-from_in_bounds
put_phi-requires-clause-from_in_bounds c = marking_inside c.loop-done.invariant c.loop-done-test.true c.requires.list_in_bounds

pub capture_or_read-effect-requires : goal.capture_or_read-effect-requires
capture_or_read-effect-requires c = (marking_below c.loop-done.invariant c.loop-done-test.true c.phi_at.ensures, c.requires.every.1)

pub put_phi-requires-else-named-clause-from_in_bounds : goal.put_phi-requires-else-named-clause-from_in_bounds
put_phi-requires-else-named-clause-from_in_bounds c = marking_inside c.loop-done.invariant c.loop-done-test.true c.requires.list_in_bounds

pub past_phi-next-requires : goal.past_phi-next-requires
past_phi-next-requires c = marking_inside c.loop-done.invariant c.loop-done-test.true c.requires.list_in_bounds

pub loop-done-preserved : goal.loop-done-preserved
loop-done-preserved c =
    let phi = c.phi_at.ensures in
    let next = c.past_phi-next.ensures in
    let named = c.named.ensures in
    elim c.if-named.branch [
      | then-named w ↦ marking_as (kept_turn c.loop-done.invariant c.loop-done-test.true phi next named w.if-named.true w.put_phi.ensures) w.out-is
      | else-named w ↦ marking_as (marked_turn c.loop-done.invariant c.loop-done-test.true phi next named w.if-named.false w.capture_or_read-effect.result w.capture_or_read-effect.ensures w.put_phi-else-named.ensures) w.out-is
    ]

pub returns : goal.returns
returns c = marking_end c.loop-done.invariant c.loop-done-test.false
