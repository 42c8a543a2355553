use native.Mathlib.Omega.{arith}
use Rattle.workspace.proofs.Places.{is_below}
use Rattle.summary.proofs.Marking.{mark-below, marking_turn, marking_end}
use Rattle.summary.proofs.tracked.mark_tracked.Goals as goal

pub marked-p-requires : goal.marked-p-requires
marked-p-requires c = (is_below _ _ c.tracked.ensures, omega arith)

pub track-requires-clause-identifier_lt_most_identifiers : goal.track-requires-clause-identifier_lt_most_identifiers
track-requires-clause-identifier_lt_most_identifiers c = mark-below _ _ _ c.marked-p.ensures (is_below _ _ c.tracked.ensures)

pub loop-i-preserved : goal.loop-i-preserved
loop-i-preserved c = marking_turn c.loop-i.invariant c.tracked.ensures c.marked-p.ensures c.track.ensures

pub returns : goal.returns
returns c = marking_end c.loop-i.invariant _ (omega arith)
