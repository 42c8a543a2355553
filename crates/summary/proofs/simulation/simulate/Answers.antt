use native.Mathlib.Omega.{arith}
use Rattle.workspace.proofs.Places.{is_below}
use Rattle.summary.proofs.Turns.{cleared_start, cleared_marked, cleared_end, stored_size, turned_turn, turned_end}
use Rattle.summary.proofs.simulation.simulate.Goals as goal

pub loop-i-init : goal.loop-i-init
loop-i-init c = cleared_start _ c.requires.indexed _ c.clear_marks.ensures _ _ _ _

pub simulated-requires : goal.simulated-requires
simulated-requires c = (is_below _ _ c.tracked-into.ensures, omega (arith, c.requires.count_le_most_tracked))

pub put_flows-requires-clause-count_le_most_tracked : goal.put_flows-requires-clause-count_le_most_tracked
put_flows-requires-clause-count_le_most_tracked c =
    (c.requires.count_le_most_tracked.0, stored_size c.loop-i.invariant c.requires.count_le_most_tracked.0 c.loop-i-test.true c.tracked-into.ensures c.simulated.ensures c.mutate-walk.ensures)

pub loop-i-preserved : goal.loop-i-preserved
loop-i-preserved c =
    turned_turn c.loop-i.invariant c.requires.count_le_most_tracked.0 c.loop-i-test.true c.tracked-into.ensures c.simulated.ensures c.mutate-walk.ensures
    (c.requires.marked.0, cleared_marked _ c.requires.indexed _ c.clear_marks.ensures c.requires.marked.0 c.requires.marked.1) c.put_flows.ensures

pub returns : goal.returns
returns c = cleared_end _ c.requires.indexed _ c.clear_marks.ensures (turned_end c.loop-i.invariant c.loop-i-test.false)
