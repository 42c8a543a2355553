use Rattle.workspace.proofs.Places.{is_below}
use Rattle.summary.proofs.Marking.{putting_turn, putting_end}
use Rattle.summary.proofs.tracked.put_marked.Goals as goal

pub marked-requires : goal.marked-requires
marked-requires c = (is_below _ _ c.tracked.ensures, c.requires.count_bound.1)

pub loop-i-preserved : goal.loop-i-preserved
loop-i-preserved c = putting_turn _ _ _ c.loop-i.invariant c.loop-i-test.true c.tracked.ensures c.marked.ensures c.put_place.ensures

pub returns : goal.returns
returns c = putting_end _ _ _ c.loop-i.invariant c.loop-i-test.false c.put.ensures
