use Rattle.summary.proofs.Counts.{counting_turn, counting_end}
use Rattle.summary.proofs.walks.put_counts.Goals as goal

pub loop-i-preserved : goal.loop-i-preserved
loop-i-preserved c = counting_turn _ _ _ _ c.loop-i.invariant c.loop-i-test.true c.put.ensures

pub returns : goal.returns
returns c = counting_end _ _ _ _ c.loop-i.invariant c.loop-i-test.false
