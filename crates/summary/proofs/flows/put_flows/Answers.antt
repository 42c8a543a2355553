use Rattle.workspace.proofs.Places.{is_below}
use Rattle.summary.proofs.Flowing.{flowing_turn, flowing_end}
use Rattle.summary.proofs.flows.put_flows.Goals as goal

pub put_flow-requires-clause-identifier_lt_most_identifiers : goal.put_flow-requires-clause-identifier_lt_most_identifiers
put_flow-requires-clause-identifier_lt_most_identifiers c = (is_below _ _ c.tracked.ensures, c.requires.count_le_most_tracked.1)

pub loop-i-preserved : goal.loop-i-preserved
loop-i-preserved c = flowing_turn _ _ _ _ _ c.loop-i.invariant c.loop-i-test.true c.tracked.ensures c.put_flow.ensures

pub returns : goal.returns
returns c = flowing_end _ _ _ _ _ c.loop-i.invariant c.loop-i-test.false
