use Rattle.workspace.proofs.Places.{is_below}
use Rattle.summary.proofs.Collecting.{collecting_turn, collecting_end}
use Rattle.summary.proofs.records.collect_effects.Goals as goal

pub collect_param_effects-requires-clause-identifier_lt_most_identifiers : goal.collect_param_effects-requires-clause-identifier_lt_most_identifiers
collect_param_effects-requires-clause-identifier_lt_most_identifiers c = (is_below _ _ c.tracked.ensures, c.requires.count_bound.1)

pub loop-i-preserved : goal.loop-i-preserved
loop-i-preserved c = collecting_turn _ _ _ c.loop-i.invariant c.loop-i-test.true c.tracked.ensures c.collect_param_effects.ensures

pub returns : goal.returns
returns c = collecting_end _ _ _ c.loop-i.invariant c.loop-i-test.false
