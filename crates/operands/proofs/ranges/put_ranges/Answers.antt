use Rattle.operands.proofs.RangesPut.{ranges_turn, ranges_end}
use Rattle.operands.proofs.ranges.put_ranges.Goals as goal

pub loop-x-preserved : goal.loop-x-preserved
loop-x-preserved c =
    ranges_turn _ _ c.loop-x.invariant c.requires.count_le_most_identifiers.0 c.loop-x-test.true c.put_pair.ensures

pub returns : goal.returns
returns c =
    ranges_end _ _ c.loop-x.invariant c.loop-x-test.false c.put.ensures
