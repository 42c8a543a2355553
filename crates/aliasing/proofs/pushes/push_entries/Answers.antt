use Rattle.aliasing.proofs.Pushing.{entries_turn, entries-skipped, entries_done}
use Rattle.aliasing.proofs.pushes.push_entries.Goals as goal

pub loop-i-preserved-then-w-index : goal.loop-i-preserved-then-w-index
loop-i-preserved-then-w-index c =
    entries-skipped _ _ _ c.loop-i.invariant c.loop-i-test.true c.if-w-index.true

pub loop-i-preserved : goal.loop-i-preserved
loop-i-preserved c =
    entries_turn _ _ _ c.loop-i.invariant _ c.loop-i-test.true c.if-w-index.false c.pack.ensures

pub returns : goal.returns
returns c = entries_done _ _ _ c.loop-i.invariant c.loop-i-test.false
