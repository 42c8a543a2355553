use Rattle.aliasing.proofs.Pushing.{forward_turn}
use Rattle.aliasing.proofs.pushes.push_forward.Goals as goal

pub loop-i-preserved : goal.loop-i-preserved
loop-i-preserved c =
    forward_turn _ _ _ c.loop-i.invariant _ c.loop-i-test.true c.if-w-index.false (cc)
