use Rattle.aliasing.proofs.Walks.{walk_start, walk_turn, walk_end}
use Rattle.aliasing.proofs.walk.Goals as goal

pub loop-top-init : goal.loop-top-init
loop-top-init c = walk_start c.args.m c.args.base c.args.ws.now c.args.top c.args.hand c.requires

pub loop-top-preserved : goal.loop-top-preserved
loop-top-preserved c =
    walk_turn _ _ _ _ _ _ _ _ _ c.loop-top.invariant _ _ _ c.loop-top-test.true c.step-left.ensures

pub returns : goal.returns
returns c = walk_end _ _ _ _ _ _ _ _ _ c.loop-top.invariant c.loop-top-test.false
