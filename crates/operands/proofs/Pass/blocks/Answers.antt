use Rattle.copies.proofs.Blocks.{block_follows}
use Rattle.operands.proofs.Adding.{block_adds}
use Rattle.operands.proofs.Stepping.{looping_passable, looping_turn, looping_end}
use Rattle.operands.proofs.Pass.blocks.Goals as goal

pub block-next-requires : goal.block-next-requires
block-next-requires c =
    looping_passable _ _ _ _ _ _ c.loop.invariant c.loop-test.true block_follows c.requires

pub loop-preserved : goal.loop-preserved
loop-preserved c =
    looping_turn _ _ _ _ _ _ c.loop.invariant c.loop-test.true (block_adds c.args.self.now.section c.args.self.now.expression) c.block-next.ensures

pub returns : goal.returns
returns c = looping_end _ _ _ _ _ _ c.loop.invariant c.loop-test.false
