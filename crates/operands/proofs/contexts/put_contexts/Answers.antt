use Rattle.operands.proofs.InnerPut.{all_turn, all_end}
use Rattle.operands.proofs.contexts.put_contexts.Goals as goal

pub loop-k-preserved : goal.loop-k-preserved
loop-k-preserved c = all_turn c.loop-k.invariant c.loop-k-test.true c.put_context.ensures

pub returns : goal.returns
returns c = all_end c.loop-k.invariant c.loop-k-test.false
