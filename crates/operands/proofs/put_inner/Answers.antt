use Rattle.operands.proofs.WholePass.{inner_put}
use Rattle.operands.proofs.put_inner.Goals as goal

pub returns : goal.returns
returns c = inner_put c.put.ensures c.put_contexts.ensures c.requires.known c.patch.ensures
