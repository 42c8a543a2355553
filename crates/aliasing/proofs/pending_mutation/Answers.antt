use Rattle.aliasing.proofs.Pending.{made}
use Rattle.aliasing.proofs.pending_mutation.Goals as goal

pub returns : goal.returns
returns c = made _ _ _ _ _ _ _ _ _ c.kind_of.ensures c.then_some.ensures
