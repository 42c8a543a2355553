use Rattle.aliasing.proofs.Writes.{accepted}
use Rattle.aliasing.proofs.accept.Goals as goal

pub returns : goal.returns
returns c = accepted _ _ _ _ _ c.record.ensures c.raise_end.ensures
