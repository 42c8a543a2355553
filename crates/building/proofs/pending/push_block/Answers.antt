use Rattle.building.proofs.Pushes.{block_pushed}
use Rattle.building.proofs.pending.push_block.Goals as goal

pub returns : goal.returns
returns c = block_pushed _ _ _ c.requires.0 c.requires.1
