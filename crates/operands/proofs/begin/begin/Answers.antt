use Rattle.operands.proofs.Begun.{begun, identifiers_few}
use Rattle.operands.proofs.begin.begin.Goals as goal

pub returns : goal.returns
returns c =
    begun _ (identifiers_few _ _ c.requires.count_le_most_identifiers.0) c.requires.count_le_most_identifiers.1 c.clear.ensures c.read_starts.ensures c.copy_ends.ensures c.clear-2.ensures
