use Rattle.building.proofs.Beside.{mutated}
use Rattle.building.proofs.Building.push_mutation.Goals as goal

pub returns : goal.returns
returns c =
    mutated _ _ _ _ _ _ _ _ _ _ c.requires.sound c.requires.self_bound.0 c.requires.self_bound.1.0 c.index.ensures c.push_mutation.ensures
