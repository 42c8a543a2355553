use Rattle.building.proofs.Stages.{relation}
use Rattle.building.proofs.Building.create_from.Goals as goal

pub returns : goal.returns
returns c =
    relation _ _ _ _ _ c.requires.sound c.requires.self_bound.0 _ c.index-index.ensures c.create_from.ensures
