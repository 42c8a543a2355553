use Rattle.building.proofs.Beside.{rendered}
use Rattle.building.proofs.Building.push_render.Goals as goal

pub returns : goal.returns
returns c =
    rendered _ 0 _ _ _ _ c.requires.sound c.requires.self_bound.0 c.requires.self_bound.1.0 c.index.ensures c.push_render.ensures
