use mathlib.Core.Path.{ap}
use Rattle.model.specs.Graph.{create}
use Rattle.building.proofs.Stages.{created}
use Rattle.building.proofs.Building.create.Goals as goal

pub returns : goal.returns
returns c =
    created _ _ (ap (create _) c.value_word.ensures.1) _ _ _ _ c.requires.sound c.create.ensures
