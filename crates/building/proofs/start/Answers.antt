use Rattle.building.proofs.Ends.{started}
use Rattle.building.proofs.start.Goals as goal

pub returns : goal.returns
returns c =
    started _ _ c.requires c.clear.ensures
