use Rattle.building.proofs.Ends.{laid_out}
use Rattle.building.proofs.Building.lay_out.Goals as goal

pub returns : goal.returns
returns c =
    laid_out _ _ c.requires _ c.lay_out.ensures
