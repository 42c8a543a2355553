use Rattle.building.proofs.Storing.{phi_pushed}
use Rattle.building.proofs.phis.push_phi.Goals as goal

pub returns : goal.returns
returns c = phi_pushed _ _ _ _ c.requires.0 c.requires.1.0
