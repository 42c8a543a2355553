use native.Mathlib.Omega.{arith}
use Rattle.building.proofs.PhiSteps.{phi_short, operands_room, operands_step}
use Rattle.building.proofs.Building.operands.Goals as goal

pub push_phi-requires : goal.push_phi-requires
push_phi-requires c =
    (c.requires.sound.0.room.size, (omega (arith, c.requires.sound.0.phis, c.requires.phi_fits.0.indexes, c.requires.phi_fits.1), (phi_short _ _ _ _ c.requires.sound.0 c.requires.sound.1 c.requires.phi_fits.0, omega (arith, c.index-index.ensures, c.requires.phi_fits.0.indexes, c.requires.phi_fits.1))))

pub store_operands-requires-clause-room : goal.store_operands-requires-clause-room
store_operands-requires-clause-room c = operands_room _ _ _ _ c.requires.sound.0 c.requires.sound.1 c.requires.phi_fits.0 _ c.index-index.ensures _ c.push_phi.ensures

pub returns : goal.returns
returns c =
    operands_step _ _ _ _ c.requires.sound.0 c.requires.sound.1 c.requires.phi_fits.0 _ c.index-index.ensures _ c.push_phi.ensures _ c.requires.phi_fits.1.0 c.requires.phi_fits.1.1 _ _ c.store_operands.ensures
