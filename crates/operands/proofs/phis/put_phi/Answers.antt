use Rattle.operands.proofs.PhiNames.{phi_inside}
use Rattle.operands.proofs.PhiPlaces.{phi_room, operands_inside, operands_room, phi_written}
use native.Mathlib.Omega.{arith}
use Rattle.operands.proofs.phis.put_phi.Goals as goal

pub phi_at-phi-requires : goal.phi_at-phi-requires
phi_at-phi-requires c = phi_inside _ _ c.requires.from_in_bounds

pub put_place-requires : goal.put_place-requires
put_place-requires c =
    phi_room _ _ _ c.requires.from_in_bounds c.requires.sheet_bound

pub put_places-requires : goal.put_places-requires
put_places-requires c =
    record { place_width_le_width = (omega arith, operands_inside _ _ c.phi_at-phi.ensures c.requires.from_in_bounds); count_bound = operands_room _ _ c.phi_at-phi.ensures _ _ c.requires.from_in_bounds c.requires.sheet_bound c.put_place.ensures.wrote.next }

pub returns : goal.returns
returns c =
    phi_written _ _ c.phi_at-phi.ensures c.args.place c.args.operands c.give.result c.give.ensures c.put_place.ensures c.put_places.ensures
