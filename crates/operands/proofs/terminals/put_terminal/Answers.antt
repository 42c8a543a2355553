use Rattle.operands.proofs.TerminalPlaces.{other_inside, other_room, other_put, return_room, return_put, throw_put}
use native.Mathlib.Omega.{arith}
use Rattle.operands.proofs.terminals.put_terminal.Goals as goal

pub put_places-requires : goal.put_places-requires
put_places-requires c =
    record { place_width_le_width = (omega arith, other_inside _ _ c.terminal_at.ensures c.in-Other.is c.requires.from_in_bounds); count_bound = other_room _ _ c.terminal_at.ensures c.in-Other.is _ c.requires.from_in_bounds c.requires.sheet_bound }

pub put_place-requires : goal.put_place-requires
put_place-requires c =
    return_room _ _ c.terminal_at.ensures c.in-Return.is _ c.requires.from_in_bounds c.requires.sheet_bound

pub returns-in-Other : goal.returns-in-Other
returns-in-Other c =
    other_put _ _ c.terminal_at.ensures c.in-Other.is _ c.put_places.ensures

pub returns-in-Return : goal.returns-in-Return
returns-in-Return c =
    return_put _ _ c.terminal_at.ensures c.in-Return.is _ c.returned.result c.with_effect.result c.returned.ensures c.with_effect.ensures c.put_place.ensures

pub returns-in-MaybeThrow : goal.returns-in-MaybeThrow
returns-in-MaybeThrow c = throw_put _ _ c.terminal_at.ensures c.in-MaybeThrow.is _ _
