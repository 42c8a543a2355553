use Rattle.hir.specs.Says.{place_is}
use Rattle.instructions.proofs.Terminal.{other_inside, other_builds, throw_ready, throw_builds, value-fits, value_known, return_ready, return_builds}
use Rattle.instructions.proofs.terminals.build_terminal.Goals as goal

pub past_places-requires : goal.past_places-requires
past_places-requires c =
    other_inside _ _ c.requires.ready c.in-Other.is c.terminal_at.ensures

pub assign-requires-clause-self_bound : goal.assign-requires-clause-self_bound
assign-requires-clause-self_bound c =
    let q = c.in-Return.is in
    let h = c.terminal_at.ensures in
    let w = c.requires.ready in
    (value-fits _ _ w q h, (value_known _ _ w q h, c.requires.place_below))

pub build_terminal_effects-requires : goal.build_terminal_effects-requires
build_terminal_effects-requires c =
    return_ready _ _ c.requires.ready c.in-Return.is c.terminal_at.ensures (place_is c.args.returns) c.assign.ensures

pub build_terminal_effects-requires-in-MaybeThrow : goal.build_terminal_effects-requires-in-MaybeThrow
build_terminal_effects-requires-in-MaybeThrow c =
    throw_ready _ _ c.requires.ready c.in-MaybeThrow.is c.terminal_at.ensures

pub returns-in-Other : goal.returns-in-Other
returns-in-Other c =
    other_builds _ _ c.requires.ready c.in-Other.is c.terminal_at.ensures (place_is c.args.returns) c.past_places.ensures

pub returns-in-Return : goal.returns-in-Return
returns-in-Return c =
    return_builds _ _ c.requires.ready c.in-Return.is c.terminal_at.ensures (place_is c.args.returns) c.assign.ensures c.build_terminal_effects.ensures

pub returns-in-MaybeThrow : goal.returns-in-MaybeThrow
returns-in-MaybeThrow c =
    throw_builds _ _ c.requires.ready c.in-MaybeThrow.is c.terminal_at.ensures (place_is c.args.returns) c.build_terminal_effects-in-MaybeThrow.ensures
