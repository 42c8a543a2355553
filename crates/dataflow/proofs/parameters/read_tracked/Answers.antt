use native.Mathlib.Omega.{arith}
use Rattle.dataflow.proofs.Tracking.{tracks_sound}
use Rattle.dataflow.proofs.Before.{params_begin, params_ready, context_begin, context_ready, few_places, blocks_begin, returns_below, tracked-read}
use Rattle.dataflow.proofs.parameters.read_tracked.Goals as goal

pub list_at-params-requires : goal.list_at-params-requires
list_at-params-requires c = params_begin c.requires.accepted c.requires.at_value

pub read_places-after_params-requires : goal.read_places-after_params-requires
read_places-after_params-requires c =
    params_ready c.requires.accepted c.requires.at_value c.list_at-params.ensures c.requires.sound

pub list_at-context-requires : goal.list_at-context-requires
list_at-context-requires c =
    context_begin c.requires.accepted c.requires.at_value c.list_at-params.ensures c.requires.sound c.read_places-after_params.ensures

pub read_places-after-requires : goal.read_places-after-requires
read_places-after-requires c =
    context_ready c.requires.accepted c.requires.at_value c.list_at-params.ensures c.requires.sound c.read_places-after_params.ensures c.list_at-context.ensures

pub overflow_add-after : goal.overflow_add-after
overflow_add-after c =
    omega (arith, blocks_begin c.requires.accepted c.requires.at_value c.list_at-params.ensures c.requires.sound c.read_places-after_params.ensures c.list_at-context.ensures c.read_places-after.ensures, c.requires.accepted.short)

pub place_at-returns-requires : goal.place_at-returns-requires
place_at-returns-requires c =
    omega (arith, blocks_begin c.requires.accepted c.requires.at_value c.list_at-params.ensures c.requires.sound c.read_places-after_params.ensures c.list_at-context.ensures c.read_places-after.ensures)

pub overflow_add-params : goal.overflow_add-params
overflow_add-params c =
    omega (arith, few_places c.requires.accepted c.requires.at_value c.list_at-params.ensures c.requires.sound c.read_places-after_params.ensures c.list_at-context.ensures)

pub track-requires : goal.track-requires
track-requires c =
    record { i_lt_most_tracked = (few_places c.requires.accepted c.requires.at_value c.list_at-params.ensures c.requires.sound c.read_places-after_params.ensures c.list_at-context.ensures, c.read_places-after.ensures.places.sound.room.size); identifier_lt_most_identifiers = returns_below c.requires.accepted c.requires.at_value c.list_at-params.ensures c.requires.sound c.read_places-after_params.ensures c.list_at-context.ensures c.read_places-after.ensures c.place_at-returns.ensures }

pub create-requires : goal.create-requires
create-requires c =
    record { sound = tracks_sound c.read_places-after.ensures.places.sound c.track.ensures; place_lt_most_identifiers = (returns_below c.requires.accepted c.requires.at_value c.list_at-params.ensures c.requires.sound c.read_places-after_params.ensures c.list_at-context.ensures c.read_places-after.ensures c.place_at-returns.ensures, tt) }

pub overflow_add-after-2 : goal.overflow_add-after-2
overflow_add-after-2 c =
    omega (arith, blocks_begin c.requires.accepted c.requires.at_value c.list_at-params.ensures c.requires.sound c.read_places-after_params.ensures c.list_at-context.ensures c.read_places-after.ensures, c.requires.accepted.short)

pub overflow_add-after-3 : goal.overflow_add-after-3
overflow_add-after-3 c =
    omega (arith, blocks_begin c.requires.accepted c.requires.at_value c.list_at-params.ensures c.requires.sound c.read_places-after_params.ensures c.list_at-context.ensures c.read_places-after.ensures, c.requires.accepted.short)

pub list_at-blocks-requires : goal.list_at-blocks-requires
list_at-blocks-requires c =
    blocks_begin c.requires.accepted c.requires.at_value c.list_at-params.ensures c.requires.sound c.read_places-after_params.ensures c.list_at-context.ensures c.read_places-after.ensures

pub returns : goal.returns
returns c =
    tracked-read c.requires.accepted c.requires.at_value c.list_at-params.ensures c.requires.sound c.read_places-after_params.ensures c.list_at-context.ensures c.read_places-after.ensures _ c.place_at-returns.ensures c.track.ensures c.create.ensures c.list_at-blocks.ensures
