use native.Mathlib.Omega.{arith}
use Rattle.dataflow.proofs.Tracking.{tracks_sound, placing_start, placing_done, place_inside, place-below, placing_turn}
use Rattle.dataflow.proofs.parameters.read_places.Goals as goal

pub loop-i-init : goal.loop-i-init
loop-i-init c = placing_start c.requires (omega arith)

pub place_at-p-requires : goal.place_at-p-requires
place_at-p-requires c = place_inside c.loop-i.invariant (omega arith)

pub track-requires-clause-identifier_lt_most_identifiers : goal.track-requires-clause-identifier_lt_most_identifiers
track-requires-clause-identifier_lt_most_identifiers c = place-below c.loop-i.invariant (omega arith) c.place_at-p.ensures

pub create-requires-clause-sound : goal.create-requires-clause-sound
create-requires-clause-sound c = tracks_sound c.loop-i.invariant.ready.sound c.track.ensures

pub create-requires-clause-place_lt_most_identifiers : goal.create-requires-clause-place_lt_most_identifiers
create-requires-clause-place_lt_most_identifiers c = (place-below c.loop-i.invariant (omega arith) c.place_at-p.ensures, tt)

pub overflow_add-next : goal.overflow_add-next
overflow_add-next c = omega (arith, place_inside c.loop-i.invariant (omega arith))

pub loop-i-preserved : goal.loop-i-preserved
loop-i-preserved c = placing_turn c.loop-i.invariant (omega arith) c.place_at-p.ensures c.track.ensures c.create.ensures (omega arith)

pub returns : goal.returns
returns c = placing_done c.loop-i.invariant (omega arith)
