use Rattle.building.proofs.Holds.{node_there, node_missing}
use Rattle.building.proofs.Steps.{effect_creates, effect_assigns}
use mathlib.Core.Bool.{not}
use mathlib.Core.Path.{ap}
use Rattle.building.proofs.graph.assign.Goals.{then-not-exists, else-not-exists}
use Rattle.building.proofs.graph.assign.Goals as goal

pub store-requires-clause-room : goal.store-requires-clause-room
store-requires-clause-room c = elim c.if-not-exists.branch [
  | then-not-exists w ↦ rw (w.ws-is, w.h-is) w.create.ensures.room
  | else-not-exists w ↦ rw (w.ws-is, w.h-is) c.requires.room
]

pub returns : goal.returns
returns c = elim c.if-not-exists.branch [
  | then-not-exists w ↦
      let s = rw (w.ws-is, w.h-is) at c.store.ensures in
      effect_creates _ _ _ _ _ (node_missing _ _ _ c.requires.from_lt_most_identifiers.1.0 _ c.exists.ensures (ap not w.if-not-exists.true)) c.requires.room w.create.ensures s
  | else-not-exists w ↦
      let s = rw (w.ws-is, w.h-is) at c.store.ensures in
      effect_assigns _ _ _ _ _ (node_there _ _ _ c.requires.from_lt_most_identifiers.1.0 _ c.exists.ensures (ap not w.if-not-exists.false)) s
]
