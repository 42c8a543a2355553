use mathlib.Core.Bool.{not}
use mathlib.Core.Path.{ap}
use Rattle.building.proofs.Holds.{node_there, node_missing}
use Rattle.building.proofs.Steps.{alone_ready, from_ready, into_ready, from_missing, from_there}
use Rattle.building.proofs.graph.create_from.Goals.{then-exists, else-exists}
use Rattle.building.proofs.graph.create_from.Goals as goal

pub add_edge-requires-clause-w_value : goal.add_edge-requires-clause-w_value
add_edge-requires-clause-w_value c =
    from_ready _ _ _ _ c.requires.from_lt_most_identifiers.0 c.requires.from_lt_most_identifiers.1.0 c.pack-w.ensures _ _ _ _ c.create.ensures (node_there _ _ _ c.requires.from_lt_most_identifiers.0 _ c.exists.ensures (ap not c.if-exists.true))

pub add_entry-requires-clause-w_value : goal.add_entry-requires-clause-w_value
add_entry-requires-clause-w_value c = elim c.if-exists.branch [
  | then-exists w ↦ rw (w.ws-is, w.h-is)
      (into_ready _ _ _ _ c.requires.from_lt_most_identifiers.0 c.requires.from_lt_most_identifiers.1.0 c.pack-w.ensures _ _ _ _ c.create.ensures w.add_edge.ensures)
  | else-exists w ↦ rw (w.ws-is, w.h-is)
      (alone_ready _ _ _ _ c.requires.from_lt_most_identifiers.0 c.requires.from_lt_most_identifiers.1.0 c.pack-w.ensures _ _ _ _ c.create.ensures)
]

pub returns : goal.returns
returns c = elim c.if-exists.branch [
  | then-exists w ↦
      let s = rw (w.ws-is, w.h-is) at c.add_entry.ensures in
      from_there _ _ _ _ c.requires.from_lt_most_identifiers.0 c.requires.from_lt_most_identifiers.1.0 c.pack-w.ensures _ _ _ _ c.create.ensures c.requires.room w.add_edge.ensures s
  | else-exists w ↦
      let s = rw (w.ws-is, w.h-is) at c.add_entry.ensures in
      from_missing _ _ _ _ c.requires.from_lt_most_identifiers.0 c.requires.from_lt_most_identifiers.1.0 c.pack-w.ensures _ _ _ _ c.create.ensures c.requires.room (node_missing _ _ _ c.requires.from_lt_most_identifiers.0 _ c.exists.ensures (ap not w.if-exists.false)) s
]
