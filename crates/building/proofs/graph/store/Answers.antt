use mathlib.Core.Bool.{not}
use mathlib.Core.Path.{ap}
use Rattle.building.proofs.Holds.{node_there, node_missing}
use Rattle.building.proofs.Steps.{edge_ready, entry_ready, store_builds, store_no_from, store_no_into}
use Rattle.building.proofs.graph.store.Goals.{then-not-exists-via-then-not-exists, then-not-exists-via-else-not-exists+then-not-exists-2}
use Rattle.building.proofs.graph.store.Goals as goal

pub returns-then-not-exists : goal.returns-then-not-exists
returns-then-not-exists c = elim c.then-not-exists.branch [
  | then-not-exists-via-then-not-exists w ↦
      store_no_from _ _ _ _ _ _ c.requires.room (node_missing _ _ _ c.requires.from_lt_most_identifiers.0 _ c.exists.ensures (ap not w.if-not-exists.true))
  | then-not-exists-via-else-not-exists+then-not-exists-2 w ↦
      store_no_into _ _ _ _ _ _ c.requires.room (node_there _ _ _ c.requires.from_lt_most_identifiers.0 _ c.exists.ensures (ap not w.if-not-exists.false)) (node_missing _ _ _ c.requires.from_lt_most_identifiers.1.0 _ w.exists-else-not-exists.ensures (ap not w.if-not-exists-2.true))
]

pub add_edge-requires-clause-w_value : goal.add_edge-requires-clause-w_value
add_edge-requires-clause-w_value c =
    edge_ready _ _ _ _ _ c.requires.from_lt_most_identifiers.0 c.requires.from_lt_most_identifiers.1.0 c.pack-w.ensures _ _ (node_there _ _ _ c.requires.from_lt_most_identifiers.0 _ c.exists.ensures (ap not c.if-not-exists.false))

pub add_entry-requires-clause-w_value : goal.add_entry-requires-clause-w_value
add_entry-requires-clause-w_value c =
    entry_ready _ _ _ _ _ c.requires.from_lt_most_identifiers.0 c.requires.from_lt_most_identifiers.1.0 c.pack-w.ensures _ _ (node_there _ _ _ c.requires.from_lt_most_identifiers.1.0 _ c.exists-else-not-exists.ensures (ap not c.if-not-exists-2.false)) c.add_edge.ensures

pub returns : goal.returns
returns c =
    store_builds _ _ _ _ _ c.requires.from_lt_most_identifiers.0 c.requires.from_lt_most_identifiers.1.0 c.pack-w.ensures _ _ (node_there _ _ _ c.requires.from_lt_most_identifiers.0 _ c.exists.ensures (ap not c.if-not-exists.false)) (node_there _ _ _ c.requires.from_lt_most_identifiers.1.0 _ c.exists-else-not-exists.ensures (ap not c.if-not-exists-2.false)) c.add_edge.ensures c.add_entry.ensures
