use mathlib.Core.Bool.{not}
use mathlib.Core.Path.{ap}
use Rattle.building.proofs.Writes.{no_value, create_new, create_again}
use Rattle.building.proofs.graph.create.Goals.{then-exists, else-exists}
use Rattle.building.proofs.graph.create.Goals as goal

pub returns : goal.returns
returns c = elim c.if-exists.branch [
  | then-exists w ↦ rw (w.ws-is, w.h-is)
      (create_again _ _ _ _ c.requires.room c.requires.x_lt_most_identifiers.0 c.requires.x_lt_most_identifiers.1 _ _ w.leave_edges-h.ensures _ _ w.leave-h.ensures)
  | else-exists w ↦ rw (w.ws-is, w.h-is)
      (create_new _ _ _ _ c.requires.room c.requires.x_lt_most_identifiers.0 c.requires.x_lt_most_identifiers.1 (no_value c.args.ws.now c.args.x.0 c.exists.ensures (ap not w.if-exists.false)))
]
