use Rattle.building.proofs.Writes.{edge_full, edge-stored}
use Rattle.building.proofs.logs.add_edge.Goals as goal

pub returns-then-h-ge-MOST_RELATIONS : goal.returns-then-h-ge-MOST_RELATIONS
returns-then-h-ge-MOST_RELATIONS c =
    edge_full _ _ _ c.requires.room c.requires.w_value c.if-h-ge-MOST_RELATIONS.true c.over.ensures

pub returns : goal.returns
returns c =
    edge-stored _ _ _ c.requires.room c.requires.w_value c.if-h-ge-MOST_RELATIONS.false c.max-h.ensures
