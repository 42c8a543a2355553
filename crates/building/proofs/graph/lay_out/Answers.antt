use Rattle.building.proofs.LayOut.{lay_edges, lay_entries, laid}
use Rattle.building.proofs.graph.lay_out.Goals as goal

pub sort-requires : goal.sort-requires
sort-requires c = lay_edges _ _ c.requires

pub sort-requires-2 : goal.sort-requires-2
sort-requires-2 c =
    lay_entries _ _ c.requires _ c.sort.ensures

pub returns : goal.returns
returns c =
    laid _ _ c.requires _ c.sort.ensures _ c.sort-2.ensures
