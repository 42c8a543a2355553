use Rattle.workspace.specs.Rows.{rows_of}
use Rattle.dot.specs.Lines.{most_row}
use Rattle.dot.proofs.Listing.{Listing}
use Rattle.dot.proofs.Nodes.{edges_from}
use Rattle.dot.proofs.graph.put_edges.Given as goal

abbrev pub invariant-loop-x : goal.invariant-loop-x
invariant-loop-x l = Listing most_row (edges_from (rows_of l.ws) 0) (edges_from (rows_of l.ws) l.x) l.initial.text l.x l.text
