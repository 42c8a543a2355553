use Rattle.workspace.specs.Rows.{rows_of}
use Rattle.dot.specs.Lines.{most_line}
use Rattle.dot.proofs.Listing.{Listing}
use Rattle.dot.proofs.Nodes.{nodes_from}
use Rattle.dot.proofs.graph.put_nodes.Given as goal

abbrev pub invariant-loop-x : goal.invariant-loop-x
invariant-loop-x l = Listing most_line (nodes_from (rows_of l.ws) 0) (nodes_from (rows_of l.ws) l.x) l.initial.text l.x l.text
