use Rattle.dot.proofs.Listing.{say_turn, say_end}
use Rattle.dot.proofs.Nodes.{nodes_from, nodes_all, nodes_next, nodes_none}
use Rattle.workspace.specs.Rows.{rows_of}
use Rattle.model.specs.Limits.{most_identifiers}
use Rattle.dot.proofs.graph.put_nodes.Goals as goal

pub loop-x-preserved : goal.loop-x-preserved
loop-x-preserved c =
    say_turn (nodes_from (rows_of c.args.ws.now)) c.loop-x.invariant c.put_node.ensures (nodes_next _ _ c.loop-x-test.true)

pub returns : goal.returns
returns c =
    say_end (nodes_from (rows_of c.args.ws.now)) c.loop-x.invariant most_identifiers c.loop-x.auto.x-end (nodes_none _ _ c.loop-x-test.false) (nodes_all _)
