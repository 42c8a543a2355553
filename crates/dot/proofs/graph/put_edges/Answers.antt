use Rattle.dot.proofs.Listing.{say_turn, say_end}
use Rattle.dot.proofs.Nodes.{edges_from, edges_all, edges_next, edges_none}
use Rattle.workspace.specs.Rows.{rows_of}
use Rattle.model.specs.Limits.{most_identifiers}
use Rattle.dot.proofs.graph.put_edges.Goals as goal

pub loop-x-preserved : goal.loop-x-preserved
loop-x-preserved c =
    say_turn (edges_from (rows_of c.args.ws.now)) c.loop-x.invariant c.put_edges_of.ensures (edges_next _ _ c.loop-x-test.true)

pub returns : goal.returns
returns c =
    say_end (edges_from (rows_of c.args.ws.now)) c.loop-x.invariant most_identifiers c.loop-x.auto.x-end (edges_none _ _ c.loop-x-test.false) (edges_all _)
