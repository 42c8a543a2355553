use Rattle.dot.proofs.Listing.{row_turn, row_end}
use Rattle.dot.proofs.graph.put_row.Goals as goal

pub loop-w-preserved : goal.loop-w-preserved
loop-w-preserved c =
    row_turn _ _ _ c.loop-w.invariant c.requires.edges_bound c.loop-w-test.true c.put_edge_line.ensures

pub returns : goal.returns
returns c =
    row_end _ _ _ c.loop-w.invariant c.requires.edges_bound c.loop-w-test.false c.loop-w.auto.w-index-end
