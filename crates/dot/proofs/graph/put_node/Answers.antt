use Rattle.dot.proofs.Lengths.{put_none, put_as}
use Rattle.dot.proofs.Nodes.{node_no_line, node_line_lem}
use Rattle.dot.proofs.graph.put_node.Goals as goal

pub returns-then-ws-x-ne-MISSING : goal.returns-then-ws-x-ne-MISSING
returns-then-ws-x-ne-MISSING c =
    put_as c.put_node_line.ensures (node_line_lem _ c.requires.in_bounds.0 _ c.requires.in_bounds.1 c.if-ws-x-ne-MISSING.true)

pub returns-else-ws-x-ne-MISSING : goal.returns-else-ws-x-ne-MISSING
returns-else-ws-x-ne-MISSING c =
    put_none (node_no_line _ c.requires.in_bounds.0 _ c.requires.in_bounds.1 c.if-ws-x-ne-MISSING.false)
