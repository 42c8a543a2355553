use Rattle.model.specs.Dot.{dot}
use Rattle.writing.proofs.Writing.{writes_then}
use Rattle.dot.proofs.graph.put_graph.Goals as goal

pub returns : goal.returns
unfolding dot
returns c =
    writes_then c.put_bytes.ensures (writes_then c.put_nodes.ensures.wrote (writes_then c.put_edges.ensures.wrote c.put_bytes-2.ensures))
