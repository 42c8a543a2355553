use native.Mathlib.Omega.{arith}
use Rattle.model.specs.Dot.{node_line}
use Rattle.model.proofs.Digits.{digits_ten}
use Rattle.writing.proofs.Writing.{writes_then}
use Rattle.dot.specs.Lines.{most_line}
use Rattle.dot.proofs.Lengths.{node_short, put_short}
use Rattle.dot.proofs.lines.put_node_line.Goals as goal

pub put_bytes-requires-2 : goal.put_bytes-requires-2
put_bytes-requires-2 c = omega (arith, digits_ten c.args.x (omega arith))

pub returns : goal.returns
unfolding node_line
returns c =
    put_short most_line (node_short c.args.x (omega arith)) (writes_then c.put_bytes.ensures (writes_then c.put_digits.ensures c.put_bytes-2.ensures))
