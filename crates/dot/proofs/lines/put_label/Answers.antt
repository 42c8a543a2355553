use native.Mathlib.Omega.{arith}
use Rattle.model.specs.Graph.{edge_kind}
use Rattle.model.proofs.Digits.{digits_ten}
use Rattle.workspace.specs.Graph.{relation_of}
use Rattle.writing.proofs.Writing.{writes_then}
use Rattle.dot.specs.Lines.{label_text}
use Rattle.dot.proofs.Lengths.{kind_short}
use Rattle.dot.proofs.lines.put_label.Goals as goal

pub put_bytes-requires-3 : goal.put_bytes-requires-3
put_bytes-requires-3 c =
    omega (arith, kind_short (edge_kind (relation_of c.args.list)), digits_ten c.args.index (omega arith))

pub returns : goal.returns
unfolding label_text
returns c =
    writes_then c.put_bytes.ensures (writes_then c.put_kind.ensures (writes_then c.put_bytes-2.ensures (writes_then c.put_digits.ensures c.put_bytes-3.ensures)))
