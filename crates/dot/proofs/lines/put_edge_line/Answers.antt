use Prim.Native.Nat.{◌%◌}
use native.Mathlib.Omega.{arith}
use Rattle.workspace.specs.Graph.{edge_row}
use Rattle.writing.proofs.Writing.{writes_as, writes_then}
use Rattle.dot.specs.Lines.{most_line}
use Rattle.dot.proofs.Lengths.{ends_short, line_parts, edge_short, put_short}
use Rattle.dot.proofs.lines.put_edge_line.Goals as goal

pub put_label-requires : goal.put_label-requires
put_label-requires c =
    (omega arith, omega (arith, ends_short c.args.x (c.args.w % 512) (omega arith) (omega arith)))

pub returns : goal.returns
unfolding edge_row
returns c =
    put_short most_line (edge_short c.args.x c.args.w (omega arith) (omega arith)) (writes_as (writes_then c.put_ends.ensures c.put_label.ensures) (line_parts _ (edge_row c.args.w)))
