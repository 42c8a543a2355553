use native.Mathlib.Omega.{arith}
use mathlib.Core.Path.{ap, ◌∙◌}
use Rattle.std.proofs.lemmas.Slice.{between_is}
use Rattle.dot.specs.Lines.{row_text}
use Rattle.workspace.specs.Layout.{FBOUND}
use Rattle.workspace.specs.Rows.{rows_of, fb}
use Prim.Native.Nat.{◌+◌}
use Rattle.workspace.proofs.Rows.{Bounds, edge_bounds}
use Rattle.dot.proofs.Lengths.{put_none, put_as}
use Rattle.dot.proofs.Nodes.{edge_no_lines, edge_lines_lem}
use Rattle.dot.proofs.graph.put_edges_of.Goals as goal
use Rattle.dot.proofs.graph.put_edges_of.Goals.{Else-ws-x-eq-MISSING}

-- the bounds of the row of x
bounds : (c : Else-ws-x-eq-MISSING) → Bounds c.args.ws.now FBOUND (FBOUND + c.args.x) (FBOUND + c.args.x + 1) (fb (rows_of c.args.ws.now) c.args.x) (fb (rows_of c.args.ws.now) (c.args.x + 1))
bounds c = edge_bounds c.args.ws.now c.requires.indexed.0.size c.requires.indexed.0.good c.args.x c.requires.indexed.1

pub returns-then-ws-x-eq-MISSING : goal.returns-then-ws-x-eq-MISSING
returns-then-ws-x-eq-MISSING c =
    put_none (edge_no_lines _ c.requires.indexed.0.size _ c.requires.indexed.1 c.if-ws-x-eq-MISSING.true)

pub overflow_sub-lo : goal.overflow_sub-lo
overflow_sub-lo c = (bounds (goal.at.overflow_sub-lo c).Else-ws-x-eq-MISSING).in_lo

pub overflow_sub-hi : goal.overflow_sub-hi
overflow_sub-hi c = (bounds (goal.at.overflow_sub-hi c).Else-ws-x-eq-MISSING).in_hi

pub slice_bounds-put_row-count : goal.slice_bounds-put_row-count
slice_bounds-put_row-count c = omega (arith, bounds (goal.at.slice_bounds-put_row-count c).Else-ws-x-eq-MISSING)

pub slice_bounds-put_row-start : goal.slice_bounds-put_row-start
slice_bounds-put_row-start c = omega (arith, bounds (goal.at.slice_bounds-put_row-start c).Else-ws-x-eq-MISSING, c.requires.indexed.0.size)

pub slice_bounds-put_row-end : goal.slice_bounds-put_row-end
slice_bounds-put_row-end c = omega (arith, bounds (goal.at.slice_bounds-put_row-end c).Else-ws-x-eq-MISSING, c.requires.indexed.0.size)

pub put_row-requires-clause-edges_bound : goal.put_row-requires-clause-edges_bound
put_row-requires-clause-edges_bound c = omega (arith, bounds (goal.at.put_row-requires-clause-edges_bound c).Else-ws-x-eq-MISSING)

pub returns : goal.returns
returns c =
    put_as c.put_row.ensures
    (ap (row_text c.args.x) (between_is c.args.ws.now _ _)
    ∙ edge_lines_lem _ c.requires.indexed.0.size _ c.requires.indexed.1 c.if-ws-x-eq-MISSING.false (bounds (goal.at.returns c).Else-ws-x-eq-MISSING))
