use native.Mathlib.Omega.{arith}
use mathlib.Core.Path.{ap}
use Rattle.aliasing.specs.Pushes.{forward_w}
use Rattle.workspace.proofs.Rows.{edge_bounds, row_f_at}
use Rattle.writing.proofs.Writing.{wrote_as}
use Rattle.aliasing.proofs.pushes.push_edges.Goals as goal

pub returns : goal.returns
returns c =
    let x = c.args.entry.place.0 in
    let b = edge_bounds c.args.ws.now c.requires.room.size c.requires.room.good x c.requires.place_lt_most_identifiers in
    wrote_as c.push_forward.ensures
    (ap (forward_w _ _ _) (row_f_at c.args.ws.now c.requires.room.size x c.words_before-lo.result c.words_before-hi.result (omega (arith, b)) (omega (arith, b)) (omega (arith, b))))
