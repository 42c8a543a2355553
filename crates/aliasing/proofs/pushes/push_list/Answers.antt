use native.Mathlib.Omega.{arith}
use mathlib.Core.Path.{ap}
use Rattle.aliasing.specs.Pushes.{entries_w}
use Rattle.workspace.proofs.Rows.{list_bounds, row_b_at}
use Rattle.writing.proofs.Writing.{wrote_as}
use Rattle.aliasing.proofs.pushes.push_list.Goals as goal

pub returns : goal.returns
returns c =
    let b = list_bounds c.args.ws.now c.requires.room.size c.requires.room.good c.args.k c.requires.k_lt_most_lists in
    wrote_as c.push_entries.ensures
    (ap (entries_w _ _ _) (row_b_at c.args.ws.now c.requires.room.size c.args.k c.words_before-lo.result c.words_before-hi.result (omega (arith, b)) (omega (arith, b)) (omega (arith, b))))
