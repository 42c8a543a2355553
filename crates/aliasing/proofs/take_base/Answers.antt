use Rattle.aliasing.proofs.Begin.{Lowered, lowered_cleared, lowered_not, base_taken}
use Rattle.aliasing.proofs.take_base.Goals as goal
use Rattle.aliasing.proofs.take_base.Goals.{then-ws-gt-MOST_BASE, else-ws-gt-MOST_BASE}

pub returns : goal.returns
returns c =
    let lowered : Lowered c.args.ws.now c.if-ws-gt-MOST_BASE.ws =
    elim c.if-ws-gt-MOST_BASE.branch [
      | then-ws-gt-MOST_BASE w ↦ lowered_cleared _ _ _ w.clear_marks.ensures w.ws-is
      | else-ws-gt-MOST_BASE w ↦ lowered_not _ _ c.requires.none_above w.if-ws-gt-MOST_BASE.false w.ws-is
    ] in
    base_taken _ _ c.requires.indexed lowered
