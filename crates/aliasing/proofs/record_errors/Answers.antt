use borrow.Author.Tests.{eq-eqb, ne_eqb}
use Rattle.writing.proofs.Writing.{wrote_none}
use Rattle.aliasing.specs.Accepts.{hand_w}
use Rattle.aliasing.proofs.record_errors.Goals as goal
use Rattle.aliasing.proofs.record_errors.Goals.{else-errors-via-then-errors+else-ws-x-eq0, else-errors-via-else-errors}

pub returns-then-ws-x-eq0 : goal.returns-then-ws-x-eq0
unfolding hand_w
returns-then-ws-x-eq0 c = simp (c.if-errors.true, eq-eqb _ 0 c.if-ws-x-eq0.true) c.hand_over_function.ensures

pub returns : goal.returns
unfolding hand_w
returns c =
    elim c.else-errors.branch [
      | else-errors-via-then-errors+else-ws-x-eq0 w ↦ simp (w.if-errors.true, ne_eqb _ 0 w.if-ws-x-eq0.false) (wrote_none _ _)
      | else-errors-via-else-errors w ↦ simp w.if-errors.false (wrote_none _ _)
    ]
