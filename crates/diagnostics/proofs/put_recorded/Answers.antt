use Rattle.diagnostics.proofs.Diagnosing.{recorded_put, recorded_quiet, recorded_apart}
use Rattle.diagnostics.proofs.put_recorded.Goals as goal
use Rattle.diagnostics.proofs.put_recorded.Goals.{else-f-via-then-f+else-f-2, else-f-via-else-f}

pub returns-then-f-2 : goal.returns-then-f-2
returns-then-f-2 c = recorded_put _ _ _ c.if-f.true c.requires.first_in_bounds c.copy_effects.ensures

pub returns-else-f : goal.returns-else-f
returns-else-f c = elim c.else-f.branch [
  | else-f-via-then-f+else-f-2 w ↦ recorded_apart _ _ _ w.if-f-2.false
  | else-f-via-else-f w ↦ recorded_quiet _ _ _ w.if-f.false
]
