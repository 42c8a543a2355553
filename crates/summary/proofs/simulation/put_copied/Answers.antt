use Rattle.summary.proofs.Written.{copied_put, copied-not}
use Rattle.summary.proofs.simulation.put_copied.Goals as goal

pub returns-then-f : goal.returns-then-f
returns-then-f c = copied_put _ _ c.requires.first_in_bounds c.copy_effects.ensures

pub returns-else-f : goal.returns-else-f
returns-else-f c = copied-not _ _ c.if-f.false _
