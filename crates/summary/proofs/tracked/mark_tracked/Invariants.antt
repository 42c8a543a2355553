use Rattle.summary.proofs.Marking.{Marking}
use Rattle.summary.proofs.tracked.mark_tracked.Given as goal

abbrev pub invariant-loop-i : goal.invariant-loop-i
invariant-loop-i l = Marking l.initial.ws l.ws l.i
