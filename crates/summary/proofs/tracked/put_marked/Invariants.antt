use Rattle.summary.proofs.Marking.{Putting}
use Rattle.summary.proofs.tracked.put_marked.Given as goal

abbrev pub invariant-loop-i : goal.invariant-loop-i
invariant-loop-i l = Putting l.ws l.first l.count l.initial.out l.i l.out
