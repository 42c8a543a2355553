use Rattle.summary.proofs.Counts.{Counting}
use Rattle.summary.proofs.walks.put_counts.Given as goal

abbrev pub invariant-loop-i : goal.invariant-loop-i
invariant-loop-i l = Counting l.ws l.first l.stride l.count l.initial.out l.i l.out
