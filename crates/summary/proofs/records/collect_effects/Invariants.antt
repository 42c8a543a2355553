use Rattle.summary.proofs.Collecting.{Collecting}
use Rattle.summary.proofs.records.collect_effects.Given as goal

abbrev pub invariant-loop-i : goal.invariant-loop-i
invariant-loop-i l = Collecting l.ws l.first l.count l.initial.out l.i l.out
