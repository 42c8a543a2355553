use Rattle.aliasing.proofs.Pending.{Processing}
use Rattle.aliasing.proofs.process_mutations.Given as goal

abbrev pub invariant-loop-i : goal.invariant-loop-i
invariant-loop-i l = Processing l.should_record_errors l.initial.ws l.count l.ws l.i l.hand
