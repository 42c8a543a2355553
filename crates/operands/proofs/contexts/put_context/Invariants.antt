use Rattle.operands.proofs.InnerPut.{Putting}
use Rattle.operands.proofs.contexts.put_context.Given as goal

abbrev pub invariant-loop-i : goal.invariant-loop-i
invariant-loop-i l = Putting l.lists l.ws l.i-end l.initial.next l.first l.initial.out l.i l.next l.out
