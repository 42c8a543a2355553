use Rattle.operands.proofs.InnerPut.{PuttingAll}
use Rattle.operands.proofs.contexts.put_contexts.Given as goal

abbrev pub invariant-loop-k : goal.invariant-loop-k
invariant-loop-k l = PuttingAll l.lists l.ws l.count l.initial.out l.k l.out
