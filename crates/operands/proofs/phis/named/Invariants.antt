use Rattle.operands.proofs.PhiNames.{Naming}
use Rattle.operands.proofs.phis.named.Given as goal

abbrev pub invariant-loop : goal.invariant-loop
invariant-loop l = Naming l.sheet l.x.0 l.count l.initial.next l.counter l.next
