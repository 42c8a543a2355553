use Rattle.operands.proofs.PhiStarts.{Starting}
use Rattle.operands.proofs.phis.start_phis.Given as goal

abbrev pub invariant-loop : goal.invariant-loop
invariant-loop l = Starting l.sheet l.order.0 l.before.0 l.end l.initial.next l.initial.ws l.counter l.next l.ws
