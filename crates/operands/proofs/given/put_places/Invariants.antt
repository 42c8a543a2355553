use Rattle.operands.specs.Given.{given_to, last_place}
use Rattle.operands.proofs.Putting.{Putting}
use Rattle.operands.proofs.given.put_places.Given as goal

abbrev pub invariant-loop : goal.invariant-loop
invariant-loop l = Putting l.width (last_place l.width) (given_to l.given) l.sheet l.end l.initial.next l.initial.out l.counter l.next l.out
