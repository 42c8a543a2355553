use Rattle.model.specs.Operands.{name_lvalue}
use Rattle.operands.proofs.RangeLoops.{PlaceRanging}
use Rattle.operands.proofs.ranges.name_lvalues.Given as goal

abbrev pub invariant-loop : goal.invariant-loop
invariant-loop l = PlaceRanging (name_lvalue l.order.0) l.sheet l.end l.initial.next l.initial.ws l.counter l.next l.ws
