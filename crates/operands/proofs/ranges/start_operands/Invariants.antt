use Rattle.model.specs.Operands.{start_if}
use Rattle.operands.proofs.RangeLoops.{PlaceRanging}
use Rattle.operands.proofs.ranges.start_operands.Given as goal

abbrev pub invariant-loop : goal.invariant-loop
invariant-loop l = PlaceRanging (start_if l.order.0 l.order.0) l.sheet l.end l.initial.next l.initial.ws l.counter l.next l.ws
