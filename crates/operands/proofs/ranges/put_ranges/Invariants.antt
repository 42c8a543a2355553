use Rattle.operands.proofs.RangesPut.{RangesLeft}
use Rattle.operands.proofs.ranges.put_ranges.Given as goal

abbrev pub invariant-loop-x : goal.invariant-loop-x
invariant-loop-x l = RangesLeft l.count l.ws l.initial.out l.x l.out
