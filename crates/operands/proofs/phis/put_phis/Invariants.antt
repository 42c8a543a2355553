use Rattle.operands.specs.Ranges.{ranges_of}
use Rattle.operands.proofs.MarkedPhis.{MarkingPhis}
use Rattle.operands.proofs.phis.put_phis.Given as goal

abbrev pub invariant-loop-done : goal.invariant-loop-done
invariant-loop-done l = MarkingPhis l.sheet l.list (ranges_of l.ws) l.order.0 l.initial.out l.done l.next l.out
