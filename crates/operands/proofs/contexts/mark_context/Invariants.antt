use Rattle.model.specs.Marks.{operand_effects}
use Rattle.operands.specs.Ranges.{ranges_of}
use Rattle.operands.specs.Known.{effects_in}
use Rattle.operands.proofs.InnerMarks.{Setting}
use Rattle.operands.proofs.contexts.mark_context.Given as goal

abbrev pub invariant-loop-i : goal.invariant-loop-i
invariant-loop-i l = Setting (operand_effects (ranges_of l.initial.ws).ends l.order.0 (effects_in l.sheet l.effects).what) l.lists l.initial.ws l.i-end l.initial.next l.first l.ws l.i l.next
