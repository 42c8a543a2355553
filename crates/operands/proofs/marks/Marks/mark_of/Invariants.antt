use Rattle.model.specs.Limits.{effect_width}
use Rattle.hir.specs.Words.{wide, effect_at}
use Rattle.hir.specs.Numbers.{effect_number}
use Rattle.operands.specs.Ranges.{ranges_of}
use Rattle.operands.specs.Known.{IntoBelow}
use Rattle.operands.proofs.Folding.{Folding}
use Rattle.operands.proofs.Marked.{mark_by}
use Rattle.operands.proofs.marks.Marks.mark_of.Given as goal

abbrev pub invariant-loop : goal.invariant-loop
invariant-loop l = Folding (wide effect_width effect_at) IntoBelow (mark_by (ranges_of l.self.ws.now).ends l.self.order.0 l.x.0) l.self.sheet.now l.end l.initial.next (effect_number l.initial.mark) l.counter l.next (effect_number l.mark)
