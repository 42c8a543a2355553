use Rattle.model.specs.Limits.{place_width}
use Rattle.model.specs.Marks.{operand_effects, with_mark}
use Rattle.hir.specs.Numbers.{effect_number}
use Rattle.hir.specs.Words.{place_at}
use Rattle.operands.specs.Ranges.{ranges_of}
use Rattle.operands.specs.Known.{effects_in}
use Rattle.operands.proofs.Putting.{Putting}
use Rattle.operands.proofs.marks.Marks.put_marked.Given as goal

abbrev pub invariant-loop : goal.invariant-loop
invariant-loop l = Putting place_width place_at (with_mark (operand_effects (ranges_of l.self.ws.now).ends l.self.order.0 (effects_in l.self.sheet.now l.self.effects).what) (effect_number l.without)) l.self.sheet.now l.end l.initial.next l.initial.out l.counter l.next l.out
