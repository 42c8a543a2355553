use native.Mathlib.Omega.{arith}
use mathlib.Core.Path.{refl}
use Rattle.model.specs.Traits.{conditionally_mutate_effect}
use Rattle.model.specs.Marks.{with_mark}
use Rattle.hir.specs.Says.{place_is}
use Rattle.operands.specs.Known.{places_at}
use Rattle.operands.specs.Instruction.{marks_now}
use Rattle.operands.proofs.Marked.{with_mark_lem}
use Rattle.operands.proofs.InstructionValues.{places_end, uses_put}
use Rattle.operands.proofs.instruction.put_uses.Goals as goal

pub put_marked-requires-2-clause-count_bound : goal.put_marked-requires-2-clause-count_bound
put_marked-requires-2-clause-count_bound c =
    let a = c.args in
    let marked = with_mark (marks_now a.sheet.now a.ws.now a.i) conditionally_mutate_effect in
    omega (arith, c.put_place.ensures.wrote.next, places_end marked a.sheet.now a.i.value_lvalues c.put_marked.ensures, c.requires.count_bound)

pub returns : goal.returns
returns c =
    let a = c.args in
    let ms = marks_now a.sheet.now a.ws.now a.i in
    uses_put ms (place_is a.i.lvalue) (places_at a.sheet.now a.i.value_lvalues).what (places_at a.sheet.now a.i.operands).what
    c.put_place.ensures (with_mark_lem ms conditionally_mutate_effect c.with_effect.ensures c.mark_of-mark.ensures refl) c.put_marked.ensures c.put_marked-2.ensures
