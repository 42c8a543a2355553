use native.Mathlib.Omega.{arith}
use Rattle.model.specs.Marks.{operand_effects}
use Rattle.hir.specs.Numbers.{effect_number}
use Rattle.operands.specs.Ranges.{ranges_of}
use Rattle.operands.specs.Known.{effects_in}
use Rattle.operands.proofs.Putting.{putting_inside, putting_room, putting_turn, putting_end}
use Rattle.operands.proofs.Marked.{with_mark_lem}
use Rattle.operands.proofs.marks.Marks.put_marked.Goals as goal

pub place_at-p-requires : goal.place_at-p-requires
place_at-p-requires c =
    putting_inside _ _ _ _ c.loop.invariant c.loop-test.true c.requires.list_in_bounds

pub put_place-requires : goal.put_place-requires
put_place-requires c =
    omega (arith, putting_room _ _ _ _ c.loop.invariant, c.loop-test.true, c.requires.count_bound)

pub overflow_add-next : goal.overflow_add-next
overflow_add-next c =
    omega (arith, putting_inside _ _ _ _ c.loop.invariant c.loop-test.true c.requires.list_in_bounds)

pub loop-preserved : goal.loop-preserved
loop-preserved c =
    let a = c.args in
    putting_turn _ _ _ _ c.loop.invariant (omega arith) c.loop-test.true c.put_place.ensures
    (with_mark_lem (operand_effects (ranges_of a.self.now.ws.now).ends a.self.now.order.0 (effects_in a.self.now.sheet.now a.self.now.effects).what) (effect_number a.without)
    c.with_effect.ensures c.mark_of.ensures c.place_at-p.ensures)

pub returns : goal.returns
returns c = putting_end _ _ _ _ c.loop.invariant c.loop-test.false
