use native.Mathlib.Omega.{arith}
use mathlib.Core.Path.{sym, ◌∙◌}
use Rattle.model.specs.Limits.{effect_width}
use Rattle.hir.specs.Words.{effect_at}
use Rattle.hir.proofs.Widths.{wide_rises}
use Rattle.operands.proofs.Folding.{folding_has, folding_inside, folding_turn, folding_end}
use Rattle.operands.proofs.Marked.{marks_all}
use Rattle.operands.proofs.marks.Marks.mark_of.Goals as goal

pub effect_at-requires : goal.effect_at-requires
effect_at-requires c =
    folding_inside _ _ _ _ c.loop.invariant (wide_rises effect_width effect_at) c.loop-test.true c.requires.effects_in_bounds

pub mark_by-mark-requires : goal.mark_by-mark-requires
mark_by-mark-requires c =
    (folding_has _ _ _ _ c.loop.invariant c.loop-test.true c.effect_at.ensures, c.requires.every.1)

pub overflow_add-next : goal.overflow_add-next
overflow_add-next c =
    omega (arith, folding_inside _ _ _ _ c.loop.invariant (wide_rises effect_width effect_at) c.loop-test.true c.requires.effects_in_bounds)

pub loop-preserved : goal.loop-preserved
loop-preserved c =
    folding_turn _ _ _ _ c.loop.invariant c.loop-test.true c.effect_at.ensures c.mark_by-mark.ensures

pub returns : goal.returns
returns c = folding_end _ _ _ _ c.loop.invariant c.loop-test.false ∙ sym (marks_all _ _ _ _ _)
