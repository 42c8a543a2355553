use native.Mathlib.Omega.{arith}
use Rattle.hir.specs.Words.{effect_at}
use Rattle.model.specs.Limits.{effect_width}
use Rattle.hir.proofs.Widths.{wide_rises}
use Rattle.copies.proofs.Copying.{copying_start, copying_turn, copying_inside, copying_end}
use Rattle.copies.proofs.effect_lists.copy_list.Goals as goal

pub loop-init : goal.loop-init
loop-init c = copying_start _ _ _ _ _ _

pub copy_effect-requires : goal.copy_effect-requires
copy_effect-requires c =
    record { effect_width_in_bounds = copying_inside _ _ _ c.loop.invariant (wide_rises effect_width effect_at) c.loop-test.true c.requires.first_in_bounds; sheet_bound = omega (arith, c.loop.invariant.few, c.requires.sheet_bound) }

pub overflow_add-next : goal.overflow_add-next
overflow_add-next c =
    omega (arith, copying_inside _ _ _ c.loop.invariant (wide_rises effect_width effect_at) c.loop-test.true c.requires.first_in_bounds)

pub loop-preserved : goal.loop-preserved
loop-preserved c = copying_turn _ _ _ c.loop.invariant c.loop-test.true c.copy_effect.ensures

pub returns : goal.returns
returns c = copying_end _ _ _ c.loop.invariant c.loop-test.false
