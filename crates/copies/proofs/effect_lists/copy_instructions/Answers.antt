use native.Mathlib.Omega.{arith}
use Rattle.hir.specs.Words.{instruction_from}
use Rattle.hir.proofs.Widths.{listed_rises}
use Rattle.hir.proofs.Several.{list_inside}
use Rattle.copies.proofs.Blocks.{instruction_follows}
use Rattle.copies.proofs.Copying.{copying_start, copying_turn, copying_inside, copying_end, copies_listed}
use Rattle.copies.proofs.effect_lists.copy_instructions.Goals as goal

pub list_at-list-requires : goal.list_at-list-requires
list_at-list-requires c = omega (arith, listed_rises instruction_from instruction_follows c.args.sheet.now c.args.from, c.requires.from_in_bounds)

pub loop-init : goal.loop-init
loop-init c = copying_start _ _ _ _ _ _

pub copy_instruction-next-requires : goal.copy_instruction-next-requires
copy_instruction-next-requires c =
    record { from_in_bounds = copying_inside _ _ _ c.loop.invariant instruction_follows c.loop-test.true (list_inside instruction_from _ _ c.list_at-list.ensures c.requires.from_in_bounds); sheet_bound = omega (arith, c.loop.invariant.few, c.list_at-list.ensures.first, c.requires.sheet_bound) }

pub loop-preserved : goal.loop-preserved
loop-preserved c = copying_turn _ _ _ c.loop.invariant c.loop-test.true c.copy_instruction-next.ensures

pub returns : goal.returns
returns c = copies_listed _ _ c.list_at-list.ensures (copying_end _ _ _ c.loop.invariant c.loop-test.false)
