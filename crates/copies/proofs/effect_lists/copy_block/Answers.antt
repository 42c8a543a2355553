use native.Mathlib.Omega.{arith}
use mathlib.Core.Path.{refl}
use Rattle.hir.proofs.Widths.{block_rises}
use Rattle.copies.proofs.Blocks.{after-phis, phis_inside, instructions_inside, block-ends, copies_block}
use Rattle.copies.proofs.effect_lists.copy_block.Goals as goal

pub overflow_add-from : goal.overflow_add-from
overflow_add-from c = omega (arith, block_rises c.args.sheet.now c.args.from, c.requires.from_in_bounds)

pub past_phis-inside-requires : goal.past_phis-inside-requires
past_phis-inside-requires c = omega (arith, phis_inside c.args.sheet.now c.args.from refl, c.requires.from_in_bounds)

pub copy_instructions-next-requires : goal.copy_instructions-next-requires
copy_instructions-next-requires c =
    record { from_in_bounds = omega (arith, instructions_inside c.args.sheet.now c.args.from c.past_phis-inside.ensures, c.requires.from_in_bounds); sheet_bound = omega (arith, after-phis c.args.sheet.now c.args.from c.past_phis-inside.ensures, c.requires.sheet_bound) }

pub past_terminal-requires : goal.past_terminal-requires
past_terminal-requires c =
    omega (arith, block-ends c.args.sheet.now c.args.from c.past_phis-inside.ensures c.copy_instructions-next.ensures.after, c.requires.from_in_bounds)

pub returns : goal.returns
returns c = copies_block _ _ c.past_phis-inside.ensures _ c.copy_instructions-next.ensures c.past_terminal.ensures
