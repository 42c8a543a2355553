use native.Mathlib.Omega.{arith}
use Rattle.copies.proofs.Blocks.{effects_inside, after_order, copies_instruction}
use Rattle.copies.proofs.effect_lists.copy_instruction.Goals as goal

pub copy_list-requires : goal.copy_list-requires
copy_list-requires c =
    record { first_in_bounds = effects_inside c.instruction_at-i.ensures c.requires.from_in_bounds; sheet_bound = omega (arith, after_order c.instruction_at-i.ensures, c.requires.sheet_bound) }

pub returns : goal.returns
returns c = copies_instruction c.instruction_at-i.ensures _ c.copy_list.ensures
