use native.Mathlib.Omega.{arith}
use mathlib.Core.Path.{refl}
use Rattle.hir.proofs.Widths.{block_rises}
use Rattle.copies.proofs.Blocks.{block-ends, phis_inside}
use Rattle.operands.proofs.WholeBlocks.{phis_passable, instructions_passable, terminal_passable, block_passed}
use Rattle.operands.proofs.Pass.block.Goals as goal

pub overflow_add-from : goal.overflow_add-from
overflow_add-from c =
    omega (arith, block_rises c.args.self.now.sheet.now c.args.from, c.requires.inside)

pub past_phis-inside-requires : goal.past_phis-inside-requires
past_phis-inside-requires c =
    omega (arith, phis_inside c.args.self.now.sheet.now c.args.from refl, c.requires.inside)

pub first_order-order-requires : goal.first_order-order-requires
first_order-order-requires c =
    omega (arith, block-ends c.args.self.now.sheet.now c.args.from c.past_phis-inside.ensures refl, c.requires.inside)

pub overflow_add-from-2 : goal.overflow_add-from-2
overflow_add-from-2 c =
    omega (arith, block_rises c.args.self.now.sheet.now c.args.from, c.requires.inside)

pub phis-instructions-requires : goal.phis-instructions-requires
phis-instructions-requires c =
    (c.args.self.now.lists.now, phis_passable _ _ c.requires)

pub instructions-terminal-requires : goal.instructions-terminal-requires
instructions-terminal-requires c =
    instructions_passable _ _ _ _ (c.phis-instructions.ensures _) c.requires

pub terminal-requires : goal.terminal-requires
terminal-requires c =
    (c.args.self.now.lists.now, terminal_passable _ _ _ _ (c.phis-instructions.ensures _) c.instructions-terminal.ensures c.requires)

pub returns : goal.returns
returns c =
    block_passed _ _ _ _ (c.phis-instructions.ensures _) c.instructions-terminal.ensures _ c.past_phis-inside.ensures c.first_order-order.ensures (c.terminal.ensures _)
