use native.Mathlib.Omega.{arith}
use Rattle.model.specs.Operands.{instruction}
use Rattle.hir.specs.Words.{instruction_from}
use Rattle.hir.proofs.Widths.{listed_rises}
use Rattle.copies.proofs.Blocks.{instruction_follows}
use Rattle.operands.specs.Instruction.{BelowOf}
use Rattle.operands.proofs.Adding.{instruction_adds}
use Rattle.operands.proofs.Stepping.{looping_passable, looping_turn, looping_end, listed_passable, listed_passed}
use Rattle.operands.proofs.Pass.instructions.Goals as goal

pub list_at-list-requires : goal.list_at-list-requires
list_at-list-requires c =
    omega (arith, listed_rises instruction_from instruction_follows c.args.self.now.sheet.now c.args.from, c.requires.inside)

pub instruction-next-requires : goal.instruction-next-requires
instruction-next-requires c =
    looping_passable _ _ _ _ _ _ c.loop.invariant c.loop-test.true instruction_follows (listed_passable instruction_from BelowOf instruction c.args.self.now.section c.list_at-list.ensures c.requires)

pub loop-preserved : goal.loop-preserved
loop-preserved c =
    looping_turn _ _ _ _ _ _ c.loop.invariant c.loop-test.true (instruction_adds c.args.self.now.section) c.instruction-next.ensures

pub returns : goal.returns
returns c = listed_passed _ _ _ _ c.list_at-list.ensures (looping_end _ _ _ _ _ _ c.loop.invariant c.loop-test.false)
