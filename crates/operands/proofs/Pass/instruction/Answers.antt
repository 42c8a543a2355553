use native.Mathlib.Omega.{arith}
use mathlib.Core.Path.{refl}
use Rattle.operands.proofs.Instructions.{instruction_few, instruction_in, instruction_known, instruction_passed}
use Rattle.operands.proofs.InstructionValues.{kept_ranges}
use Rattle.operands.proofs.Pass.instruction.Goals as goal

pub name_all-requires : goal.name_all-requires
name_all-requires c =
    (c.requires.ready.known.size, (c.requires.functions, instruction_in c.instruction_at-i.ensures c.requires.inside c.requires.ready.below))

pub put_instruction-requires-clause-in_bounds : goal.put_instruction-requires-clause-in_bounds
put_instruction-requires-clause-in_bounds c =
    (omega (arith, c.name_all.ensures.kept.same, c.requires.ready.known.size), (c.requires.functions, instruction_in c.instruction_at-i.ensures c.requires.inside c.requires.ready.below))

pub put_instruction-requires-clause-count_bound : goal.put_instruction-requires-clause-count_bound
put_instruction-requires-clause-count_bound c =
    omega (arith, instruction_few c.instruction_at-i.ensures, c.requires.inside, c.requires.room)

pub pass_listed-requires : goal.pass_listed-requires
pass_listed-requires c =
    (c.requires.functions, instruction_known c.instruction_at-i.ensures c.requires.inside (kept_ranges c.name_all.ensures.kept) c.requires.ready)

pub returns : goal.returns
returns c =
    instruction_passed _ c.instruction_at-i.ensures c.requires.inside c.name_all.ensures c.put_instruction.ensures c.pass_listed.ensures refl
