use Rattle.operands.proofs.Instructions.{instruction_known_kept, listed_passed}
use Rattle.operands.proofs.InstructionValues.{kept_contexts}
use Rattle.operands.proofs.Pass.pass_listed.Goals as goal

pub start_all-requires : goal.start_all-requires
start_all-requires c =
    (c.requires.0, instruction_known_kept (kept_contexts c.mark_value.ensures.kept) c.requires.1)

pub returns-then-i : goal.returns-then-i
returns-then-i c =
    listed_passed c.if-i.true c.mark_value.ensures c.start_all.ensures
