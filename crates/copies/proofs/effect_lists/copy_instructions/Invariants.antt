use Rattle.hir.specs.Words.{instruction_from}
use Rattle.copies.specs.Words.{instruction_words}
use Rattle.copies.proofs.Copying.{Copying}
use Rattle.copies.proofs.effect_lists.copy_instructions.Given as goal

abbrev pub invariant-loop : goal.invariant-loop
invariant-loop l = Copying instruction_from (instruction_words l.section) l.sheet l.end l.initial.next l.initial.out l.counter l.next l.out
