use Rattle.hir.specs.Words.{block_from}
use Rattle.copies.specs.Words.{block_words}
use Rattle.copies.proofs.Copying.{Copying}
use Rattle.copies.proofs.effect_lists.copy_effects.Given as goal

abbrev pub invariant-loop : goal.invariant-loop
invariant-loop l = Copying block_from (block_words l.section) l.sheet l.end l.initial.next l.initial.out l.counter l.next l.out
