use Rattle.hir.specs.Words.{wide, effect_at}
use Rattle.model.specs.Limits.{effect_width}
use Rattle.copies.specs.Words.{copy_words}
use Rattle.copies.proofs.Copying.{Copying}
use Rattle.copies.proofs.effect_lists.copy_list.Given as goal

abbrev pub invariant-loop : goal.invariant-loop
invariant-loop l = Copying (wide effect_width effect_at) (copy_words l.section) l.sheet l.end l.initial.next l.initial.out l.counter l.next l.out
