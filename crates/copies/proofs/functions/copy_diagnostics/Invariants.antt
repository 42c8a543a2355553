use Rattle.model.specs.Answer.{diagnostic_words}
use Rattle.copies.proofs.Copying.{Copying}
use Rattle.copies.proofs.Errors.{diagnostic_from}
use Rattle.copies.proofs.functions.copy_diagnostics.Given as goal

abbrev pub invariant-loop : goal.invariant-loop
invariant-loop l = Copying diagnostic_from diagnostic_words l.lists l.end l.initial.next l.initial.own l.counter l.next l.own
