use Rattle.model.specs.Operands.{instruction}
use Rattle.hir.specs.Words.{instruction_from}
use Rattle.operands.specs.Instruction.{BelowOf}
use Rattle.operands.proofs.Stepping.{Looping}
use Rattle.operands.proofs.Pass.instructions.Given as goal

abbrev pub invariant-loop : goal.invariant-loop
invariant-loop l = Looping instruction_from BelowOf instruction l.self.section l.self.sheet.now l.self.lists.now l.end l.initial.next l.initial.ws l.initial.out l.counter l.next l.ws l.out
