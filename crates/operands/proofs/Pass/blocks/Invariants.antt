use Rattle.model.specs.Operands.{block}
use Rattle.hir.specs.Words.{block_from}
use Rattle.operands.specs.Passes.{BlockOf}
use Rattle.operands.proofs.Stepping.{Looping}
use Rattle.operands.proofs.Pass.blocks.Given as goal

abbrev pub invariant-loop : goal.invariant-loop
invariant-loop l = Looping block_from BlockOf (block l.self.expression) l.self.section l.self.sheet.now l.self.lists.now l.end l.initial.next l.initial.ws l.initial.out l.counter l.next l.ws l.out
