use Prim.Native.Nat.{◌-◌}
use Rattle.model.specs.Building.{instruction as instruction_step}
use Rattle.hir.specs.Words.{several, instruction_from}
use Rattle.instructions.specs.Cost.{instruction_cost}
use Rattle.instructions.specs.Ranges.{InstructionInRange}
use Rattle.instructions.proofs.Building.{Looping}
use Rattle.instructions.proofs.build_instructions.Given as goal

abbrev pub invariant-loop : goal.invariant-loop
invariant-loop l = Looping instruction_from InstructionInRange instruction_step instruction_cost l.s (several l.end instruction_from l.s l.initial.next) l.initial.ws l.initial.b (l.end - l.counter) l.next l.ws l.b
