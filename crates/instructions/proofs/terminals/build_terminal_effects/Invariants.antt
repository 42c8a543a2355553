use Prim.Native.Nat.{◌-◌}
use Rattle.model.specs.Building.{terminal_effect}
use Rattle.hir.specs.Words.{several}
use Rattle.instructions.specs.Cost.{terminal_effect_cost}
use Rattle.instructions.specs.Ranges.{InRange}
use Rattle.instructions.proofs.Building.{Looping}
use Rattle.instructions.proofs.Instruction.{one_effect}
use Rattle.instructions.proofs.terminals.build_terminal_effects.Given as goal

abbrev pub invariant-loop : goal.invariant-loop
invariant-loop l = Looping one_effect InRange terminal_effect terminal_effect_cost l.s (several l.end one_effect l.s l.initial.next) l.initial.ws l.initial.b (l.end - l.counter) l.next l.ws l.b
