use Prim.Native.Nat.{◌-◌}
use Rattle.hir.specs.Words.{several}
use Rattle.instructions.specs.Cost.{effect_cost}
use Rattle.instructions.specs.Ranges.{InRange}
use Rattle.instructions.specs.Builds.{effect_step}
use Rattle.instructions.proofs.Building.{Looping}
use Rattle.instructions.proofs.Instruction.{one_effect}
use Rattle.instructions.proofs.build_effects.Given as goal

abbrev pub invariant-loop : goal.invariant-loop
invariant-loop l = Looping one_effect InRange (effect_step l.order.0) effect_cost l.s (several l.end one_effect l.s l.initial.next) l.initial.ws l.initial.b (l.end - l.counter) l.next l.ws l.b
