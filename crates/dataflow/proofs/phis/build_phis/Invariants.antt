use Prim.Native.Nat.{◌-◌}
use Rattle.model.specs.Building.{phi_node}
use Rattle.hir.specs.Words.{several, phi_from}
use Rattle.dataflow.specs.Cost.{phi_cost}
use Rattle.dataflow.specs.Ranges.{PhiInRange}
use Rattle.instructions.proofs.Building.{Looping}
use Rattle.dataflow.proofs.phis.build_phis.Given as goal

abbrev pub invariant-loop : goal.invariant-loop
invariant-loop l = Looping phi_from PhiInRange phi_node phi_cost l.s (several l.end phi_from l.s l.initial.next) l.initial.ws l.initial.b (l.end - l.counter) l.next l.ws l.b
