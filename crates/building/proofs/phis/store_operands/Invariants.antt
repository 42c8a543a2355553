use Prim.Native.Nat.{◌-◌}
use Rattle.building.specs.Phis.{operands_from}
use Rattle.building.proofs.Storing.{Operands}
use Rattle.building.proofs.phis.store_operands.Given as goal

abbrev pub invariant-loop-index : goal.invariant-loop-index
invariant-loop-index l = Operands l.s l.into.0 l.first l.count (operands_from l.s l.at l.start) l.initial.ws l.initial.h l.index (l.index-end - l.index) l.next l.ws l.h
