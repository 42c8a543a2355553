use Prim.Native.Nat.{◌-◌}
use Rattle.hir.specs.Words.{several}
use Rattle.dataflow.proofs.Tracking.{one_place, Placing}
use Rattle.dataflow.proofs.parameters.read_places.Given as goal

abbrev pub invariant-loop-i : goal.invariant-loop-i
invariant-loop-i l = Placing l.sheet (several l.fn.list.count one_place l.sheet l.fn.list.first) l.initial.i l.initial.ws l.initial.b (l.i-end - l.i) l.next l.i l.ws l.b
