use Prim.Native.Nat.{◌-◌}
use Rattle.hir.specs.Words.{placed, function_from}
use Rattle.dataflow.specs.Read.{stands_at}
use Rattle.workspace.specs.Layout.{FUNCTIONS}
use Rattle.dataflow.proofs.Storing.{Storing}
use Rattle.dataflow.proofs.header.read_functions.Given as goal

abbrev pub invariant-loop-to : goal.invariant-loop-to
invariant-loop-to l = Storing (placed function_from) stands_at l.sheet l.fn.list.count l.fn.list.first FUNCTIONS l.initial.ws (l.to-end - l.to) l.next l.to l.ws
