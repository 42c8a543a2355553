use Prim.Native.Nat.{◌-◌}
use Rattle.hir.specs.Words.{wide, identifier_at}
use Rattle.model.specs.Limits.{identifier_width}
use Rattle.dataflow.specs.Read.{end_of}
use Rattle.workspace.specs.Layout.{END}
use Rattle.dataflow.proofs.Storing.{Storing}
use Rattle.dataflow.proofs.header.read_ends.Given as goal

abbrev pub invariant-loop-to : goal.invariant-loop-to
invariant-loop-to l = Storing (wide identifier_width identifier_at) end_of l.sheet l.fn.list.count l.fn.list.first END l.initial.ws (l.to-end - l.to) l.next l.to l.ws
