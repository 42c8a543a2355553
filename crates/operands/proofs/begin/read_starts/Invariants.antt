use Prim.Native.Nat.{◌-◌}
use Rattle.model.specs.Limits.{identifier_width}
use Rattle.hir.specs.Words.{wide, identifier_at}
use Rattle.operands.specs.Begun.{start_of}
use Rattle.dataflow.proofs.Storing.{Storing}
use Rattle.operands.proofs.begin.read_starts.Given as goal

abbrev pub invariant-loop-to : goal.invariant-loop-to
invariant-loop-to l = Storing (wide identifier_width identifier_at) start_of l.sheet l.fn.list.count l.initial.next l.initial.to l.initial.ws (l.to-end - l.to) l.next l.to l.ws
