use Rattle.hir.specs.Mutations.{kind_bit}
use Rattle.aliasing.specs.Pushes.{forward_w}
use Rattle.aliasing.specs.Says.{bit}
use Rattle.aliasing.proofs.Pushing.{PushInv}
use Rattle.aliasing.proofs.pushes.push_forward.Given as goal

abbrev pub invariant-loop-i : goal.invariant-loop-i
invariant-loop-i l = PushInv (forward_w l.index (bit l.entry.transitive) (kind_bit l.entry.kind)) l.initial.ws l.at l.end l.top l.ws l.i l.len
