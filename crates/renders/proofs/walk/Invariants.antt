use Prim.Native.Nat.{◌+◌}
use Rattle.model.specs.Limits.{most_identifiers}
use Rattle.workspace.specs.Rows.{rows_of}
use Rattle.aliasing.specs.State.{seen_of}
use Rattle.aliasing.specs.Potential.{phi}
use Rattle.renders.proofs.Walks.{WalkInv}
use Rattle.renders.proofs.walk.Given as goal

abbrev pub invariant-loop-top : goal.invariant-loop-top
invariant-loop-top l = WalkInv l.index l.initial.ws l.initial.top l.initial.hand l.ws l.top l.hand l.count

abbrev pub decreases-loop-top : goal.decreases-loop-top
decreases-loop-top l = l.top + phi (seen_of l.ws) (rows_of l.ws) most_identifiers
