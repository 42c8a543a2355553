use Prim.Native.Nat.{◌-◌}
use Rattle.workspace.specs.Numbers.{table_number}
use Rattle.building.specs.Logs.{owns_w}
use Rattle.building.specs.Held.{Others}
use Rattle.building.proofs.logs.others.Given as goal

abbrev pub invariant-loop-i : goal.invariant-loop-i
invariant-loop-i l = Others (owns_w (table_number l.table) l.x) l.at l.n l.ws l.i

abbrev pub decreases-loop-i : goal.decreases-loop-i
decreases-loop-i l = l.n - l.i
