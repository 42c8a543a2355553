use Rattle.workspace.specs.Numbers.{table_number}
use Rattle.building.proofs.Loops.{Leaving}
use Rattle.building.proofs.logs.leave.Given as goal

abbrev pub invariant-loop-i : goal.invariant-loop-i
invariant-loop-i l = Leaving l.initial.ws (table_number l.table) l.at l.n l.x l.ws l.i l.left
