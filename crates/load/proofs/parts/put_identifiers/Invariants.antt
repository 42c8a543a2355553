use Prim.Native.Nat.{◌-◌}
use Rattle.copies.proofs.Loops.{Leaves}
use Rattle.load.proofs.Putting.{identifiers_left}
use Rattle.load.proofs.parts.put_identifiers.Given as goal

abbrev pub invariant-loop : goal.invariant-loop
invariant-loop l = Leaves (identifiers_left l.n) (identifiers_left (l.n - l.counter)) l.initial.sheet l.sheet
