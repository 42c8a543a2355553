use Prim.Native.Nat.{◌-◌}
use Rattle.hir.specs.Words.{phis_from}
use Rattle.copies.proofs.Passing.{PhisLeft}
use Rattle.copies.proofs.past.past_phis.Given as goal

abbrev pub invariant-loop : goal.invariant-loop
invariant-loop l = PhisLeft l.sheet (phis_from l.sheet l.from).next (l.end - l.counter) l.next
