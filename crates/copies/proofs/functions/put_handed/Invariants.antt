use Rattle.copies.specs.Functions.{functions_of}
use Rattle.copies.proofs.Errors.{Handing}
use Rattle.copies.proofs.functions.put_handed.Given as goal

abbrev pub invariant-loop-i : goal.invariant-loop-i
invariant-loop-i l = Handing (functions_of l.lists l.ws l.count) l.ws l.hand l.initial.out l.i l.out
