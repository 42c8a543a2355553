use native.Mathlib.Omega.{arith}
use Rattle.std.proofs.lemmas.Bool.Decides.{nat_tests}
use Rattle.operands.proofs.Marked.{alone_here, alone_not}
use Rattle.operands.proofs.marks.mark_place.Goals as goal

pub returns-then-eq : goal.returns-then-eq
returns-then-eq c = alone_here _ _ _ _ (grind (arith, nat_tests))

pub returns : goal.returns
returns c = alone_not _ _ _ _ (grind (arith, nat_tests))
