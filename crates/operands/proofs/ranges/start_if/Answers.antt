use native.Mathlib.Omega.{arith}
use Rattle.std.proofs.lemmas.Bool.Decides.{nat_tests}
use Rattle.operands.proofs.RangeWords.{start-taken, start_left}
use Rattle.operands.proofs.ranges.start_if.Goals as goal

pub returns-then-lt : goal.returns-then-lt
returns-then-lt c = start-taken _ _ _ c.requires.0 c.end_of.ensures (grind (arith, nat_tests)) c.set_unset.ensures

pub returns-else-lt : goal.returns-else-lt
returns-else-lt c = start_left _ _ _ c.end_of.ensures (grind (arith, nat_tests))
