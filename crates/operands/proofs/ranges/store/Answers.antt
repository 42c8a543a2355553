use native.Mathlib.Omega.{arith}
use Rattle.std.proofs.lemmas.Bool.Decides.{nat_tests}
use Rattle.operands.proofs.RangeWords.{store_taken, store_left}
use Rattle.operands.proofs.ranges.store.Goals as goal

pub returns-then-le : goal.returns-then-le
returns-then-le c = store_taken _ _ _ c.requires.0 c.end_of.ensures (grind (arith, nat_tests))

pub returns-else-le : goal.returns-else-le
returns-else-le c = store_left _ _ c.end_of.ensures (grind (arith, nat_tests))
