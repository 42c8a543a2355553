use native.Mathlib.Omega.{arith}
use Rattle.std.proofs.lemmas.Bool.Decides.{nat_tests}
use Rattle.operands.proofs.Marked.{is_capture, is_read}
use Rattle.operands.proofs.marks.capture_or_read.Goals as goal

pub returns-then-lt : goal.returns-then-lt
returns-then-lt c = is_capture (grind (arith, nat_tests))

pub returns : goal.returns
returns c = is_read (grind (arith, nat_tests))
