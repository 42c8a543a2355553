use native.Mathlib.Omega.{arith}
use Rattle.std.proofs.lemmas.Bool.Decides.{nat_tests}
use Rattle.operands.proofs.Marked.{flow_into, flow_from, flow_neither}
use Rattle.operands.proofs.marks.Marks.mark_flow.Goals as goal

pub returns-then-eq : goal.returns-then-eq
returns-then-eq c = flow_into _ _ _ _ _ (grind (arith, nat_tests))

pub returns-then-eq-2 : goal.returns-then-eq-2
returns-then-eq-2 c =
    flow_from _ _ _ _ _ (grind (arith, nat_tests)) (grind (arith, nat_tests)) c.capture_or_read.ensures

pub returns : goal.returns
returns c = flow_neither _ _ _ _ _ (grind (arith, nat_tests)) (grind (arith, nat_tests))
