use native.Mathlib.Omega.{arith}
use Rattle.copies.proofs.Errors.{handing_start, handing_turn, handing_end}
use Rattle.copies.proofs.functions.put_handed.Goals as goal

pub loop-i-init : goal.loop-i-init
loop-i-init c = handing_start _ _ _ _

pub append_function_errors-requires : goal.append_function_errors-requires
append_function_errors-requires c =
    record { count_le_most_functions = (c.requires.count_le_most_functions.0, c.requires.count_le_most_functions.1.1); functions = c.requires.functions; most_errors_bound = omega (arith, c.loop-i.invariant.few, c.loop-i-test.true, c.requires.hand_bound) }

pub loop-i-preserved : goal.loop-i-preserved
loop-i-preserved c =
    handing_turn c.loop-i.invariant c.requires.functions c.loop-i-test.true (omega (arith, c.requires.count_le_most_functions)) c.append_function_errors.ensures

pub returns : goal.returns
returns c = handing_end c.loop-i.invariant c.loop-i-test.false
