use native.Mathlib.Omega.{arith}
use Rattle.workspace.specs.Layout.{END, SEEN, ENDS}
use Rattle.operands.proofs.CopiedWords.{words-start, words_turn, words_end}
use Rattle.operands.proofs.begin.copy_ends.Goals as goal

pub loop-x-init : goal.loop-x-init
loop-x-init c = words-start END SEEN ENDS _

pub loop-x-preserved : goal.loop-x-preserved
loop-x-preserved c =
    words_turn END SEEN ENDS _ c.loop-x.invariant (omega arith) (omega (arith, c.requires)) (omega (arith, c.loop-x-test.true))

pub returns : goal.returns
returns c = words_end END SEEN ENDS _ c.loop-x.invariant (omega (arith, c.loop-x-test.false))
