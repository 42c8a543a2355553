use Rattle.workspace.specs.Layout.{END, SEEN, ENDS}
use Rattle.operands.proofs.CopiedWords.{WordsLeft}
use Rattle.operands.proofs.begin.copy_ends.Given as goal

abbrev pub invariant-loop-x : goal.invariant-loop-x
invariant-loop-x l = WordsLeft END SEEN ENDS l.initial.ws l.ws l.x
