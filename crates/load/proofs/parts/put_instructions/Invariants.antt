use Rattle.load.proofs.Putting.{Drawing}
use Rattle.load.proofs.parts.put_instructions.Given as goal

abbrev pub invariant-loop-order : goal.invariant-loop-order
invariant-loop-order l = Drawing l.n l.seed l.m l.initial.sheet l.draws.state l.order l.sheet
