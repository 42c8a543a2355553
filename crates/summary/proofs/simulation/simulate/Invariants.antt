use Rattle.summary.proofs.Turns.{Turned}
use Rattle.summary.proofs.simulation.simulate.Given as goal

abbrev pub invariant-loop-i : goal.invariant-loop-i
invariant-loop-i l = Turned l.initial.ws l.count l.index l.returns.0 l.initial.out l.ws l.i l.out
