use Rattle.building.proofs.Storing.{Waking}
use Rattle.building.proofs.phis.wake.Given as goal

abbrev pub invariant-loop-i : goal.invariant-loop-i
invariant-loop-i l = Waking l.s l.first l.phis l.initial.ws l.initial.h l.i l.ws l.h
