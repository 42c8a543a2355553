use Rattle.hir.specs.Says.{place_is}
use Rattle.summary.proofs.Flowing.{Flowing}
use Rattle.summary.proofs.flows.put_flows.Given as goal

abbrev pub invariant-loop-i : goal.invariant-loop-i
invariant-loop-i l = Flowing l.ws l.count (place_is l.into) l.index l.returns.0 l.initial.out l.i l.out
