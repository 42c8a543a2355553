use Rattle.dot.proofs.Listing.{Rowing}
use Rattle.dot.proofs.graph.put_row.Given as goal

abbrev pub invariant-loop-w : goal.invariant-loop-w
invariant-loop-w l = Rowing l.x l.edges l.initial.text l.w-index l.text
