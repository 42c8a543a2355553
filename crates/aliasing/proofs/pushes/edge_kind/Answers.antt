use borrow.Author.Tests.{eq-eqb, ne_eqb}
use Rattle.aliasing.specs.Pushes.{edge_level}
use Rattle.aliasing.proofs.pushes.edge_kind.Goals as goal

pub returns-then-w-eq-MAYBE : goal.returns-then-w-eq-MAYBE
unfolding edge_level
returns-then-w-eq-MAYBE c = simp (eq-eqb _ 2 c.if-w-eq-MAYBE.true)

pub returns-else-w-eq-MAYBE : goal.returns-else-w-eq-MAYBE
unfolding edge_level
returns-else-w-eq-MAYBE c = simp (ne_eqb _ 2 c.if-w-eq-MAYBE.false)
