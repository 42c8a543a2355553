use Rattle.std.proofs.Common.{◌≡◌, ℕ, ◌+◌, ◌<◌, []}
use Rattle.model.specs.Lists.{Every}
use Rattle.model.specs.Sections.{operand}
use Rattle.reading.specs.Operands.{Whole, predecessors}
use Rattle.reading.specs.Whole.{passing_numbered}
use Rattle.reading.proofs.phis.operands.Given as goal

abbrev pub invariant-loop : goal.invariant-loop
invariant-loop l = record {
  told : (k : ℕ) → l.counter + k ≡ l.count → passing_numbered l.count [] (operand l.n) l.s l.start.at ≡ passing_numbered k (predecessors l.s l.start.at l.c.at) (operand l.n) l.s l.c.at;
  whole : Whole l.start.at l.c.at;
  below : Every (λ (v : ℕ). v < l.above) (predecessors l.s l.start.at l.c.at);
}
