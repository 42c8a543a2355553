use Rattle.std.proofs.Common.{◌≡◌, ℕ, ◌+◌, Result}
use Rattle.hir.specs.declared.refusal.Refusal.{Refusal}
use Rattle.reading.specs.Parts.{Times}
use Rattle.reading.proofs.parts.times.Given as goal

-- what the parts to come give, all of them give
abbrev pub invariant-loop : goal.invariant-loop
invariant-loop g l =
    (k : ℕ) (r : Result g.row.P.Denot Refusal) → l.counter + k ≡ l.count → Times (goal.F-post g l.part) k l.p r → Times (goal.F-post g l.part) l.count l.fn.start r
