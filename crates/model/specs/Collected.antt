-- Document 02, order 10, "Dropped relations give back their places": "Answers of sheets accepted before are unchanged."
-- The call of orders 7 to 9 is a definition here alone.
use Rattle.std.specs.Prelude.{ℕ, ◌≡◌, List, ltb}
use Rattle.model.specs.Limits.{least_workspace}
use Rattle.model.specs.Lists.{pick}
use Rattle.model.specs.Reading.{refused}
use Rattle.model.specs.Call.{Outcome, accepted, answered, outcome}
use Rattle.model.specs.Overlap.{read_then}

-- the call before: relation effects were counted while reading, and what is held was not looked at
unfoldable pub outcome_then : List ℕ → ℕ → ℕ → Outcome
outcome_then sheet workspace room = answered room (pick (ltb workspace least_workspace) (refused 1) (read_then sheet))

-- what was accepted is accepted, with the same answer
abbrev pub Collected : List ℕ → ℕ → ℕ → Type 0
Collected ws workspace room = (a : List ℕ) → outcome_then ws workspace room ≡ accepted a → outcome ws workspace room ≡ accepted a
