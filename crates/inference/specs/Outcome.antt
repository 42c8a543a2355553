-- What a call promises: its result and both buffers at exit are those of document 01's call.
use Rattle.std.specs.Prelude.{ℕ, ◌≡◌, List, Result, length as len}
use Rattle.model.specs.Call.{Outcome as TheOutcome, outcome, answer_after, workspace_after}
use Rattle.hir.specs.declared.refusal.Refusal.{Refusal}
use Rattle.writing.specs.Outcome.{returned_by, outcome_says}

-- a call that came to `o`
pub record Came (o : TheOutcome) (ws ans : List ℕ) (r : Result ℕ Refusal) (ws' ans' : List ℕ) : Type 0 where
  pub returned : outcome_says r ≡ returned_by o
  pub answer : ans' ≡ answer_after (len ans) o
  pub workspace : ws' ≡ workspace_after (len ws)

-- the call
abbrev pub Inferred : List ℕ → List ℕ → List ℕ → Result ℕ Refusal → List ℕ → List ℕ → Type 0
Inferred sheet ws ans r ws' ans' = Came (outcome sheet (len ws) (len ans)) ws ans r ws' ans'
