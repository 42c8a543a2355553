-- Document 01, "Answers and refusals": what a call that fills a lent buffer returns, and what stands in the buffer afterwards.
use Rattle.std.specs.Prelude.{ℕ, ◌≡◌, List, length as len, Result, Ok, Err}
use Rattle.model.specs.Call.{Outcome as TheOutcome, refusal, accepted, answer_after}
use Rattle.hir.specs.declared.refusal.Refusal.{Refusal}
use Rattle.hir.specs.Refusals.{refusal_number}

-- "returns the answer's length"; "A refusal returns its number"
pub data Returned : Type 0 where
  number : ℕ → Returned
  length : ℕ → Returned

-- what document 01's call returns
unfoldable pub returned_by : TheOutcome → Returned
returned_by (refusal k) = number k
returned_by (accepted a) = length (len a)

-- what the code's call returned
abbrev pub outcome_says : Result ℕ Refusal → Returned
outcome_says (Err k) = number (refusal_number k)
outcome_says (Ok n) = length n

-- a call that came to `o` and filled one buffer
pub record Filled (o : TheOutcome) (buffer : List ℕ) (r : Result ℕ Refusal) (buffer' : List ℕ) : Type 0 where
  pub returned : outcome_says r ≡ returned_by o
  pub words : buffer' ≡ answer_after (len buffer) o
