-- Document 02, order 2: "Prove that each such sheet is accepted when the buffers suffice." What is claimed of a class load within its bounds.
use Rattle.std.specs.Prelude.{ℕ, ◌+◌, ◌*◌, ◌≤◌, ◌<◌, ◌≡◌, List, length}
use Rattle.model.specs.Limits.{least_workspace, lent_answer, identifier_width, place_width, effect_width}
use Rattle.model.specs.Encoder.{sheet_words}
use Rattle.model.specs.Answer.{answer, answer_words}
use Rattle.model.specs.Call.{IsSheet, refusal, accepted, outcome}
use Rattle.model.specs.Load.{class_load}
use Rattle.model.specs.Service.{Caller}
use Rattle.model.specs.Callers.{call_for}

-- how many words an instruction has: its order, its lvalue, two counts, its value, its effect count and its effect
abbrev pub load_instruction_width : ℕ
load_instruction_width = 5 + place_width + effect_width

-- how many words the sheet has
abbrev pub load_length : ℕ → ℕ → ℕ
load_length n m = 21 + identifier_width * n + load_instruction_width * m

-- how many words its answer has at most: a range for each identifier, one parameter, four effects (two of parameter 0, Create, Alias), a walk for each mutation, for the parameter and for returns, and a place for each instruction
abbrev pub most_load_answer : ℕ → ℕ → ℕ
most_load_answer n m = 47 + 2 * n + 4 * m

-- the claim
pub record LoadAccepted (seed n m : ℕ) : Type 0 where
  -- its length, and that of its answer
  pub long : length (sheet_words (class_load seed n m)) ≡ load_length n m
  pub short : length (answer_words (answer (class_load seed n m))) ≤ most_load_answer n m
  -- refusals 2 to 8 do not apply: its words are read as that sheet
  pub read : IsSheet (sheet_words (class_load seed n m)) (class_load seed n m)
  -- every call on them whose workspace and answer buffer suffice is accepted with its answer
  pub accepts : (workspace room : ℕ) → least_workspace ≤ workspace → length (answer_words (answer (class_load seed n m))) ≤ room
      → outcome (sheet_words (class_load seed n m)) workspace room ≡ accepted (answer_words (answer (class_load seed n m)))
  -- so is every call with 16,384 words of each
  pub suffices : (workspace room : ℕ) → least_workspace ≤ workspace → lent_answer ≤ room
      → outcome (sheet_words (class_load seed n m)) workspace room ≡ accepted (answer_words (answer (class_load seed n m)))
  -- document 02, order 9: so is every such call for a caller inside the records; one outside them gets 11 "for order 2's sheets too"
  pub for_caller : (cs : List Caller) (i workspace room : ℕ) → i < length cs → least_workspace ≤ workspace → length (answer_words (answer (class_load seed n m))) ≤ room
      → (call_for cs i (sheet_words (class_load seed n m)) workspace room).outcome ≡ accepted (answer_words (answer (class_load seed n m)))
  pub for_none : (cs : List Caller) (i workspace room : ℕ) → length cs ≤ i → (call_for cs i (sheet_words (class_load seed n m)) workspace room).outcome ≡ refusal 11
