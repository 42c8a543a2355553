-- Document 01, "Answers and refusals", and document 02: the refusals have the numbers 1 to 11, and the parts of a sheet give 3 to 6. So 0 stands for "not refused" wherever a number is told.
use Rattle.std.specs.Prelude.{ℕ, ◌≤◌}
use Rattle.model.specs.Call.{Outcome, refusal, accepted}

-- "one of the numbered refusals", up to this one
abbrev pub IsNumber : ℕ → ℕ → Type 0
IsNumber last k = (1 ≤ k) × (k ≤ last)

-- "3 to 6 come from one reading left to right"
abbrev pub FromReading : ℕ → Type 0
FromReading k = (3 ≤ k) × (k ≤ 6)

-- the answer, or a refusal with one of the numbers
abbrev pub Numbered : ℕ → Outcome → Type 0
Numbered last (refusal k) = IsNumber last k
Numbered last (accepted a) = Unit {0}
