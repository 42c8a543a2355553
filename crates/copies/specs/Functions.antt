-- The inner functions of a sheet. Their lists, diagnostics then context places, stand in words that need not be the sheet's; the workspace says at which position each one's do.
use Rattle.std.specs.Prelude.{ℕ, ◌+◌, ◌*◌, ◌≤◌, ◌<◌, ◌≡◌, List, length, get_or}
use Rattle.model.specs.Limits.{most_listed, diagnostic_width}
use Rattle.model.specs.Sheet.{InnerFunction, no_function}
use Rattle.model.specs.Answer.{function_errors}
use Rattle.hir.specs.Words.{Part, function_from}
use Rattle.workspace.specs.Layout.{FUNCTIONS}
use Rattle.workspace.specs.Graph.{tab}

-- the words of one function's diagnostics
abbrev pub most_errors : ℕ
most_errors = most_listed * diagnostic_width

-- inner function k, at the position in its word
abbrev pub function_at : List ℕ → List ℕ → ℕ → Part InnerFunction
function_at lists ws k = function_from lists (get_or ws (FUNCTIONS + k) 0)

-- the first m of them
unfoldable pub functions_of : List ℕ → List ℕ → ℕ → List InnerFunction
functions_of lists ws m = tab m (λ (k : ℕ). (function_at lists ws k).what)

-- fs are inner functions that stand in the lists, none with more diagnostics than the bound
pub record Functions (lists ws : List ℕ) (fs : List InnerFunction) : Type 0 where
  pub is : (k : ℕ) → k < length fs → (function_at lists ws k).what ≡ get_or fs k no_function
  pub inside : (k : ℕ) → k < length fs → (function_at lists ws k).next ≤ length lists
  pub few : (k : ℕ) → length (function_errors fs k) ≤ most_listed
