-- Parts of a class load's sheet: the words between its identifiers and its block.
use Rattle.std.specs.Prelude.{ℕ, ◌-◌, List, [], ◌∷◌, ◌++◌}
use Rattle.model.specs.Limits.{returns_count}
use Rattle.model.specs.Sheet.{plain_place}
use Rattle.model.specs.Answer.{place_words, section}
use Rattle.model.specs.Encoder.{function_words}

-- "no inner functions, parameter 0, no context"
abbrev pub params_words : List ℕ
params_words = section function_words [] ++ (section place_words (plain_place 0 ∷ []) ++ section place_words [])

-- "returns n − 1"
abbrev pub returns_words : ℕ → List ℕ
returns_words n = returns_count ∷ place_words (plain_place (n - 1))
