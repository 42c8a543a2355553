-- The records of a state in the words, and the effects that they give.
use Rattle.std.specs.Prelude.{ℕ, zero, suc, List, [], ◌∷◌, ◌≡◌}
use Rattle.model.specs.Lists.{gather}
use Rattle.model.specs.Sheet.{Place, no_place, EffectKind, Effect}
use Rattle.model.specs.State.{State}
use Rattle.model.specs.Summary.{collect_param_effects}
use Rattle.model.specs.Answer.{effect_words}
use Rattle.aliasing.specs.State.{nodes_of, records_of}
use Rattle.writing.specs.declared.Writer.{Writer}
use Rattle.writing.specs.Wrote.{Writes}

-- the state's records are those of the words
abbrev pub Holds : List ℕ → State → Type 0
Holds ws t = t.records ≡ records_of (nodes_of ws)

-- an effect of one place
abbrev pub effect_on : EffectKind → Place → ℕ → Effect
effect_on k p x = record { kind = k; first = p; second = no_place; extra = x }

-- the effect of a record by the word of its kind: none at 0, `conditional` at 1, else `definite` with the extra word
unfoldable pub level_effects : ℕ → EffectKind → EffectKind → ℕ → Place → List Effect
level_effects zero conditional definite x p = []
level_effects (suc zero) conditional definite x p = effect_on conditional p 0 ∷ []
level_effects (suc (suc k)) conditional definite x p = effect_on definite p x ∷ []

-- the effects of the records of the places were written
abbrev pub Collected : List ℕ → List Place → Writer ℕ → Writer ℕ → Type 0
Collected ws places o o' = (t : State) → Holds ws t → Writes (gather effect_words (gather (collect_param_effects t) places)) o o'
