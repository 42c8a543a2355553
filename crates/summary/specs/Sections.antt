-- Sections of the answer that are written from the workspace.
use Rattle.std.specs.Prelude.{ℕ, ◌+◌, ◌*◌, List, [], ◌∷◌, map, ◌≡◌, get_or, length}
use Rattle.model.specs.Limits.{most_mutations}
use Rattle.model.specs.Lists.{pick, gather}
use Rattle.model.specs.Sheet.{Place, Sheet}
use Rattle.model.specs.State.{State}
use Rattle.model.specs.Summary.{marked}
use Rattle.model.specs.Simulated.{tracked, flows, flow_effect, flow_effects}
use Rattle.model.specs.Answer.{place_words, effect_words, section}
use Rattle.workspace.specs.Layout.{SIMULATED}
use Rattle.workspace.specs.Graph.{tab}
use Rattle.writing.specs.declared.Writer.{Writer}
use Rattle.writing.specs.Wrote.{Writes}
use Rattle.summary.specs.Records.{Holds}
use Rattle.workspace.specs.Tracked.{most_tracked, tracked_of, tracked_from}

-- the params or the context: `count` tracked places from `first` on, with their marks
abbrev pub Marked : List ℕ → ℕ → ℕ → Writer ℕ → Writer ℕ → Type 0
Marked ws first count o o' = (t : State) → Holds ws t → Writes (section place_words (map (marked t) (tracked_from ws first count))) o o'

-- what one tracked place gives to the walk of `into`, if `returns` is the identifier of returns
abbrev pub Flow : List ℕ → Place → Place → ℕ → ℕ → Writer ℕ → Writer ℕ → Type 0
Flow ws from into index returns o o' =
    (p : Place) (t : State) → Holds ws t → p.identifier ≡ returns
    → Writes (gather effect_words (pick (flows p index into t from) (flow_effect p into from ∷ []) [])) o o'

-- what all `count` tracked places give, for each sheet that has them
pub record Flows (ws : List ℕ) (count : ℕ) (into : Place) (index returns : ℕ) (o o' : Writer ℕ) : Type 0 where
  pub wrote : (s : Sheet) (t : State) → Holds ws t → tracked s ≡ tracked_of ws count → s.returns.identifier ≡ returns
      → Writes (gather effect_words (flow_effects s index into t)) o o'
  pub same : o'.buffer.ghost_name ≡ o.buffer.ghost_name
  pub long : length o'.buffer.now ≡ length o.buffer.now

-- the words of the section of walks: its count, and one for each real and each simulated walk
abbrev pub most_walks : ℕ
most_walks = 1 + most_mutations + most_tracked

-- `count` words, one in `stride` from `first` on
unfoldable pub counts_of : List ℕ → ℕ → ℕ → ℕ → List ℕ
counts_of ws first stride count = tab count (λ (i : ℕ). get_or ws (first + stride * i) 0)

-- the entries that each simulated walk took
unfoldable pub simulated_of : List ℕ → ℕ → List ℕ
simulated_of ws count = tab count (λ (i : ℕ). get_or ws (SIMULATED + i) 0)
