-- The tracked places in the workspace: parameters, context, returns, two words each.
use Rattle.std.specs.Prelude.{ℕ, ◌+◌, ◌*◌, ◌/◌, ◌%◌, List, [], ◌∷◌, ◌++◌, ◌≡◌, get_or}
use Rattle.model.specs.Limits.{most_params, most_context, returns_count}
use Rattle.model.specs.Sheet.{Place}
use Rattle.model.specs.Traits.{effect_of, reactive_of}
use Rattle.workspace.specs.Layout.{TRACKED}
use Rattle.workspace.specs.Rows.{Kept}
use Rattle.workspace.specs.Graph.{tab}

-- how many there are at most
abbrev pub most_tracked : ℕ
most_tracked = most_params + most_context + returns_count

-- a place by its two words: identifier + 512 * traits, and the span
unfoldable pub place_of : ℕ → ℕ → Place
place_of w span = record { identifier = w % 512; effect = effect_of (w / 512); reactive = reactive_of (w / 512); span = span }

-- the place of number i
unfoldable pub tracked_at : List ℕ → ℕ → Place
tracked_at ws i = place_of (get_or ws (TRACKED + 2 * i) 0) (get_or ws (TRACKED + 2 * i + 1) 0)

-- the first `count` places
unfoldable pub tracked_of : List ℕ → ℕ → List Place
tracked_of ws count = tab count (tracked_at ws)

-- `count` places from number `first` on
unfoldable pub tracked_from : List ℕ → ℕ → ℕ → List Place
tracked_from ws first count = tab count (λ (i : ℕ). tracked_at ws (first + i))

-- place i was stored
pub record Tracks (ws : List ℕ) (i : ℕ) (p : Place) (ws' : List ℕ) : Type 0 where
  pub place : tracked_at ws' i ≡ p
  pub more : tracked_of ws' (i + 1) ≡ tracked_of ws i ++ (p ∷ [])
  pub kept : Kept (TRACKED + 2 * i) (TRACKED + 2 * i + 2) ws ws'
