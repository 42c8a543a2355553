-- The simulated walks, and the section of effects.
use Rattle.std.specs.Prelude.{ℕ, ◌+◌, ◌*◌, ◌≤◌, ◌≡◌, List, [], map, length}
use Rattle.std.proofs.Math.Seq.{slice}
use Rattle.model.specs.Limits.{most_sheet, most_params, most_context, effect_width}
use Rattle.model.specs.Lists.{gather}
use Rattle.model.specs.Sheet.{Sheet}
use Rattle.model.specs.Building.{build}
use Rattle.model.specs.State.{State}
use Rattle.model.specs.Walks.{Walk}
use Rattle.model.specs.Summary.{copied, after_renders}
use Rattle.model.specs.Simulated.{tracked, simulate}
use Rattle.model.specs.Answer.{effect_words, section, summary}
use Rattle.workspace.specs.Layout.{HANDED, MUTATIONS, SIMULATED}
use Rattle.workspace.specs.Rows.{rows_of, Indexed}
use Rattle.aliasing.specs.State.{state_of, Handing}
use Rattle.writing.specs.declared.Writer.{Writer}
use Rattle.writing.specs.Wrote.{Writes}
use Rattle.workspace.specs.Tracked.{most_tracked, tracked_of}
use Rattle.summary.specs.Sections.{simulated_of}
use Rattle.dataflow.specs.declared.function.HirFunction.{HirFunction}
use Rattle.dataflow.specs.Function.{Describes, Tracking}

-- the words that the simulated walks can leave: an effect for each two places
abbrev pub most_flows : ℕ
most_flows = effect_width * most_tracked * most_tracked

-- those of the section: its count, the copied effects, two for each parameter and context place, Create for returns, and the simulated walks'
abbrev pub most_effects : ℕ
most_effects = 1 + most_sheet + 2 * effect_width * (most_context + most_params) + effect_width + most_flows

-- the state with nothing handed over
abbrev pub unhanded : State → State
unhanded t = record { graph = t.graph; records = t.records; ends = t.ends; handed = [] }

-- the workspace before the simulated walks of s, of which the first has this index
pub record Marked (s : Sheet) (ws : List ℕ) (count index returns : ℕ) : Type 0 where
  pub places : tracked s ≡ tracked_of ws count
  pub identifier : s.returns.identifier ≡ returns
  pub state : state_of ws HANDED ≡ unhanded (after_renders s)
  pub first : index ≡ (build s).index

-- what the simulated walks of s, `count` of them, leave: the entries that each took and the state stand in the words, and `next` is the first index unused
pub record Left (s : Sheet) (ws : List ℕ) (count next : ℕ) : Type 0 where
  pub counts : simulated_of ws count ≡ map (λ (w : Walk). w.taken) (simulate s).walks
  pub state : state_of ws HANDED ≡ unhanded (simulate s).state
  pub unused : next ≡ (simulate s).index

-- the graph is as it was, and further walks can run on it
pub record Walkable (ws ws' : List ℕ) : Type 0 where
  pub graph : rows_of ws' ≡ rows_of ws
  pub indexed : Indexed ws'
  pub handing : Handing ws' HANDED
  pub same : length ws' ≡ length ws

-- the simulated walks were run, and what they found was written
pub record Simulates (ws : List ℕ) (count index returns : ℕ) (o : Writer ℕ) (ws' : List ℕ) (o' : Writer ℕ) : Type 0 where
  pub wrote : (s : Sheet) → Marked s ws count index returns → Writes (gather effect_words (simulate s).effects) o o'
  pub left : (s : Sheet) → Marked s ws count index returns → Left s ws' count (index + count)
  pub walkable : Walkable ws ws'
  pub kept : slice MUTATIONS SIMULATED ws' ≡ slice MUTATIONS SIMULATED ws
  pub few : o'.at ≤ o.at + effect_width * most_tracked * count
  pub same : o'.buffer.ghost_name ≡ o.buffer.ghost_name

-- the copied effects were written
pub record CopiedPut (sheet : List ℕ) (f : HirFunction) (o o' : Writer ℕ) : Type 0 where
  pub wrote : (s : Sheet) → Describes s sheet f → Writes (gather effect_words (copied s)) o o'
  pub few : o'.at ≤ o.at + length sheet
  pub same : o'.buffer.ghost_name ≡ o.buffer.ghost_name

-- the workspace before the section of effects of s is written
pub record Before (s : Sheet) (sheet ws : List ℕ) (f : HirFunction) (index : ℕ) : Type 0 where
  pub describes : Describes s sheet f
  pub tracked : Tracking s ws
  pub state : state_of ws HANDED ≡ unhanded (after_renders s)
  pub first : index ≡ (build s).index

-- the section was written, and the simulated walks were run
pub record EffectsPut (sheet ws : List ℕ) (f : HirFunction) (index : ℕ) (o : Writer ℕ) (ws' : List ℕ) (o' : Writer ℕ) : Type 0 where
  pub wrote : (s : Sheet) → Before s sheet ws f index → Writes (section effect_words (summary s)) o o'
  pub left : (s : Sheet) → Before s sheet ws f index → Left s ws' (f.params + f.context + 1) (index + (f.params + f.context + 1))
  pub walkable : Walkable ws ws'
  pub kept : slice MUTATIONS SIMULATED ws' ≡ slice MUTATIONS SIMULATED ws
  pub few : o'.at ≤ o.at + most_effects
  pub same : o'.buffer.ghost_name ≡ o.buffer.ghost_name
