-- What is done with the context places of inner functions: those of one are marked, and all are written.
use Rattle.std.specs.Prelude.{ℕ, ◌+◌, ◌*◌, ◌≤◌, ◌<◌, ◌≡◌, List, [], map, length, get_or, set}
use Rattle.model.specs.Limits.{most_inner_context, place_width}
use Rattle.model.specs.Lists.{gather}
use Rattle.model.specs.Sheet.{InnerFunction, Place}
use Rattle.model.specs.Traits.{read_effect}
use Rattle.model.specs.Marks.{Mark, with_mark}
use Rattle.model.specs.Answer.{place_words}
use Rattle.workspace.specs.Layout.{CONTEXTS, PASSED}
use Rattle.workspace.specs.Rows.{Kept}
use Rattle.writing.specs.declared.Writer.{Writer}
use Rattle.writing.specs.Wrote.{Writes}
use Rattle.operands.specs.Contexts.{contexts_of}
use Rattle.operands.specs.Known.{Known}

-- the context places of inner function k got these marks, else Read
pub record Marking (ms : List Mark) (k : ℕ) (lists ws ws' : List ℕ) : Type 0 where
  pub contexts : (fs : List InnerFunction) → Known lists ws fs → k < length fs → contexts_of ws' fs ≡ set (contexts_of ws fs) k (map (with_mark ms read_effect) (get_or (contexts_of ws fs) k []))
  pub kept : Kept CONTEXTS PASSED ws ws'

-- the context places of inner function k were written
pub record ContextPut (k : ℕ) (lists ws : List ℕ) (o o' : Writer ℕ) : Type 0 where
  pub wrote : (fs : List InnerFunction) → Known lists ws fs → k < length fs → Writes (gather place_words (get_or (contexts_of ws fs) k [])) o o'
  pub few : o'.at ≤ o.at + place_width * most_inner_context
  pub same : o'.buffer.ghost_name ≡ o.buffer.ghost_name

-- those of all `count` inner functions
pub record ContextsPut (count : ℕ) (lists ws : List ℕ) (o o' : Writer ℕ) : Type 0 where
  pub wrote : (fs : List InnerFunction) → Known lists ws fs → count ≡ length fs → Writes (gather place_words (gather (λ (l : List Place). l) (contexts_of ws fs))) o o'
  pub few : o'.at ≤ o.at + place_width * most_inner_context * count
  pub same : o'.buffer.ghost_name ≡ o.buffer.ghost_name
