-- The section of diagnostics.
use Rattle.std.specs.Prelude.{ℕ, ◌+◌, ◌-◌, ◌*◌, ◌≤◌, ◌≡◌, List, length}
use Rattle.model.specs.Limits.{most_sheet, most_renders}
use Rattle.model.specs.Lists.{gather}
use Rattle.model.specs.Sheet.{Sheet}
use Rattle.model.specs.Runs.{rendered}
use Rattle.model.specs.Building.{build}
use Rattle.model.specs.Summary.{recorded, after_real}
use Rattle.model.specs.Answer.{function_errors, diagnostic_words, section, diagnosed}
use Rattle.workspace.specs.Layout.{HANDED, MUTATIONS}
use Rattle.workspace.specs.Pending.{renders_of}
use Rattle.aliasing.specs.State.{state_of}
use Rattle.renders.specs.Renders.{Unmoved}
use Rattle.writing.specs.declared.Writer.{Writer}
use Rattle.writing.specs.Wrote.{Writes}
use Rattle.copies.specs.Functions.{most_errors, functions_of}
use Rattle.dataflow.specs.declared.function.HirFunction.{HirFunction}
use Rattle.dataflow.specs.Function.{Describes, Stands}

-- the words that the functions handed over by all mutations, or by one render, can leave
abbrev pub most_handed : ℕ
most_handed = most_errors * (MUTATIONS - HANDED)

-- those of the section: its count, what is recorded, and what is handed over
abbrev pub most_diagnosed : ℕ
most_diagnosed = 1 + most_sheet + most_handed * (1 + most_renders)

-- the pending renders were run in order, and the diagnostics of the functions that they handed over were written
pub record RendersPut (lists ws : List ℕ) (m count : ℕ) (o : Writer ℕ) (ws' : List ℕ) (o' : Writer ℕ) : Type 0 where
  pub wrote : Writes (gather diagnostic_words (gather (function_errors (functions_of lists ws m)) (rendered (renders_of ws count) (state_of ws HANDED)).handed)) o o'
  pub few : o'.at ≤ o.at + most_handed * count
  pub unmoved : Unmoved ws ws'

-- the diagnostics recorded while building were written
pub record RecordedPut (sheet : List ℕ) (f : HirFunction) (o o' : Writer ℕ) : Type 0 where
  pub wrote : (s : Sheet) → Describes s sheet f → Writes (gather diagnostic_words (recorded s)) o o'
  pub few : o'.at ≤ o.at + length sheet

-- the section was written, after the real mutations handed over the functions up to `hand`
pub record DiagnosticsPut (sheet lists ws : List ℕ) (f : HirFunction) (renders hand : ℕ) (o : Writer ℕ) (ws' : List ℕ) (o' : Writer ℕ) : Type 0 where
  pub wrote : (s : Sheet) → Describes s sheet f → Stands s lists ws → state_of ws hand ≡ after_real s → renders_of ws renders ≡ (build s).renders
      → Writes (section diagnostic_words (diagnosed s)) o o'
  pub few : o'.at ≤ o.at + most_diagnosed
  -- the buffer is the same one, and as long, whatever was to be written
  pub same : o'.buffer.ghost_name ≡ o.buffer.ghost_name
  pub long : length o'.buffer.now ≡ length o.buffer.now
  pub unmoved : Unmoved ws ws'
