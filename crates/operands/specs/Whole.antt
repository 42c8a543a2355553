-- The pass over a whole sheet: what it runs on, and the sections of places.
use Rattle.std.specs.Prelude.{ℕ, ◌+◌, ◌*◌, ◌≤◌, ◌≡◌, List, length}
use Rattle.std.proofs.Math.Seq.{slice}
use Rattle.model.specs.Limits.{most_sheet, most_functions, most_inner_context, place_width}
use Rattle.model.specs.Lists.{gather}
use Rattle.model.specs.Sheet.{InnerFunction, Place, Sheet}
use Rattle.model.specs.Ranges.{SheetBelow}
use Rattle.model.specs.Operands.{ends_before, after_pass}
use Rattle.model.specs.Answer.{answer, operand_words, place_words, section}
use Rattle.workspace.specs.Layout.{LEAST, END, SEEN, STARTS, PASSED}
use Rattle.workspace.specs.Rows.{Kept}
use Rattle.writing.specs.declared.Writer.{Writer}
use Rattle.writing.specs.Wrote.{Writes}
use Rattle.copies.specs.Functions.{Functions}
use Rattle.dataflow.specs.declared.function.HirFunction.{HirFunction}
use Rattle.dataflow.specs.Function.{Describes}
use Rattle.operands.specs.declared.Section.{Section}
use Rattle.operands.specs.Ranges.{ranges_of}
use Rattle.operands.specs.Contexts.{contexts_of}
use Rattle.operands.specs.Known.{Known}
use Rattle.operands.specs.Passes.{places_in, pass_of, forget}

-- what the pass asks of the workspace: where each inner function stands in the lists (the tracked places have their marks by now, so not `Stands`)
pub record Standing (s : Sheet) (lists ws : List ℕ) : Type 0 where
  pub size : LEAST ≤ length ws
  pub functions : Functions lists ws s.functions

-- the pass over s can run: its ends are those before the pass
pub record Passing (s : Sheet) (sheet lists ws : List ℕ) (f : HirFunction) : Type 0 where
  pub describes : Describes s sheet f
  pub stands : Standing s lists ws
  pub below : SheetBelow s
  pub ends : slice END SEEN ws ≡ ends_before s

-- the words of a section of places: its count, and no more words than the sheet has
abbrev pub most_section : ℕ
most_section = 1 + most_sheet

-- the section was written, and the words have what the pass leaves
pub record SectionPut (which : Section) (sheet lists : List ℕ) (f : HirFunction) (ws : List ℕ) (o : Writer ℕ) (ws' : List ℕ) (o' : Writer ℕ) : Type 0 where
  pub wrote : (s : Sheet) → Passing s sheet lists ws f → Writes (section place_words (places_in which (after_pass s))) o o'
  pub pass : (s : Sheet) → Passing s sheet lists ws f → pass_of ws' s.functions ≡ forget (after_pass s)
  pub kept : Kept STARTS PASSED ws ws'
  pub few : o'.at ≤ o.at + most_section
  pub same : o'.buffer.ghost_name ≡ o.buffer.ghost_name

-- the words of the section of inner contexts
abbrev pub most_inner : ℕ
most_inner = 1 + place_width * most_inner_context * most_functions

-- it was written
pub record InnerPut (count : ℕ) (lists ws : List ℕ) (o o' : Writer ℕ) : Type 0 where
  pub wrote : (fs : List InnerFunction) → Known lists ws fs → count ≡ length fs → Writes (section place_words (gather (λ (l : List Place). l) (contexts_of ws fs))) o o'
  pub few : o'.at ≤ o.at + most_inner
  pub same : o'.buffer.ghost_name ≡ o.buffer.ghost_name

-- the words of the four sections
abbrev pub most_operand_words : ℕ
most_operand_words = 3 * most_section + most_inner

-- the four sections were written, and the ranges in the words are those after the pass
pub record OperandsPut (sheet lists : List ℕ) (f : HirFunction) (ws : List ℕ) (o : Writer ℕ) (ws' : List ℕ) (o' : Writer ℕ) : Type 0 where
  pub wrote : (s : Sheet) → Passing s sheet lists ws f → Writes (operand_words (answer s)) o o'
  pub ranges : (s : Sheet) → Passing s sheet lists ws f → ranges_of ws' ≡ (after_pass s).ranges
  pub kept : Kept STARTS PASSED ws ws'
  pub few : o'.at ≤ o.at + most_operand_words
  pub same : o'.buffer.ghost_name ≡ o.buffer.ghost_name
