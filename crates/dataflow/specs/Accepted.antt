-- A sheet that was accepted, as the second reading finds it: what stands in its words, and what is known of them.
use Rattle.std.specs.Prelude.{ℕ, ◌+◌, ◌≤◌, ◌≡◌, false, List, length}
use Rattle.model.specs.Limits.{most_sheet, most_inner_diagnostics, most_blocks, most_index}
use Rattle.model.specs.Lists.{Every}
use Rattle.model.specs.Sheet.{InnerFunction, Sheet}
use Rattle.model.specs.Totals.{totals, over}
use Rattle.model.specs.Ranges.{SheetBelow}
use Rattle.hir.specs.Words.{Sections, sections_from, sheet_from}
use Rattle.dataflow.specs.Ranges.{BlockInRange}

-- where its sections stand
abbrev pub sections_of : List ℕ → Sections
sections_of sheet = sections_from sheet 0

-- what its words say
abbrev pub sheet_of : List ℕ → Sheet
sheet_of sheet = (sheet_from sheet 0).what

-- "a count (at most 64)" of diagnostics
abbrev pub FewDiagnostics : InnerFunction → Type 0
FewDiagnostics f = length f.diagnostics ≤ most_inner_diagnostics

-- no refusal was its
pub record Accepted (sheet : List ℕ) : Type 0 where
  pub short : length sheet ≤ most_sheet
  pub inside : (sections_of sheet).end ≤ length sheet
  pub below : SheetBelow (sheet_of sheet)
  pub functions : Every FewDiagnostics (sheet_of sheet).functions
  pub blocks : Every BlockInRange (sheet_of sheet).blocks
  pub few_blocks : length (sheet_of sheet).blocks ≤ most_blocks
  pub within : over (totals (sheet_of sheet)) ≡ false
  pub indexes : (totals (sheet_of sheet)).relations + ((totals (sheet_of sheet)).mutations + (totals (sheet_of sheet)).renders) ≤ most_index
