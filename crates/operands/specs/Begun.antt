-- What the pass begins on.
use Rattle.std.specs.Prelude.{ℕ, ◌≤◌, ◌≡◌, List, map, length}
use Rattle.std.proofs.Math.Seq.{slice}
use Rattle.model.specs.Limits.{most_functions, most_inner_context, identifier_width}
use Rattle.model.specs.Lists.{Every}
use Rattle.model.specs.Sheet.{EvaluationOrder, Identifier, InnerFunction}
use Rattle.model.specs.Operands.{sheet_starts}
use Rattle.hir.specs.Words.{Part, wide, identifier_at, several}
use Rattle.hir.specs.declared.at.List.{List as Listed}
use Rattle.workspace.specs.Layout.{END, SEEN, STARTS, PASSED}
use Rattle.workspace.specs.Rows.{Kept}
use Rattle.operands.specs.Ranges.{ranges_of}
use Rattle.operands.specs.Contexts.{contexts_of}

-- the identifiers of a list
abbrev pub identifiers_in : List ℕ → Listed → Part (List Identifier)
identifiers_in sheet l = several l.count (wide identifier_width identifier_at) sheet l.first

-- an identifier's start
abbrev pub start_of : Identifier → EvaluationOrder
start_of i = i.start

-- the sheet's starts, the ends after the real walks, and every context place as it stands in the sheet
pub record Begun (ids : List Identifier) (ws ws' : List ℕ) : Type 0 where
  pub starts : (ranges_of ws').starts ≡ sheet_starts ids
  pub ends : (ranges_of ws').ends ≡ slice END SEEN ws
  pub contexts : (fs : List InnerFunction) → length fs ≤ most_functions → Every (λ (f : InnerFunction). length f.context ≤ most_inner_context) fs → contexts_of ws' fs ≡ map (λ (f : InnerFunction). f.context) fs
  pub kept : Kept STARTS PASSED ws ws'
