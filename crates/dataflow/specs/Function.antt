-- The function of a sheet as the call keeps it, and what of the sheet stands in the workspace.
use Rattle.std.specs.Prelude.{ℕ, ◌+◌, ◌≤◌, ◌<◌, ◌≡◌, false, List, [], ◌∷◌, ◌++◌, length}
use Rattle.model.specs.Limits.{most_sheet, most_identifiers, most_functions, most_params, most_context, most_blocks, identifier_width}
use Rattle.model.specs.Sheet.{Sheet}
use Rattle.model.specs.Summary.{errors, copied}
use Rattle.hir.specs.Says.{place_is}
use Rattle.hir.specs.Words.{wide, identifier_at, several, block_from}
use Rattle.workspace.specs.Layout.{LEAST}
use Rattle.copies.specs.Functions.{Functions}
use Rattle.workspace.specs.Tracked.{tracked_of}
use Rattle.dataflow.specs.declared.function.HirFunction.{HirFunction}

-- no count is above its limit, and returns has an identifier
pub record Limited (f : HirFunction) : Type 0 where
  pub n : f.identifiers.count ≤ most_identifiers
  pub m : f.m ≤ most_functions
  pub params : f.params ≤ most_params
  pub context : f.context ≤ most_context
  pub count : f.blocks.count ≤ most_blocks
  pub returns : f.returns.identifier.0 < f.identifiers.count

-- f is the function of the sheet s, which stands in the words
pub record Describes (s : Sheet) (sheet : List ℕ) (f : HirFunction) : Type 0 where
  pub errors : f.errors ≡ errors s
  pub function_expression : f.function_expression ≡ s.flags.function_expression
  pub copies : f.copies ≡ false → copied s ≡ []
  pub n : f.identifiers.count ≡ length s.identifiers
  pub m : f.m ≡ length s.functions
  pub params : f.params ≡ length s.params
  pub context : f.context ≡ length s.context
  pub returns : place_is f.returns ≡ s.returns
  pub identifiers : (several f.identifiers.count (wide identifier_width identifier_at) sheet f.identifiers.first).what ≡ s.identifiers
  pub identifiers_inside : (several f.identifiers.count (wide identifier_width identifier_at) sheet f.identifiers.first).next ≤ length sheet
  pub blocks : (several f.blocks.count block_from sheet f.blocks.first).what ≡ s.blocks
  pub blocks_inside : (several f.blocks.count block_from sheet f.blocks.first).next ≤ length sheet
  pub short : length sheet ≤ most_sheet

-- the places of s are tracked
abbrev pub Tracking : Sheet → List ℕ → Type 0
Tracking s ws = tracked_of ws (length s.params + length s.context + 1) ≡ s.params ++ (s.context ++ (s.returns ∷ []))

-- what stands in the workspace from here to the call's end: where each inner function stands in the lists, and the tracked places
pub record Stands (s : Sheet) (lists ws : List ℕ) : Type 0 where
  pub size : LEAST ≤ length ws
  pub functions : Functions lists ws s.functions
  pub tracked : Tracking s ws
