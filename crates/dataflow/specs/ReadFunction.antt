-- The sections before the blocks of an accepted sheet, read a second time.
use Rattle.std.specs.Prelude.{ℕ, ◌≡◌, List, map, length, take}
use Rattle.std.proofs.lemmas.List.Edits.{sets}
use Rattle.workspace.specs.Layout.{END, SEEN}
use Rattle.dataflow.specs.Whole.{First}
use Rattle.dataflow.specs.Accepted.{sheet_of}
use Rattle.dataflow.specs.Function.{Limited, Describes, Stands}
use Rattle.dataflow.specs.Read.{end_of}
use Rattle.dataflow.specs.declared.function.Read.{Read}

pub record FunctionRead (sheet ws ws' : List ℕ) (r : Read) : Type 0 where
  pub describes : Describes (sheet_of sheet) sheet r.function
  pub limited : Limited r.function
  pub first : First (sheet_of sheet) ws' r.building
  pub stands : Stands (sheet_of sheet) sheet ws'
  pub ends : take SEEN ws' ≡ take SEEN (sets ws END (map end_of (sheet_of sheet).identifiers))
  pub same : length ws' ≡ length ws
