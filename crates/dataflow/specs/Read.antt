-- What the second reading of the sections up to the inner functions leaves in the workspace.
use Rattle.std.specs.Prelude.{ℕ, ◌≡◌, List, map}
use Rattle.std.proofs.lemmas.List.Edits.{sets}
use Rattle.model.specs.Sheet.{Identifier}
use Rattle.model.specs.Reading.{Position}
use Rattle.model.specs.Summary.{errors}
use Rattle.hir.specs.declared.at.List.{List as Listed}
use Rattle.hir.specs.Words.{Standing, several, placed, function_from}
use Rattle.hir.specs.Parts.{ListAt}
use Rattle.workspace.specs.Layout.{END, FUNCTIONS}
use Rattle.dataflow.specs.Accepted.{sections_of, sheet_of}
use Rattle.dataflow.specs.declared.header.Top.{Top}

-- the word that is stored of an identifier, and of the place of an inner function
abbrev pub end_of : Identifier → ℕ
end_of i = i.end

abbrev pub stands_at : Position → ℕ
stands_at c = c

-- a word of each part of a list was stored from `to` on; r is the position after the list
pub record Stores {A : Type 0} (f : Standing A) (word : A → ℕ) (l : Listed) (to : ℕ) (sheet ws ws' : List ℕ) (r : Position) : Type 0 where
  pub words : ws' ≡ sets ws to (map word (several l.count f sheet l.first).what)
  pub next : r ≡ (several l.count f sheet l.first).next

-- the ends of the identifiers, and where each inner function stands
pub record TopRead (sheet ws ws' : List ℕ) (t : Top) : Type 0 where
  pub errors : t.errors ≡ errors (sheet_of sheet)
  pub function_expression : t.function_expression ≡ (sheet_of sheet).flags.function_expression
  pub identifiers : ListAt sheet (sections_of sheet).identifiers t.identifiers
  pub functions : ListAt sheet (sections_of sheet).functions t.functions
  pub next : t.next ≡ (sections_of sheet).params
  pub words : ws' ≡ sets (sets ws END (map end_of (sheet_of sheet).identifiers)) FUNCTIONS (map stands_at (several t.functions.count (placed function_from) sheet t.functions.first).what)
