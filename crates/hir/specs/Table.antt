-- Document 01, "This table gives places and largest extra word by effect kind": what a row of the code's table says, and what it has to say.
use Rattle.std.specs.Prelude.{ℕ, ◌≡◌}
use Rattle.model.specs.Sheet.{EffectKind}
use Rattle.model.specs.Effects.{kind_of, row_of, Role as ModelRole, relation, mutation, render, diagnosis, nothing}
use Rattle.hir.specs.Numbers.{kind_says}
use Rattle.hir.specs.declared.effects.Row.{Row}
use Rattle.hir.specs.declared.effects.Role.{Role}
use Rattle.hir.specs.declared.effects.Role.TheVariants.{Relation, Mutation, Render, Diagnosis, Nothing}

-- the role of the same name
abbrev pub role_says : Role → ModelRole
role_says Relation = relation
role_says Mutation = mutation
role_says Render = render
role_says Diagnosis = diagnosis
role_says Nothing = nothing

-- a row: the kind, how many places it uses, its largest instance, its largest extra word
pub record TableRow : Type 0 where
  pub kind : EffectKind
  pub places : ℕ
  pub instance : ℕ
  pub extra : ℕ

-- what the code's row says
abbrev pub row_says : Row → TableRow
row_says r = record { kind = kind_says r.kind; places = r.places; instance = r.instance; extra = r.extra }

-- the document's row of a kind's number
unfoldable pub table_row : ℕ → TableRow
table_row k = record { kind = kind_of k; places = (row_of (kind_of k)).places; instance = (row_of (kind_of k)).instance; extra = (row_of (kind_of k)).extra }

-- the row is that of its kind
pub record OwnRow (r : TableRow) : Type 0 where
  pub places : r.places ≡ (row_of r.kind).places
  pub instance : r.instance ≡ (row_of r.kind).instance
  pub extra : r.extra ≡ (row_of r.kind).extra
