-- The numbers of the two tables and of a node's four lists of entries.
use Rattle.std.specs.Prelude.{ℕ}
use Rattle.model.specs.Graph.{Relation as ModelRelation, into_created_from, into_aliases, into_maybe_aliases, into_captures}
use Rattle.workspace.specs.Graph.{CREATED, ALIASES, MAYBE, CAPTURES}
use Rattle.workspace.specs.declared.Table.{Table}
use Rattle.workspace.specs.declared.Table.TheVariants.{Edges, Entries}
use Rattle.workspace.specs.declared.Relation.{Relation}
use Rattle.workspace.specs.declared.Relation.TheVariants.{CreatedFrom, Alias, MaybeAlias, Capture}

abbrev pub table_number : Table → ℕ
table_number Edges = 0
table_number Entries = 1

abbrev pub relation_number : Relation → ℕ
relation_number CreatedFrom = CREATED
relation_number Alias = ALIASES
relation_number MaybeAlias = MAYBE
relation_number Capture = CAPTURES

-- the list of the same name
abbrev pub relation_says : Relation → ModelRelation
relation_says CreatedFrom = into_created_from
relation_says Alias = into_aliases
relation_says MaybeAlias = into_maybe_aliases
relation_says Capture = into_captures
