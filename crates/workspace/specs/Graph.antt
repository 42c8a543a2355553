-- What the words mean: the graph of document 01 that the rows hold.
use Rattle.std.specs.Prelude.{ℕ, zero, suc, ◌+◌, ◌*◌, ◌/◌, ◌%◌, List, [], ◌∷◌, ◌++◌, map, get_or, eqb}
use Rattle.std.proofs.Math.Option.{Option, none, some}
use Rattle.model.specs.Limits.{most_identifiers}
use Rattle.model.specs.Lists.{pick}
use Rattle.model.specs.Graph.{Value, object, phi, function, Edge, Entry, Node, Graph, Relation, into_created_from, into_aliases, into_maybe_aliases, into_captures, edge_kind}
use Rattle.workspace.specs.Rows.{row_f, row_b}

-- the numbers of a node's four lists: created-from
abbrev pub CREATED : ℕ
CREATED = 0

abbrev pub ALIASES : ℕ
ALIASES = 1

-- maybe-aliases
abbrev pub MAYBE : ℕ
MAYBE = 2

abbrev pub CAPTURES : ℕ
CAPTURES = 3

-- the list by its number
abbrev pub relation_of : ℕ → Relation
relation_of zero = into_created_from
relation_of (suc zero) = into_aliases
relation_of (suc (suc zero)) = into_maybe_aliases
relation_of (suc (suc (suc k))) = into_captures

-- the word of a value: of no node
abbrev pub MISSING : ℕ
MISSING = 0

abbrev pub OBJECT : ℕ
OBJECT = 1

abbrev pub PHI : ℕ
PHI = 2

-- function k has the word FUNCTION + k
abbrev pub FUNCTION : ℕ
FUNCTION = 3

-- the value by its word
abbrev pub value_of : ℕ → Value
value_of zero = object
value_of (suc zero) = object
value_of (suc (suc zero)) = phi
value_of (suc (suc (suc k))) = function k

-- a word of a row of forward edges
unfoldable pub edge_row : ℕ → Edge
edge_row w = record { into = w % 512; index = w / 2048; kind = edge_kind (relation_of (w / 512 % 4)) }

-- a word of a row of entries
unfoldable pub entry_row : ℕ → Entry
entry_row w = record { origin = w % 512; index = w / 2048 }

-- the node of x by the word of its value, its row of edges and its four rows of entries
abbrev pub own_node : ℕ → (ℕ → List ℕ) → (ℕ → List ℕ) → ℕ → Node
own_node v row rows x = record {
  value = value_of v;
  forward = map edge_row (row x);
  created_from = map entry_row (rows (4 * x));
  aliases = map entry_row (rows (4 * x + 1));
  maybe_aliases = map entry_row (rows (4 * x + 2));
  captures = map entry_row (rows (4 * x + 3));
}

-- the node of x, by the values: none where its word is MISSING
unfoldable pub node_of : List ℕ → (ℕ → List ℕ) → (ℕ → List ℕ) → ℕ → Option Node
node_of values row rows x = pick (eqb (get_or values x 0) MISSING) none (some (own_node (get_or values x 0) row rows x))

-- the first n values of f
unfoldable pub tab : {A : Type 0} → ℕ → (ℕ → A) → List A
tab zero f = []
tab (suc n) f = tab n f ++ (f n ∷ [])

-- the graph that the rows hold, whose first words are the values
unfoldable pub graph_of_rows : List ℕ → Graph
graph_of_rows g = tab most_identifiers (node_of g (row_f g) (row_b g))
