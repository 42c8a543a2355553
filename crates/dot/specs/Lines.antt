-- The parts of a drawing's text, and how long each is at most: bounds that keep sums of positions from wrapping.
use Rattle.std.specs.Prelude.{ℕ, ◌+◌, ◌*◌, ◌≤◌, List, [], ◌++◌}
use Rattle.std.proofs.Math.Option.{Option, none, some}
use Rattle.model.specs.Limits.{most_identifiers, most_relations}
use Rattle.model.specs.Lists.{gather}
use Rattle.model.specs.Sheet.{IdentifierId}
use Rattle.model.specs.Graph.{EdgeKind, Node}
use Rattle.model.specs.Digits.{bytes, digits}
use Rattle.model.specs.Dot.{kind_word, node_line, edge_line}
use Rattle.workspace.specs.Rows.{row_f, row_b}
use Rattle.workspace.specs.Graph.{edge_row, node_of}
use Rattle.writing.specs.declared.Writer.{Writer}
use Rattle.writing.specs.Wrote.{Writes}

-- the digits of a number of 32 bits
abbrev pub most_digits : ℕ
most_digits = 10

-- the word of a kind
abbrev pub most_kind : ℕ
most_kind = 7

-- the line of an edge, up to its label
unfoldable pub ends_text : IdentifierId → IdentifierId → List ℕ
ends_text x into = bytes "  n" ++ (digits x ++ (bytes " -> n" ++ digits into))

-- the label, and the line's end
unfoldable pub label_text : EdgeKind → ℕ → List ℕ
label_text k index = bytes " [label=\"" ++ (kind_word k ++ (bytes " " ++ (digits index ++ bytes "\"];\n")))

-- the first of these
abbrev pub most_ends : ℕ
most_ends = 3 + most_digits + 5 + most_digits

-- the second
abbrev pub most_label : ℕ
most_label = 9 + most_kind + 1 + most_digits + 4

-- a line, of a node or of an edge
abbrev pub most_line : ℕ
most_line = most_ends + most_label

-- the lines of the edges of node x, by their words
unfoldable pub row_text : IdentifierId → List ℕ → List ℕ
row_text x ws = gather (λ (w : ℕ). edge_line x (edge_row w)) ws

-- what is said of identifier x, if it has a node
abbrev pub said : (IdentifierId → Node → List ℕ) → IdentifierId → Option Node → List ℕ
said f x none = []
said f x (some n) = f x n

-- identifier x's node in the rows
abbrev pub node_in : List ℕ → IdentifierId → Option Node
node_in g x = node_of g (row_f g) (row_b g) x

-- its line, if it has a node
unfoldable pub node_text : List ℕ → IdentifierId → List ℕ
node_text g x = said (λ (y : IdentifierId) (n : Node). node_line y) x (node_in g x)

-- the lines of its edges
unfoldable pub edges_text : List ℕ → IdentifierId → List ℕ
edges_text g x = said (λ (y : IdentifierId) (n : Node). gather (edge_line y) n.forward) x (node_in g x)

-- the lines of all nodes
abbrev pub most_nodes : ℕ
most_nodes = most_identifiers * most_line

-- the lines of one node's edges
abbrev pub most_row : ℕ
most_row = most_relations * most_line

-- the lines of all edges
abbrev pub most_edges : ℕ
most_edges = most_identifiers * most_row

-- bytes were written, and they are not more than `most`
pub record Put (bs : List ℕ) (most : ℕ) (o o' : Writer ℕ) : Type 0 where
  pub wrote : Writes bs o o'
  pub few : o'.at ≤ o.at + most
