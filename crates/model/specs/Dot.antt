-- Document 02, order 6, "The graph as a DOT file": "In class I draw the graph with Graphviz. Write the built graph as bytes".
-- Left out: the bytes lent and the workspace afterwards, which are as after any call (`answer_after`, `workspace_after` of Call).
use Rattle.std.specs.Prelude.{ℕ, suc, List, [], ◌∷◌, ◌++◌}
use Rattle.std.proofs.Math.Option.{none, some}
use Rattle.model.specs.Lists.{gather}
use Rattle.model.specs.Sheet.{IdentifierId, Sheet}
use Rattle.model.specs.Reading.{Result, got, refused}
use Rattle.model.specs.Graph.{EdgeKind, capture, alias, maybe, Edge, Node, Graph}
use Rattle.model.specs.Building.{build}
use Rattle.model.specs.Call.{Outcome, refusal, fits, admit}
use Rattle.model.specs.Digits.{bytes, digits}

-- ---- the lines; "Every line ends in one line feed"
-- "`  n0;` with its number"
unfoldable pub node_line : IdentifierId → List ℕ
node_line x = bytes "  n" ++ (digits x ++ bytes ";\n")

-- "the word capture, alias or maybe"
abbrev pub kind_word : EdgeKind → List ℕ
kind_word capture = bytes "capture"
kind_word alias = bytes "alias"
kind_word maybe = bytes "maybe"

-- "`  n0 -> n1 [label="capture 0"];` with both ends, the word, and the index"
unfoldable pub edge_line : IdentifierId → Edge → List ℕ
edge_line x e =
    bytes "  n" ++ (digits x ++ (bytes " -> n" ++ (digits e.into
    ++ (bytes " [label=\"" ++ (kind_word e.kind ++ (bytes " " ++ (digits e.index ++ bytes "\"];\n")))))))

-- ---- the text
-- "for each node in rising identifier": what is said of each, x being the identifier of the first
unfoldable pub by_node : (IdentifierId → Node → List ℕ) → IdentifierId → Graph → List ℕ
by_node f x [] = []
by_node f x (none ∷ g) = by_node f (suc x) g
by_node f x (some n ∷ g) = f x n ++ by_node f (suc x) g

-- a line for each node
unfoldable pub node_lines : Graph → List ℕ
node_lines = by_node (λ (x : IdentifierId) (n : Node). node_line x) 0

-- "then for each forward edge, by node and stored order"
unfoldable pub edge_lines : Graph → List ℕ
edge_lines = by_node (λ (x : IdentifierId) (n : Node). gather (edge_line x) n.forward) 0

-- "the line `digraph g {`", the nodes, the edges, "then the line `}`"
unfoldable pub dot : Graph → List ℕ
dot g = bytes "digraph g {\n" ++ (node_lines g ++ (edge_lines g ++ bytes "}\n"))

-- ---- the call
-- "9 compares the lent bytes with this text's length"
unfoldable pub drawn : ℕ → Result Sheet → Outcome
drawn room (got s c) = fits room (dot (build s).graph)
drawn room (refused k) = refusal k

-- "Checks: 1 to 8 for the sheet as before"; it "takes no serial and never gives 10"
unfoldable pub draw : List ℕ → ℕ → ℕ → Outcome
draw sheet workspace room = drawn room (admit sheet workspace)
