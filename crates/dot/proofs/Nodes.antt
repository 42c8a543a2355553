-- What is said of each identifier of the graph that the rows hold.
use Prim.Native.Nat.{ℕ, suc, ◌+◌, ◌-◌, ◌≤◌, ◌<◌}
use native.Mathlib.Omega.{arith}
use native.Mathlib.Numerals.{add-one}
use mathlib.Core.Path.{◌≡◌, refl, sym, ap, ◌∙◌}
use mathlib.Core.List.{List, [], ◌∷◌, ◌++◌}
use mathlib.Core.Option.{Option, none, some}
use lib.ListN.{length, get_or, drop}
use lib.Seq.{slice}
use borrow.Author.Tests.{eq-eqb, ne_eqb}
use Rattle.model.specs.Limits.{most_identifiers}
use Rattle.model.specs.Lists.{gather}
use Rattle.model.specs.Sheet.{IdentifierId}
use Rattle.model.specs.Graph.{Node, Graph}
use Rattle.model.specs.Dot.{node_line, edge_line, by_node, node_lines, edge_lines}
use Rattle.model.proofs.Gathers.{gather_map}
use Rattle.workspace.specs.Layout.{LEAST, VALUE, FBOUND, FEDGE}
use Rattle.workspace.specs.Rows.{rows_of, value, fb, row_f, row_b}
use Rattle.workspace.specs.Graph.{MISSING, edge_row, own_node, node_of, graph_of_rows}
use Rattle.workspace.proofs.Rows.{value_at_lem, row_f_at, Bounds}
use Rattle.workspace.proofs.Tables.{tab-drop, tab_end}
use Rattle.dot.specs.Lines.{row_text, said, node_in, node_text, edges_text}

-- ---- one identifier after another
module _ (f : IdentifierId → Node → List ℕ) where
  by_next : (x : ℕ) (o : Option Node) (g : Graph) → by_node f x (o ∷ g) ≡ said f x o ++ by_node f (suc x) g
  unfolding by_node
  by_next x none g = refl
  by_next x (some n) g = refl

  -- what is left to be said from x on
  abbrev pub said_from : List ℕ → ℕ → List ℕ
  said_from g x = by_node f x (drop x (graph_of_rows g))

  pub said_next : (g : List ℕ) (x : ℕ) → x < most_identifiers → said_from g x ≡ said f x (node_in g x) ++ said_from g (x + 1)
  unfolding graph_of_rows
  said_next g x h =
      ap (by_node f x) (tab-drop most_identifiers (node_in g) x h) ∙ by_next x (node_in g x) (drop (x + 1) (graph_of_rows g))
      ∙ ap (λ (y : ℕ). said f x (node_in g x) ++ by_node f y (drop (x + 1) (graph_of_rows g))) (sym (add-one x))

  pub said_none : (g : List ℕ) (x : ℕ) → most_identifiers ≤ x → said_from g x ≡ []
  unfolding graph_of_rows by_node
  said_none g x h = ap (by_node f x) (tab_end most_identifiers (node_in g) x h)

-- ---- the lines of nodes, and of edges, from x on
abbrev pub nodes_from : List ℕ → ℕ → List ℕ
nodes_from = said_from (λ (y : IdentifierId) (n : Node). node_line y)

abbrev pub edges_from : List ℕ → ℕ → List ℕ
edges_from = said_from (λ (y : IdentifierId) (n : Node). gather (edge_line y) n.forward)

pub nodes_all : (g : List ℕ) → nodes_from g 0 ≡ node_lines (graph_of_rows g)
unfolding node_lines
nodes_all g = refl

pub edges_all : (g : List ℕ) → edges_from g 0 ≡ edge_lines (graph_of_rows g)
unfolding edge_lines
edges_all g = refl

pub nodes_next : (g : List ℕ) (x : ℕ) → x < most_identifiers → nodes_from g x ≡ node_text g x ++ nodes_from g (x + 1)
unfolding node_text
nodes_next g x h = said_next (λ (y : IdentifierId) (n : Node). node_line y) g x h

pub edges_next : (g : List ℕ) (x : ℕ) → x < most_identifiers → edges_from g x ≡ edges_text g x ++ edges_from g (x + 1)
unfolding edges_text
edges_next g x h = said_next (λ (y : IdentifierId) (n : Node). gather (edge_line y) n.forward) g x h

pub nodes_none : (g : List ℕ) (x : ℕ) → most_identifiers ≤ x → nodes_from g x ≡ []
nodes_none = said_none (λ (y : IdentifierId) (n : Node). node_line y)

pub edges_none : (g : List ℕ) (x : ℕ) → most_identifiers ≤ x → edges_from g x ≡ []
edges_none = said_none (λ (y : IdentifierId) (n : Node). gather (edge_line y) n.forward)

-- ---- by the word of the value
module _ (ws : List ℕ) (size : LEAST ≤ length ws) (x : ℕ) (h : x < most_identifiers) where
  value-word : get_or (rows_of ws) x 0 ≡ get_or ws (VALUE + x) 0
  unfolding value
  value-word = value_at_lem ws size x h

  node_missing : get_or ws (VALUE + x) 0 ≡ MISSING → node_in (rows_of ws) x ≡ none
  unfolding node_of
  node_missing e = rw (eq-eqb (get_or (rows_of ws) x 0) MISSING (value-word ∙ e))

  node_there : (get_or ws (VALUE + x) 0 ≡ MISSING → ⊥) → node_in (rows_of ws) x ≡ some (own_node (get_or (rows_of ws) x 0) (row_f (rows_of ws)) (row_b (rows_of ws)) x)
  unfolding node_of
  node_there e = rw (ne_eqb (get_or (rows_of ws) x 0) MISSING (λ q. e (sym value-word ∙ q)))

  pub node_no_line : get_or ws (VALUE + x) 0 ≡ MISSING → [] ≡ node_text (rows_of ws) x
  unfolding node_text
  node_no_line e = sym (ap (said (λ (y : IdentifierId) (n : Node). node_line y) x) (node_missing e))

  pub node_line_lem : (get_or ws (VALUE + x) 0 ≡ MISSING → ⊥) → node_line x ≡ node_text (rows_of ws) x
  unfolding node_text
  node_line_lem e = sym (ap (said (λ (y : IdentifierId) (n : Node). node_line y) x) (node_there e))

  pub edge_no_lines : get_or ws (VALUE + x) 0 ≡ MISSING → [] ≡ edges_text (rows_of ws) x
  unfolding edges_text
  edge_no_lines e = sym (ap (said (λ (y : IdentifierId) (n : Node). gather (edge_line y) n.forward) x) (node_missing e))

  row_lines : (get_or ws (VALUE + x) 0 ≡ MISSING → ⊥) → row_text x (row_f (rows_of ws) x) ≡ edges_text (rows_of ws) x
  unfolding edges_text row_text
  row_lines e =
      sym (gather_map (edge_line x) edge_row (row_f (rows_of ws) x))
      ∙ sym (ap (said (λ (y : IdentifierId) (n : Node). gather (edge_line y) n.forward) x) (node_there e))

  -- by its bounds, as the code reads them
  pub edge_lines_lem : (get_or ws (VALUE + x) 0 ≡ MISSING → ⊥) → Bounds ws FBOUND (FBOUND + x) (FBOUND + x + 1) (fb (rows_of ws) x) (fb (rows_of ws) (x + 1))
      → row_text x (slice (FEDGE + (get_or ws FBOUND 0 - get_or ws (FBOUND + x) 0)) (FEDGE + (get_or ws FBOUND 0 - get_or ws (FBOUND + x + 1) 0)) ws) ≡ edges_text (rows_of ws) x
  edge_lines_lem e b =
      ap (row_text x) (row_f_at ws size x (get_or ws FBOUND 0 - get_or ws (FBOUND + x) 0) (get_or ws FBOUND 0 - get_or ws (FBOUND + x + 1) 0) b.is_lo b.is_hi (omega (arith, b.is_hi, b.few))) ∙ row_lines e
