-- The graph that rows hold, node by node.
use Prim.Native.Nat.{ℕ, ◌+◌, ◌*◌, ◌<◌}
use mathlib.Core.List.{List}
use mathlib.Core.Option.{none, some}
use mathlib.Core.Path.{◌≡◌, ◌∙◌}
use lib.ListN.{length, get_or}
use borrow.Author.Tests.{eq-eqb, ne_eqb}
use Rattle.model.specs.Limits.{most_identifiers}
use Rattle.model.specs.Graph.{node_at}
use Rattle.workspace.specs.Rows.{value, row_f, row_b}
use Rattle.workspace.specs.Graph.{MISSING, own_node, node_of, graph_of_rows}
use Rattle.workspace.proofs.Tables.{tab-length, tab_at}

-- ---- a node by its value and its rows
pub node-same : (v v' : List ℕ) (a a' r r' : ℕ → List ℕ) (x : ℕ) → get_or v x 0 ≡ get_or v' x 0 → a x ≡ a' x → r (4 * x) ≡ r' (4 * x) → r (4 * x + 1) ≡ r' (4 * x + 1) → r (4 * x + 2) ≡ r' (4 * x + 2) → r (4 * x + 3) ≡ r' (4 * x + 3)
    → node_of v a r x ≡ node_of v' a' r' x
unfolding node_of
node-same v v' a a' r r' x p q e₀ e₁ e₂ e₃ = rw (p, q, e₀, e₁, e₂, e₃)

pub node_some : (v : List ℕ) (a r : ℕ → List ℕ) (x : ℕ) → (get_or v x 0 ≡ MISSING → ⊥) → node_of v a r x ≡ some (own_node (get_or v x 0) a r x)
unfolding node_of
node_some v a r x e = rw (ne_eqb (get_or v x 0) MISSING e)

pub node_none : (v : List ℕ) (a r : ℕ → List ℕ) (x : ℕ) → get_or v x 0 ≡ MISSING → node_of v a r x ≡ none
unfolding node_of
node_none v a r x e = rw (eq-eqb (get_or v x 0) MISSING e)

-- ---- the graph of the rows
pub graph_length : (g : List ℕ) → length (graph_of_rows g) ≡ most_identifiers
unfolding graph_of_rows
graph_length g = tab-length most_identifiers (node_of g (row_f g) (row_b g))

pub row-node : (g : List ℕ) (x : ℕ) → x < most_identifiers → node_at (graph_of_rows g) x ≡ node_of g (row_f g) (row_b g) x
unfolding graph_of_rows
row-node g x h = tab_at most_identifiers (node_of g (row_f g) (row_b g)) x none h

-- a node that is there, and one that is missing
pub row_there : (g : List ℕ) (x : ℕ) → x < most_identifiers → (value g x ≡ MISSING → ⊥) → node_at (graph_of_rows g) x ≡ some (own_node (value g x) (row_f g) (row_b g) x)
unfolding value
row_there g x h e = row-node g x h ∙ node_some g (row_f g) (row_b g) x e

pub row_missing : (g : List ℕ) (x : ℕ) → x < most_identifiers → value g x ≡ MISSING → node_at (graph_of_rows g) x ≡ none
unfolding value
row_missing g x h e = row-node g x h ∙ node_none g (row_f g) (row_b g) x e
