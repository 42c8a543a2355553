-- A relation that is stored takes no edge and no entry away: no less is held than before.
use Prim.Native.Nat.{ℕ, zero, suc, ◌≤◌}
use native.Mathlib.Omega.{arith}
use mathlib.Core.Bool.{Bool, true, false, ◌&&◌}
use mathlib.Core.List.{List, [], ◌∷◌, ◌++◌}
use mathlib.Core.Option.{Option, none, some}
use lib.ListN.{length, get_or, set, length-append}
use Rattle.model.specs.Lists.{pick, map_option}
use Rattle.model.specs.Sheet.{IdentifierId}
use Rattle.model.specs.Graph.{Value, new_node, create, Node, Entry, Graph, has_node, node_at, Relation, into_created_from, into_aliases, into_maybe_aliases, into_captures, edge_kind, keeps_from, enter, with_edge, with_entry, change, store, relate}
use Rattle.model.specs.Size.{node_edges, node_entries, edges, entries}
use Rattle.model.specs.Built.{held_in}

-- both numbers are no less
pub record More (g h : Graph) : Type 0 where
  pub edges : edges g ≤ edges h
  pub entries : entries g ≤ entries h

pub more_held : (g h : Graph) → More g h → held_in g ≤ held_in h
more_held g h m = omega (arith, m.edges, m.entries)

set-edges : (g : Graph) (x : ℕ) (o : Option Node) → node_edges (get_or g x none) ≤ node_edges o → edges g ≤ edges (set g x o)
set-edges [] x o h = omega arith
set-edges (p ∷ g) zero o h = omega (arith, h)
set-edges (p ∷ g) (suc x) o h = omega (arith, set-edges g x o h)

set-entries : (g : Graph) (x : ℕ) (o : Option Node) → node_entries (get_or g x none) ≤ node_entries o → entries g ≤ entries (set g x o)
set-entries [] x o h = omega arith
set-entries (p ∷ g) zero o h = omega (arith, h)
set-entries (p ∷ g) (suc x) o h = omega (arith, set-entries g x o h)

change_more : (x : IdentifierId) (f : Node → Node) (g : Graph) → ((n : Node) → (node_edges (some n) ≤ node_edges (some (f n))) × (node_entries (some n) ≤ node_entries (some (f n)))) → More g (change x f g)
unfolding change
change_more x f g h = let k = go (node_at g x) in record { edges = set-edges g x (map_option f (node_at g x)) k.0; entries = set-entries g x (map_option f (node_at g x)) k.1 }
  where
    go : (o : Option Node) → (node_edges o ≤ node_edges (map_option f o)) × (node_entries o ≤ node_entries (map_option f o))
    go none = (omega arith, omega arith)
    go (some n) = h n

pub edge_more : (x : IdentifierId) (r : Relation) (i : ℕ) (into : IdentifierId) (g : Graph) → More g (change x (with_edge r i into) g)
unfolding with_edge
edge_more x r i into g = change_more x (with_edge r i into) g go
  where
    go : (n : Node) → (node_edges (some n) ≤ node_edges (some (with_edge r i into n))) × (node_entries (some n) ≤ node_entries (some (with_edge r i into n)))
    go n = (omega (arith, length-append n.forward (record { into = into; index = i; kind = edge_kind r } ∷ [])), omega arith)

enter_more : (x : IdentifierId) (i : ℕ) (l : List Entry) → length l ≤ length (enter x i l)
unfolding enter
enter_more x i l = go (keeps_from x l)
  where
    new : List Entry
    new = record { origin = x; index = i } ∷ []

    go : (b : Bool) → length l ≤ length (pick b l (l ++ new))
    go true = omega arith
    go false = omega (arith, length-append l new)

pub entry_more : (x : IdentifierId) (r : Relation) (i : ℕ) (from : IdentifierId) (g : Graph) → More g (change x (with_entry r i from) g)
unfolding with_entry
entry_more x r i from g = change_more x (with_entry r i from) g (go r)
  where
    go : (r : Relation) (n : Node) → (node_edges (some n) ≤ node_edges (some (with_entry r i from n))) × (node_entries (some n) ≤ node_entries (some (with_entry r i from n)))
    go into_created_from n = (omega arith, omega (arith, enter_more from i n.created_from))
    go into_aliases n = (omega arith, omega (arith, enter_more from i n.aliases))
    go into_maybe_aliases n = (omega arith, omega (arith, enter_more from i n.maybe_aliases))
    go into_captures n = (omega arith, omega (arith, enter_more from i n.captures))

store_more : (r : Relation) (i : ℕ) (from into : IdentifierId) (g : Graph) → More g (store r i from into g)
unfolding store
store_more r i from into g =
    let a = edge_more from r i into g in
    let b = entry_more into r i from (change from (with_edge r i into) g) in
    record { edges = omega (arith, a.edges, b.edges); entries = omega (arith, a.entries, b.entries) }

pub relate_more : (r : Relation) (i : ℕ) (from into : IdentifierId) (g : Graph) → More g (relate r i from into g)
unfolding relate
relate_more r i from into g = go (has_node g from && has_node g into)
  where
    go : (b : Bool) → More g (pick b (store r i from into g) g)
    go true = store_more r i from into g
    go false = record { edges = omega arith; entries = omega arith }

-- a creation takes what the node held, and adds nothing
set_no_edges : (g : Graph) (x : ℕ) (o : Option Node) → node_edges o ≤ 0 → edges (set g x o) ≤ edges g
set_no_edges [] x o h = omega arith
set_no_edges (p ∷ g) zero o h = omega (arith, h)
set_no_edges (p ∷ g) (suc x) o h = omega (arith, set_no_edges g x o h)

set_no_entries : (g : Graph) (x : ℕ) (o : Option Node) → node_entries o ≤ 0 → entries (set g x o) ≤ entries g
set_no_entries [] x o h = omega arith
set_no_entries (p ∷ g) zero o h = omega (arith, h)
set_no_entries (p ∷ g) (suc x) o h = omega (arith, set_no_entries g x o h)

pub create_less : (x : IdentifierId) (v : Value) (g : Graph) → held_in (create x v g) ≤ held_in g
unfolding create
create_less x v g = omega (arith, set_no_edges g x (some (new_node v)) (omega arith), set_no_entries g x (some (new_node v)) (omega arith))
