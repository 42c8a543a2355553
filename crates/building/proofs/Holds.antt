-- What the words hold: the logs, the nodes, how much; and steps on the graph one after the other.
use Prim.Native.Nat.{ℕ, zero, suc, ◌+◌, ◌≤◌, ◌<◌, max}
use native.Mathlib.Omega.{arith}
use native.Mathlib.Decide.{ℕ_discrete}
use mathlib.Core.Bool.{Bool, true, false, not, true≢false}
use mathlib.Core.List.{List, [], ◌∷◌}
use mathlib.Core.Path.{◌≡◌, refl, sym, ap, subst, ◌∙◌}
use lib.Seq.{slice}
use lib.ListN.{get_or, take, drop}
use lib.Dec.{eqb, leb}
use borrow.Author.Tests.{eq-eqb, ne_eqb, not-true, not-false, leb-true, leb-false}
use Rattle.model.specs.Limits.{most_identifiers, most_relations}
use mathlib.Core.Option.{Option, none, some}
use Rattle.model.specs.Lists.{is_some, map_option}
use Rattle.model.specs.Graph.{Node, Graph, has_node, change}
use Rattle.model.specs.Built.{held_in}
use Rattle.workspace.specs.Layout.{VALUE, FBOUND, MARKS, EDGES, ENTRIES, PHIS}
use Rattle.workspace.specs.Graph.{MISSING}
use Rattle.workspace.proofs.Parts.{take-word, drop-word, slice_at, slice_take, slice_drop}
use Rattle.building.specs.declared.Held.{Held}
use Rattle.building.specs.Logs.{Logs, graph_of_logs, Clean, without}
use Rattle.building.specs.Held.{values_of, has_value, logs_of, Marked, graph_of, Room, Builds}
use Rattle.building.proofs.Graphs.{there, missing}
use Rattle.building.proofs.Counts.{held_edges, held_entries}

pub logs_eq : {v v' e e' n n' : List ℕ} → v ≡ v' → e ≡ e' → n ≡ n' → ◌≡◌ {A = Logs} (record { values = v; edges = e; entries = n }) (record { values = v'; edges = e'; entries = n' })
logs_eq p q r = cc

-- the logs are words before PHIS
logs_low : (ws ws' : List ℕ) (h : Held) → h.edges ≤ most_relations → h.entries ≤ most_relations → take PHIS ws' ≡ take PHIS ws → logs_of ws' h ≡ logs_of ws h
logs_low ws ws' h e n t = logs_eq (slice_take PHIS VALUE FBOUND ws' ws (omega arith) t) (slice_take PHIS EDGES (EDGES + h.edges) ws' ws (omega arith) t) (slice_take PHIS ENTRIES (ENTRIES + h.entries) ws' ws (omega arith) t)

pub graph_low : (ws ws' : List ℕ) (h : Held) → h.edges ≤ most_relations → h.entries ≤ most_relations → take PHIS ws' ≡ take PHIS ws → graph_of ws' h ≡ graph_of ws h
unfolding graph_of
graph_low ws ws' h e n t = ap graph_of_logs (logs_low ws ws' h e n t)

pub clean_low : (ws ws' : List ℕ) (h : Held) → h.edges ≤ most_relations → h.entries ≤ most_relations → take PHIS ws' ≡ take PHIS ws → Clean (logs_of ws h) → Clean (logs_of ws' h)
clean_low ws ws' h e n t c = subst Clean (sym (logs_low ws ws' h e n t)) c

-- and not before VALUE
logs_high : (ws ws' : List ℕ) (h : Held) → drop VALUE ws' ≡ drop VALUE ws → logs_of ws' h ≡ logs_of ws h
logs_high ws ws' h e =
    logs_eq (slice_drop VALUE VALUE FBOUND ws' ws (omega arith) (omega arith) e) (slice_drop VALUE EDGES (EDGES + h.edges) ws' ws (omega arith) (omega arith) e)
    (slice_drop VALUE ENTRIES (ENTRIES + h.entries) ws' ws (omega arith) (omega arith) e)

pub graph_high : (ws ws' : List ℕ) (h : Held) → drop VALUE ws' ≡ drop VALUE ws → graph_of ws' h ≡ graph_of ws h
unfolding graph_of
graph_high ws ws' h e = ap graph_of_logs (logs_high ws ws' h e)

pub clean_high : (ws ws' : List ℕ) (h : Held) → drop VALUE ws' ≡ drop VALUE ws → Clean (logs_of ws h) → Clean (logs_of ws' h)
clean_high ws ws' h e c = subst Clean (sym (logs_high ws ws' h e)) c

-- ---- the marks
pub marked-same : (ws ws' : List ℕ) (n : ℕ) → ((x : ℕ) → x < most_identifiers → get_or ws' (MARKS + x) 0 ≡ get_or ws (MARKS + x) 0) → slice EDGES (EDGES + n) ws' ≡ slice EDGES (EDGES + n) ws → Marked ws n → Marked ws' n
marked-same ws ws' n w s m x k z = ap (without 0 x) s ∙ m x k (sym (w x k) ∙ z) ∙ sym s

-- they are words before PHIS, and not before VALUE
pub marked-low : (ws ws' : List ℕ) (n : ℕ) → n ≤ most_relations → take PHIS ws' ≡ take PHIS ws → Marked ws n → Marked ws' n
marked-low ws ws' n e t = marked-same ws ws' n (λ x k. take-word PHIS (MARKS + x) ws ws' (omega arith) t) (slice_take PHIS EDGES (EDGES + n) ws' ws (omega (arith, e)) t)

pub marked_high : (ws ws' : List ℕ) (n : ℕ) → drop VALUE ws' ≡ drop VALUE ws → Marked ws n → Marked ws' n
marked_high ws ws' n t = marked-same ws ws' n (λ x k. drop-word VALUE (MARKS + x) ws ws' (omega arith) t) (slice_drop VALUE EDGES (EDGES + n) ws' ws (omega arith) (omega arith) t)

-- ---- which nodes are there after a change
map_has : (f : Node → Node) (o : Option Node) → is_some (map_option f o) ≡ is_some o
map_has f none = refl
map_has f (some n) = refl

pub change_has : (y : ℕ) (f : Node → Node) (g : Graph) (x : ℕ) → has_node (change y f g) x ≡ has_node g x
unfolding change
change_has y f [] x = refl
change_has zero f (o ∷ g) zero = map_has f o
change_has zero f (o ∷ g) (suc x) = refl
change_has (suc y) f (o ∷ g) zero = refl
change_has (suc y) f (o ∷ g) (suc x) = change_has y f g x

-- ---- a node by its value
module _ (ws : List ℕ) (h : Held) (x : ℕ) (below : x < most_identifiers) where
  pub value-word : get_or (values_of ws) x 0 ≡ get_or ws (VALUE + x) 0
  value-word = slice_at VALUE FBOUND x ws (omega arith)

  node_is : has_node (graph_of ws h) x ≡ has_value ws x
  unfolding graph_of
  node_is = go (ℕ_discrete (get_or ws (VALUE + x) 0) MISSING)
    where
      go : Dec (get_or ws (VALUE + x) 0 ≡ MISSING) → has_node (graph_of_logs (logs_of ws h)) x ≡ not (eqb (get_or ws (VALUE + x) 0) MISSING)
      go (yes e) = missing (logs_of ws h) x below (value-word ∙ e) ∙ ap not (sym (eq-eqb (get_or ws (VALUE + x) 0) MISSING e))
      go (no e) = there (logs_of ws h) x below (λ p. e (sym value-word ∙ p)) ∙ ap not (sym (ne_eqb (get_or ws (VALUE + x) 0) MISSING e))

  -- by the code's test, negated
  pub node_there : (t : Bool) → t ≡ has_value ws x → not t ≡ false → has_node (graph_of ws h) x ≡ true
  node_there t e p = node_is ∙ sym e ∙ not-false t p

  pub node_missing : (t : Bool) → t ≡ has_value ws x → not t ≡ true → has_node (graph_of ws h) x ≡ false
  node_missing t e p = node_is ∙ sym e ∙ not-true t p

  -- a node that is there has a value
  pub value_there : has_node (graph_of ws h) x ≡ true → get_or (values_of ws) x 0 ≡ MISSING → ⊥
  unfolding graph_of
  value_there p e = true≢false (sym p ∙ missing (logs_of ws h) x below e)

pub by_limit : {P : Type 0} (n : ℕ) → (n ≤ most_relations → P) → (most_relations < n → P) → P
by_limit {P} n f g = go (leb n most_relations) refl
  where
    go : (b : Bool) → leb n most_relations ≡ b → P
    go true e = f (leb-true n most_relations e)
    go false e = g (leb-false n most_relations e)

-- ---- one after the other
-- the second holds no less than the first, or no more than was held before
pub builds_then : {F G : Graph → Graph} {ws : List ℕ} {h : Held} {ws₁ : List ℕ} {r₁ : Held} {ws₂ : List ℕ} {r₂ : Held}
    → held_in (F (graph_of ws h)) ≤ max h.most (held_in (G (F (graph_of ws h)))) → ((x : ℕ) → has_node (G (graph_of ws₁ r₁)) x ≡ has_node (G (F (graph_of ws h))) x) → Builds F ws h ws₁ r₁ → Builds G ws₁ r₁ ws₂ r₂ → Builds (λ (g : Graph). G (F g)) ws h ws₂ r₂
builds_then {F} {G} {ws} {h} {ws₁} {r₁} {ws₂} {r₂} k n s t =
    let first : r₂.most ≤ most_relations → r₁.most ≤ most_relations = λ a. omega (arith, a, t.most a) in
    record {
      graph = λ a. t.graph a ∙ ap G (s.graph (first a));
      most = λ a.
          let b = s.graph (first a) in
          omega (arith, k, t.most a, s.most (first a), ap (λ (g : Graph). held_in (G g)) b);
      over = λ a. by_limit r₁.most (λ b. omega (arith, k, t.over a, s.most b, ap (λ (g : Graph). held_in (G g)) (s.graph b))) (λ b. omega (arith, k, s.over b));
      nodes = λ x. t.nodes x ∙ n x;
      room = t.room;
      low = t.low ∙ s.low;
      high = t.high ∙ s.high;
      same = t.same ∙ s.same;
    }

pub builds_as : {F G : Graph → Graph} {ws : List ℕ} {h : Held} {ws' : List ℕ} {r : Held} → Builds F ws h ws' r → F (graph_of ws h) ≡ G (graph_of ws h) → Builds G ws h ws' r
builds_as {F} {G} {ws} {h} {ws'} {r} s e = record {
  graph = λ a. s.graph a ∙ e;
  most = λ a. s.most a ∙ ap (λ (g : Graph). max h.most (held_in g)) e;
  over = λ a. omega (arith, s.over a, ap held_in e);
  nodes = λ x. s.nodes x ∙ ap (λ (g : Graph). has_node g x) e;
  room = s.room;
  low = s.low;
  high = s.high;
  same = s.same;
}

-- what the graph holds
pub held_graph : (ws : List ℕ) (h : Held) → Room ws h → held_in (graph_of ws h) ≡ max h.edges h.entries
held_graph ws h room = omega (arith, held_edges ws h room.clean room.size room.edges room.entries, held_entries ws h room.clean room.size room.edges room.entries)

-- and that is no more than was held at any time
pub graph_below : (ws : List ℕ) (h : Held) → Room ws h → held_in (graph_of ws h) ≤ h.most
graph_below ws h room =
    let g = held_graph ws h room in
    by_limit h.most (λ a. omega (arith, g, (room.held a).0, (room.held a).1)) (λ a. omega (arith, g, room.edges, room.entries))

-- nothing is stored
pub builds_none : {F : Graph → Graph} {ws : List ℕ} {h : Held} → Room ws h → graph_of ws h ≡ F (graph_of ws h) → Builds F ws h ws h
builds_none {F} {ws} {h} room e =
    let held : held_in (F (graph_of ws h)) ≡ max h.edges h.entries =
    ap held_in (sym e) ∙ held_graph ws h room in
    record {
      graph = λ a. e;
      most = λ a. omega (arith, held, (room.held a).0, (room.held a).1);
      over = λ a. omega (arith, a);
      nodes = λ x. ap (λ (g : Graph). has_node g x) e;
      room = room;
      low = refl;
      high = refl;
      same = refl;
    }
