-- Each step on the logs is a step on the graph.
use Prim.Native.Nat.{ℕ, zero, suc, ◌+◌, ◌*◌, ◌/◌, ◌%◌, ◌<◌}
use native.Mathlib.Omega.{arith}
use native.Mathlib.Nat.{add-zero}
use mathlib.Core.Bool.{Bool, true, false}
use mathlib.Core.List.{List, [], ◌∷◌, ◌++◌, map}
use mathlib.Core.Option.{Option, none, some}
use mathlib.Core.Path.{◌≡◌, refl, sym, ap, subst, ◌∙◌}
use lib.ListN.{length, get_or, set}
use lib.Seq.{get_or-set_same, get_or-set_other}
use lib.Dec.{eqb}
use borrow.Author.Tests.{ne_eqb}
use Rattle.model.specs.Limits.{most_identifiers}
use Rattle.model.specs.Lists.{pick, map_option}
use Rattle.model.specs.Graph.{Edge, Node, node_at, has_node, new_node, create, edge_kind, enter, with_edge, with_entry, change}
use Rattle.workspace.specs.Sort.{key_w, word_w, sel}
use Rattle.workspace.specs.Graph.{relation_of, value_of, edge_row, entry_row, own_node, node_of, tab}
use Rattle.workspace.proofs.Tables.{tab_at, tab-set}
use Rattle.workspace.proofs.Graph.{node-same, node_some, node_none}
use Rattle.building.specs.Logs.{Logs, graph_of_logs, without, once_w, create_l, edge_l, entry_l, edge_g, entry_g}
use Rattle.building.proofs.Words.{sel_hit, sel_miss, sel_own, sel-other, key_edge, key_entry, key_edge_is, key_entry_is, once_own, once_other}

-- ---- a node
pub node_at_lem : (s : Logs) (x : ℕ) → x < most_identifiers → node_at (graph_of_logs s) x ≡ node_of s.values (λ y. sel 0 y s.edges) (λ k. sel 1 k s.entries) x
unfolding graph_of_logs
node_at_lem s x h = tab_at most_identifiers (node_of s.values (λ y. sel 0 y s.edges) (λ k. sel 1 k s.entries)) x none h

-- a node is there if its value is not 0
pub there : (s : Logs) (x : ℕ) → x < most_identifiers → (get_or s.values x 0 ≡ 0 → ⊥) → has_node (graph_of_logs s) x ≡ true
there s x h e = rw (node_at_lem s x h, node_some s.values (λ y. sel 0 y s.edges) (λ k. sel 1 k s.entries) x e)

pub missing : (s : Logs) (x : ℕ) → x < most_identifiers → get_or s.values x 0 ≡ 0 → has_node (graph_of_logs s) x ≡ false
missing s x h e = rw (node_at_lem s x h, node_none s.values (λ y. sel 0 y s.edges) (λ k. sel 1 k s.entries) x e)

-- ---- an edge
map-edge : (w : ℕ) (l : List ℕ) → map edge_row (l ++ (w ∷ [])) ≡ map edge_row l ++ (edge_row w ∷ [])
map-edge w [] = refl
map-edge w (v ∷ l) = ap (λ (m : List Edge). edge_row v ∷ m) (map-edge w l)

edge_into : (w : ℕ) → (w / 512 % 512 + 512 * (w / 262144 % 4) + 2048 * (w / 1048576)) % 512 ≡ w / 512 % 512
edge_into w = omega arith

edge_index : (w : ℕ) → (w / 512 % 512 + 512 * (w / 262144 % 4) + 2048 * (w / 1048576)) / 2048 ≡ w / 1048576
edge_index w = omega arith

edge_list : (w : ℕ) → (w / 512 % 512 + 512 * (w / 262144 % 4) + 2048 * (w / 1048576)) / 512 % 4 ≡ w / 262144 % 4
edge_list w = omega arith

edge_is : (w : ℕ) → edge_row (word_w 0 w) ≡ record { into = w / 512 % 512; index = w / 1048576; kind = edge_kind (relation_of (w / 262144 % 4)) }
unfolding edge_row word_w
edge_is w = rw (edge_into w, edge_index w, edge_list w)

module _ (w : ℕ) (v l m : List ℕ) where
  abbrev row : ℕ → List ℕ
  row x = sel 0 x l

  abbrev row' : ℕ → List ℕ
  row' x = sel 0 x (l ++ (w ∷ []))

  abbrev rows : ℕ → List ℕ
  rows k = sel 1 k m

  edge_own : node_of v row' rows (w % 512) ≡ map_option (with_edge (relation_of (w / 262144 % 4)) (w / 1048576) (w / 512 % 512)) (node_of v row rows (w % 512))
  unfolding node_of with_edge
  edge_own = go (eqb (get_or v (w % 512) 0) 0)
    where
      go : (b : Bool) → pick b none (some (own_node (get_or v (w % 512) 0) row' rows (w % 512))) ≡ map_option (with_edge (relation_of (w / 262144 % 4)) (w / 1048576) (w / 512 % 512)) (pick b none (some (own_node (get_or v (w % 512) 0) row rows (w % 512))))
      go true = refl
      go false = rw (sel_hit 0 (w % 512) w (key_edge_is w) l, map-edge (word_w 0 w) (sel 0 (w % 512) l), edge_is w)

  edge_other : (y : ℕ) → (y ≡ w % 512 → ⊥) → node_of v row' rows y ≡ node_of v row rows y
  edge_other y e = node-same v v row' row rows rows y refl (sel_miss 0 y w (λ p. e (sym p ∙ key_edge_is w)) l) refl refl refl refl

pub edge-step : (w : ℕ) (s : Logs) → graph_of_logs (edge_l w s) ≡ edge_g w (graph_of_logs s)
unfolding graph_of_logs edge_l change
edge-step w s =
    let h : w % 512 < most_identifiers = omega arith in
    let f : ℕ → Option Node = node_of s.values (λ y. sel 0 y s.edges) (λ k. sel 1 k s.entries) in
    tab-set most_identifiers (w % 512) f (node_of s.values (λ y. sel 0 y (s.edges ++ (w ∷ []))) (λ k. sel 1 k s.entries))
    (map_option (with_edge (relation_of (w / 262144 % 4)) (w / 1048576) (w / 512 % 512)) (get_or (tab most_identifiers f) (w % 512) none))
    (edge_own w s.values s.edges s.entries ∙ ap (map_option (with_edge (relation_of (w / 262144 % 4)) (w / 1048576) (w / 512 % 512))) (sym (tab_at most_identifiers f (w % 512) none h)))
    (λ y q e. edge_other w s.values s.edges s.entries y e)

-- ---- an entry
module _ (w : ℕ) (v l m : List ℕ) where
  abbrev arow : ℕ → List ℕ
  arow x = sel 0 x l

  abbrev arows : ℕ → List ℕ
  arows k = sel 1 k m

  abbrev arows' : ℕ → List ℕ
  arows' k = sel 1 k (once_w w m)

  entry_hit : (k : ℕ) → key_w 1 w ≡ k → map entry_row (sel 1 k (once_w w m)) ≡ enter (w % 512) (w / 1048576) (map entry_row (sel 1 k m))
  entry_hit k e = subst (λ (j : ℕ). map entry_row (sel 1 j (once_w w m)) ≡ enter (w % 512) (w / 1048576) (map entry_row (sel 1 j m))) e (once_own w m)

  entry_list : (x t u : ℕ) → key_w 1 w ≡ 4 * x + t → t < 4 → u < 4 → (t ≡ u → ⊥) → sel 1 (4 * x + u) (once_w w m) ≡ sel 1 (4 * x + u) m
  entry_list x t u e h k n = once_other w (4 * x + u) m (λ p. n (omega (arith, p, e)))

  entry_first : (x t : ℕ) → key_w 1 w ≡ 4 * x + t → (t ≡ 0 → ⊥) → sel 1 (4 * x) (once_w w m) ≡ sel 1 (4 * x) m
  entry_first x t e n = once_other w (4 * x) m (λ p. n (omega (arith, p, e)))

  -- by the list
  entry_node : (x t : ℕ) → key_w 1 w ≡ 4 * x + t → t < 4 → (n : ℕ) → own_node n arow arows' x ≡ with_entry (relation_of t) (w / 1048576) (w % 512) (own_node n arow arows x)
  unfolding with_entry
  entry_node x zero e h n = rw (entry_hit (4 * x) (e ∙ add-zero (4 * x)), entry_list x 0 1 e h (omega arith) (omega arith), entry_list x 0 2 e h (omega arith) (omega arith), entry_list x 0 3 e h (omega arith) (omega arith))
  entry_node x (suc zero) e h n = rw (entry_first x 1 e (omega arith), entry_hit (4 * x + 1) e, entry_list x 1 2 e h (omega arith) (omega arith), entry_list x 1 3 e h (omega arith) (omega arith))
  entry_node x (suc (suc zero)) e h n = rw (entry_first x 2 e (omega arith), entry_list x 2 1 e h (omega arith) (omega arith), entry_hit (4 * x + 2) e, entry_list x 2 3 e h (omega arith) (omega arith))
  entry_node x (suc (suc (suc zero))) e h n = rw (entry_first x 3 e (omega arith), entry_list x 3 1 e h (omega arith) (omega arith), entry_list x 3 2 e h (omega arith) (omega arith), entry_hit (4 * x + 3) e)
  entry_node x (suc (suc (suc (suc t)))) e h n = absurd (omega arith)

  entry_own : (x t : ℕ) → key_w 1 w ≡ 4 * x + t → t < 4 → node_of v arow arows' x ≡ map_option (with_entry (relation_of t) (w / 1048576) (w % 512)) (node_of v arow arows x)
  unfolding node_of
  entry_own x t e h = go (eqb (get_or v x 0) 0)
    where
      go : (b : Bool) → pick b none (some (own_node (get_or v x 0) arow arows' x)) ≡ map_option (with_entry (relation_of t) (w / 1048576) (w % 512)) (pick b none (some (own_node (get_or v x 0) arow arows x)))
      go true = refl
      go false = ap some (entry_node x t e h (get_or v x 0))

  entry_other : (x t y : ℕ) → key_w 1 w ≡ 4 * x + t → t < 4 → (y ≡ x → ⊥) → node_of v arow arows' y ≡ node_of v arow arows y
  entry_other x t y e h n =
      node-same v v arow arow arows' arows y refl refl
      (once_other w (4 * y) m (λ p. n (omega (arith, p, e))))
      (once_other w (4 * y + 1) m (λ p. n (omega (arith, p, e))))
      (once_other w (4 * y + 2) m (λ p. n (omega (arith, p, e))))
      (once_other w (4 * y + 3) m (λ p. n (omega (arith, p, e))))

pub entry_step : (w : ℕ) (s : Logs) → graph_of_logs (entry_l w s) ≡ entry_g w (graph_of_logs s)
unfolding graph_of_logs entry_l change
entry_step w s =
    let h : w / 512 % 512 < most_identifiers = omega arith in
    let k : w / 262144 % 4 < 4 = omega arith in
    let f : ℕ → Option Node = node_of s.values (λ y. sel 0 y s.edges) (λ k. sel 1 k s.entries) in
    let c : Node → Node = with_entry (relation_of (w / 262144 % 4)) (w / 1048576) (w % 512) in
    tab-set most_identifiers (w / 512 % 512) f (node_of s.values (λ y. sel 0 y s.edges) (λ k. sel 1 k (once_w w s.entries)))
    (map_option c (get_or (tab most_identifiers f) (w / 512 % 512) none))
    (entry_own w s.values s.edges s.entries (w / 512 % 512) (w / 262144 % 4) (key_entry_is w) k ∙ ap (map_option c) (sym (tab_at most_identifiers f (w / 512 % 512) none h)))
    (λ y q e. entry_other w s.values s.edges s.entries (w / 512 % 512) (w / 262144 % 4) y (key_entry_is w) k e)

-- ---- a creation
module _ (x n : ℕ) (v l m : List ℕ) where
  abbrev crow : ℕ → List ℕ
  crow y = sel 0 y (without 0 x l)

  abbrev crows : ℕ → List ℕ
  crows k = sel 1 k (without 1 x m)

  own₁ : (t : ℕ) → t < 4 → sel 1 (4 * x + t) (without 1 x m) ≡ []
  own₁ t h = sel_own 1 (4 * x + t) x (λ w p. key_entry w x t h p) m

  own₀ : sel 1 (4 * x) (without 1 x m) ≡ []
  own₀ = ap (λ (k : ℕ). sel 1 k (without 1 x m)) (sym (add-zero (4 * x))) ∙ own₁ 0 (omega arith)

  create_own : x < length v → (n ≡ 0 → ⊥) → node_of (set v x n) crow crows x ≡ some (new_node (value_of n))
  unfolding node_of
  create_own h e = rw (get_or-set_same v x n 0 h, ne_eqb n 0 e, sel_own 0 x x (λ w p. key_edge w x p) l, own₀, own₁ 1 (omega arith), own₁ 2 (omega arith), own₁ 3 (omega arith))

  other₁ : (y t : ℕ) → t < 4 → (y ≡ x → ⊥) → sel 1 (4 * y + t) (without 1 x m) ≡ sel 1 (4 * y + t) m
  other₁ y t h e = sel-other 1 (4 * y + t) x (λ w p q. e (sym (key_entry w y t h p) ∙ q)) m

  create-other : (y : ℕ) → (y ≡ x → ⊥) → node_of (set v x n) crow crows y ≡ node_of v (λ z. sel 0 z l) (λ k. sel 1 k m) y
  create-other y e =
      node-same (set v x n) v crow (λ z. sel 0 z l) crows (λ k. sel 1 k m) y (get_or-set_other v x y n 0 e)
      (sel-other 0 y x (λ w p q. e (sym (key_edge w y p) ∙ q)) l)
      (ap (λ (k : ℕ). sel 1 k (without 1 x m)) (sym (add-zero (4 * y))) ∙ other₁ y 0 (omega arith) e ∙ ap (λ (k : ℕ). sel 1 k m) (add-zero (4 * y)))
      (other₁ y 1 (omega arith) e) (other₁ y 2 (omega arith) e) (other₁ y 3 (omega arith) e)

pub create-step : (x n : ℕ) (s : Logs) → x < length s.values → (n ≡ 0 → ⊥) → graph_of_logs (create_l x n s) ≡ create x (value_of n) (graph_of_logs s)
unfolding graph_of_logs create_l create
create-step x n s h e =
    tab-set most_identifiers x (node_of s.values (λ y. sel 0 y s.edges) (λ k. sel 1 k s.entries))
    (node_of (set s.values x n) (λ y. sel 0 y (without 0 x s.edges)) (λ k. sel 1 k (without 1 x s.entries)))
    (some (new_node (value_of n))) (create_own x n s.values s.edges s.entries h e)
    (λ y q d. create-other x n s.values s.edges s.entries y d)

-- what a packed word says
pub record Says (w t index from into : ℕ) : Type 0 where
  pub from_is : w % 512 ≡ from
  pub into_is : w / 512 % 512 ≡ into
  pub list_is : w / 262144 % 4 ≡ t
  pub index_is : w / 1048576 ≡ index

pub says : (from into t index : ℕ) → from < most_identifiers → into < most_identifiers → t < 4 → (w : ℕ) → w ≡ from + 512 * into + 262144 * t + 1048576 * index → Says w t index from into
says from into t index h k l w e = record { from_is = omega (arith, e); into_is = omega (arith, e); list_is = omega (arith, e); index_is = omega (arith, e) }
