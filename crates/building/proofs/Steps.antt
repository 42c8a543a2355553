-- The relations of document 01, from an edge, an entry and a creation.
use Prim.Native.Nat.{ℕ, zero, suc, ◌/◌, ◌%◌, ◌≤◌, ◌<◌}
use native.Mathlib.Omega.{arith}
use mathlib.Core.Bool.{Bool, true, false, ◌&&◌, true≢false}
use mathlib.Core.List.{List, [], ◌∷◌}
use mathlib.Core.Option.{Option, none, some}
use mathlib.Core.Path.{◌≡◌, refl, sym, ap, ◌∙◌}
use lib.ListN.{length}
use lib.Seq.{get_or-set_same}
use Rattle.model.specs.Limits.{most_identifiers}
use Rattle.model.specs.Lists.{pick, is_some}
use Rattle.model.specs.Built.{held_in}
use Rattle.model.proofs.HeldMore.{more_held, entry_more, create_less}
use Rattle.model.specs.Graph.{Node, Graph, Value, object, has_node, new_node, change, Relation as ModelRelation, into_aliases, create, with_edge, with_entry, store, relate, create_from}
use Rattle.model.specs.Graph.{assign as assign_effect}
use Rattle.workspace.specs.declared.Relation.{Relation}
use Rattle.workspace.specs.declared.Relation.TheVariants.{CreatedFrom, Alias, MaybeAlias, Capture}
use Rattle.workspace.specs.Graph.{relation_of, node_of}
use Rattle.workspace.specs.Numbers.{relation_number, relation_says}
use Rattle.workspace.specs.Sort.{sel}
use Rattle.workspace.proofs.Tables.{tab-length}
use Rattle.building.specs.declared.Held.{Held}
use Rattle.building.specs.Logs.{pack_w, edge_g, entry_g, graph_of_logs}
use Rattle.building.specs.Held.{logs_of, graph_of, Room, Builds}
use Rattle.building.proofs.Graphs.{Says, says}
use Rattle.building.proofs.Holds.{change_has, graph_below, builds_then, builds_as, builds_none}

-- ---- nodes after a change, and after a creation
change_none : (x : ℕ) (f : Node → Node) (g : Graph) → has_node g x ≡ false → change x f g ≡ g
unfolding change
change_none x f [] e = refl
change_none zero f (none ∷ g) e = refl
change_none zero f (some n ∷ g) e = absurd (true≢false e)
change_none (suc x) f (o ∷ g) e = ap (λ (l : Graph). o ∷ l) (change_none x f g e)

pub graph_size : (ws : List ℕ) (h : Held) → length (graph_of ws h) ≡ most_identifiers
unfolding graph_of graph_of_logs
graph_size ws h = tab-length most_identifiers (node_of (logs_of ws h).values (λ x. sel 0 x (logs_of ws h).edges) (λ k. sel 1 k (logs_of ws h).entries))

create_has : (x : ℕ) (v : Value) (g : Graph) → x < length g → has_node (create x v g) x ≡ true
unfolding create
create_has x v g h = ap (λ (o : Option Node). is_some o) (get_or-set_same g x (some (new_node v)) none h)

-- a creation holds no more than was held before
create_held : (x : ℕ) (v : Value) (ws : List ℕ) (h : Held) → Room ws h → held_in (create x v (graph_of ws h)) ≤ h.most
create_held x v ws h room = omega (arith, create_less x v (graph_of ws h), graph_below ws h room)

store_has : (r : ModelRelation) (i from into : ℕ) (g : Graph) (x : ℕ) → has_node (store r i from into g) x ≡ has_node g x
unfolding store
store_has r i from into g x = change_has into (with_entry r i from) (change from (with_edge r i into) g) x ∙ change_has from (with_edge r i into) g x

pub relate_has : (r : ModelRelation) (i from into : ℕ) (g : Graph) (x : ℕ) → has_node (relate r i from into g) x ≡ has_node g x
unfolding relate
relate_has r i from into g x = go (has_node g from && has_node g into)
  where
    go : (b : Bool) → has_node (pick b (store r i from into g) g) x ≡ has_node g x
    go true = store_has r i from into g x
    go false = refl

-- ---- the definition by cases
module _ (r : ModelRelation) (index from into : ℕ) (g : Graph) where
  relate_both : has_node g from ≡ true → has_node g into ≡ true → relate r index from into g ≡ store r index from into g
  unfolding relate
  relate_both p q = rw (p, q)

  relate_no_from : has_node g from ≡ false → relate r index from into g ≡ g
  unfolding relate
  relate_no_from p = rw p

  relate_no_into : has_node g from ≡ true → has_node g into ≡ false → relate r index from into g ≡ g
  unfolding relate
  relate_no_into p q = rw (p, q)

-- ---- a packed word
relation_small : (r : Relation) → relation_number r < 4
relation_small CreatedFrom = omega arith
relation_small Alias = omega arith
relation_small MaybeAlias = omega arith
relation_small Capture = omega arith

relation_back : (r : Relation) → relation_of (relation_number r) ≡ relation_says r
relation_back CreatedFrom = refl
relation_back Alias = refl
relation_back MaybeAlias = refl
relation_back Capture = refl

module _ (from into : ℕ) (r : Relation) (index w : ℕ) (hf : from < most_identifiers) (hi : into < most_identifiers) (is : w ≡ pack_w from into (relation_number r) index) where
  says_it : Says w (relation_number r) index from into
  says_it = says from into (relation_number r) index hf hi (relation_small r) w is

  from_held : (g : Graph) → has_node g from ≡ true → has_node g (w % 512) ≡ true
  from_held g e = ap (has_node g) says_it.from_is ∙ e

  into_held : (g : Graph) → has_node g into ≡ true → has_node g (w / 512 % 512) ≡ true
  into_held g e = ap (has_node g) says_it.into_is ∙ e

  both_words : (g : Graph) → entry_g w (edge_g w g) ≡ store (relation_says r) index from into g
  unfolding store
  both_words g = rw (says_it.from_is, says_it.into_is, says_it.list_is, says_it.index_is, relation_back r)

  entry_alone : (g : Graph) → has_node g from ≡ false → entry_g w g ≡ store (relation_says r) index from into g
  unfolding store
  entry_alone g e = rw (says_it.from_is, says_it.into_is, says_it.list_is, says_it.index_is, relation_back r, change_none from (with_edge (relation_says r) index into) g e)

  -- after the edge, "into" is still there
  into_after : {ws : List ℕ} {h : Held} {ws₁ : List ℕ} {r₁ : Held} → has_node (graph_of ws h) into ≡ true → Builds (edge_g w) ws h ws₁ r₁ → has_node (graph_of ws₁ r₁) (w / 512 % 512) ≡ true
  into_after {ws} {h} {ws₁} {r₁} e s = into_held (graph_of ws₁ r₁) (s.nodes into ∙ change_has (w % 512) _ (graph_of ws h) into ∙ e)

  -- the entry after the edge: no less is held, and the same nodes are there
  entry_holds : (g : Graph) → held_in (edge_g w g) ≤ held_in (entry_g w (edge_g w g))
  entry_holds g = more_held _ _ (entry_more (w / 512 % 512) (relation_of (w / 262144 % 4)) (w / 1048576) (w % 512) (edge_g w g))

  entry_nodes : (g k : Graph) (x : ℕ) → has_node g x ≡ has_node k x → has_node (entry_g w g) x ≡ has_node (entry_g w k) x
  entry_nodes g k x e = change_has (w / 512 % 512) _ g x ∙ e ∙ sym (change_has (w / 512 % 512) _ k x)

  module _ (ws : List ℕ) (h : Held) where
    -- what the edge asks for, and then the entry
    pub edge_ready : has_node (graph_of ws h) from ≡ true → has_node (graph_of ws h) (w % 512) ≡ true
    edge_ready p = from_held (graph_of ws h) p

    pub entry_ready : has_node (graph_of ws h) into ≡ true → {ws₁ : List ℕ} {r₁ : Held} → Builds (edge_g w) ws h ws₁ r₁ → has_node (graph_of ws₁ r₁) (w / 512 % 512) ≡ true
    entry_ready p s = into_after p s

    pub store_builds : has_node (graph_of ws h) from ≡ true → has_node (graph_of ws h) into ≡ true → {ws₁ : List ℕ} {r₁ : Held} {ws₂ : List ℕ} {r₂ : Held}
        → Builds (edge_g w) ws h ws₁ r₁ → Builds (entry_g w) ws₁ r₁ ws₂ r₂ → Builds (relate (relation_says r) index from into) ws h ws₂ r₂
    store_builds p q s u =
        builds_as (builds_then (omega (arith, entry_holds (graph_of ws h))) (λ x. entry_nodes _ _ x (s.nodes x)) s u)
        (both_words (graph_of ws h) ∙ sym (relate_both (relation_says r) index from into (graph_of ws h) p q))

module _ (r : ModelRelation) (index from into : ℕ) (ws : List ℕ) (h : Held) (room : Room ws h) where
  pub store_no_from : has_node (graph_of ws h) from ≡ false → Builds (relate r index from into) ws h ws h
  store_no_from p = builds_none room (sym (relate_no_from r index from into (graph_of ws h) p))

  pub store_no_into : has_node (graph_of ws h) from ≡ true → has_node (graph_of ws h) into ≡ false → Builds (relate r index from into) ws h ws h
  store_no_into p q = builds_none room (sym (relate_no_into r index from into (graph_of ws h) p q))

-- ---- an Assign effect
module _ (index from into : ℕ) (ws : List ℕ) (h : Held) where
  effect_missing : has_node (graph_of ws h) into ≡ false → assign_effect index from into (graph_of ws h) ≡ relate into_aliases index from into (create into object (graph_of ws h))
  unfolding assign_effect
  effect_missing e = rw e

  effect_there : has_node (graph_of ws h) into ≡ true → assign_effect index from into (graph_of ws h) ≡ relate into_aliases index from into (graph_of ws h)
  unfolding assign_effect
  effect_there e = rw e

  pub effect_creates : has_node (graph_of ws h) into ≡ false → {ws₁ : List ℕ} {r₁ : Held} {ws₂ : List ℕ} {r₂ : Held} → Room ws h
      → Builds (create into object) ws h ws₁ r₁ → Builds (relate into_aliases index from into) ws₁ r₁ ws₂ r₂ → Builds (assign_effect index from into) ws h ws₂ r₂
  effect_creates e {ws₁} {r₁} room s t =
      builds_as (builds_then (omega (arith, create_held into object ws h room)) (λ x. relate_has into_aliases index from into (graph_of ws₁ r₁) x ∙ s.nodes x ∙ sym (relate_has into_aliases index from into _ x)) s t)
      (sym (effect_missing e))

  pub effect_assigns : has_node (graph_of ws h) into ≡ true → {ws₁ : List ℕ} {r₁ : Held} → Builds (relate into_aliases index from into) ws h ws₁ r₁ → Builds (assign_effect index from into) ws h ws₁ r₁
  effect_assigns e s = builds_as s (sym (effect_there e))

-- ---- CreateFrom
module _ (from into index w : ℕ) (hf : from < most_identifiers) (hi : into < most_identifiers) (is : w ≡ pack_w from into (relation_number CreatedFrom) index) (ws : List ℕ) (h : Held) (ws₁ : List ℕ) (r₁ : Held) (s : Builds (create into object) ws h ws₁ r₁) where
  into_new : has_node (graph_of ws₁ r₁) into ≡ true
  into_new = s.nodes into ∙ create_has into object (graph_of ws h) (omega (arith, graph_size ws h))

  -- what the entry alone asks for; what the edge asks for, and then the entry
  pub alone_ready : has_node (graph_of ws₁ r₁) (w / 512 % 512) ≡ true
  alone_ready = into_held from into CreatedFrom index w hf hi is (graph_of ws₁ r₁) into_new

  pub from_ready : has_node (graph_of ws₁ r₁) from ≡ true → has_node (graph_of ws₁ r₁) (w % 512) ≡ true
  from_ready p = from_held from into CreatedFrom index w hf hi is (graph_of ws₁ r₁) p

  pub into_ready : {ws₂ : List ℕ} {r₂ : Held} → Builds (edge_g w) ws₁ r₁ ws₂ r₂ → has_node (graph_of ws₂ r₂) (w / 512 % 512) ≡ true
  into_ready t = into_after from into CreatedFrom index w hf hi is into_new t

  module _ (room : Room ws h) where
    created_held : held_in (create into object (graph_of ws h)) ≤ h.most
    created_held = create_held into object ws h room

    pub from_missing : has_node (graph_of ws₁ r₁) from ≡ false → {ws₂ : List ℕ} {r₂ : Held} → Builds (entry_g w) ws₁ r₁ ws₂ r₂ → Builds (create_from index from into) ws h ws₂ r₂
    unfolding create_from
    from_missing e t =
        let missing : has_node (create into object (graph_of ws h)) from ≡ false = sym (s.nodes from) ∙ e in
        builds_as (builds_then (omega (arith, created_held)) (λ x. entry_nodes from into CreatedFrom index w hf hi is _ _ x (s.nodes x)) s t)
        (entry_alone from into CreatedFrom index w hf hi is (create into object (graph_of ws h)) missing)

    pub from_there : {ws₂ : List ℕ} {r₂ : Held} {ws₃ : List ℕ} {r₃ : Held} → Builds (edge_g w) ws₁ r₁ ws₂ r₂ → Builds (entry_g w) ws₂ r₂ ws₃ r₃ → Builds (create_from index from into) ws h ws₃ r₃
    unfolding create_from
    from_there {ws₂} {r₂} t u =
        let c : Graph = create into object (graph_of ws h) in
        let two = builds_then (omega (arith, created_held)) (λ x. change_has (w % 512) _ (graph_of ws₁ r₁) x ∙ s.nodes x ∙ sym (change_has (w % 512) _ c x)) s t in
        builds_as (builds_then (omega (arith, entry_holds from into CreatedFrom index w hf hi is c)) (λ x. entry_nodes from into CreatedFrom index w hf hi is _ _ x (two.nodes x)) two u)
        (both_words from into CreatedFrom index w hf hi is c)
