-- The words that a node pushes are the entries that document 01 has it push.
use Prim.Native.Nat.{ℕ, zero, suc, ◌+◌, ◌*◌, ◌/◌, ◌%◌, ◌<◌}
use native.Mathlib.Omega.{arith}
use mathlib.Core.Bool.{Bool, true, false, not}
use mathlib.Core.List.{List, [], ◌∷◌, ◌++◌, map, reverse_aux, reverse_aux-append, map-append}
use mathlib.Core.Path.{◌≡◌, refl, sym, ap, ◌∙◌}
use lib.Dec.{ltb, eqb}
use borrow.Author.Tests.{ne_eqb}
use Rattle.model.specs.Limits.{most_identifiers}
use Rattle.model.specs.Lists.{pick, cons_if, cons_or_stop, list_if}
use Rattle.model.specs.Graph.{edge_kind, Entry, Node}
use Rattle.model.specs.Walks.{backwards, Item, kind_over, step_forward, step_created, step_alias, step_maybe, until_index, below_index, looks_back, rule2, rule3, rule4, pushes}
use Rattle.workspace.specs.Rows.{value, row_f, row_b}
use Rattle.workspace.specs.Graph.{relation_of, value_of, edge_row, entry_row, own_node}
use Rattle.workspace.specs.Pending.{kind_of}
use Rattle.aliasing.specs.Pushes.{entry_w, edge_level, forward_e, forward_w, entries_w, blocked_w, aliases_w, captures_w, pushed_w}
use Rattle.aliasing.specs.Items.{direction_of, item_of, queue_of}

low_bit : (t u : ℕ) → t < 2 → (t + 2 * u) % 2 ≡ t
low_bit t u h = omega arith

-- what is put into a word comes out of it again
pub item_entry : (x t d k : ℕ) → x < most_identifiers → t < 2 → d < 2 → k < 2
    → item_of (entry_w x t d k) ≡ record { identifier = x; direction = direction_of d; transitive = eqb t 1; kind = kind_of k }
unfolding item_of
item_entry x t d k hx ht hd hk =
    let w : ℕ = entry_w x t d k in
    let a : w % 512 ≡ x = omega arith in
    let b₀ : w / 1024 ≡ d + 2 * k = omega arith in
    let c₀ : w / 512 ≡ t + 2 * (d + 2 * k) = omega arith in
    let e₀ : w / 2048 ≡ k + 2 * 0 = omega arith in
    let b : w / 1024 % 2 ≡ d = ap (λ (n : ℕ). n % 2) b₀ ∙ low_bit d k hd in
    let c : w / 512 % 2 ≡ t = ap (λ (n : ℕ). n % 2) c₀ ∙ low_bit t (d + 2 * k) ht in
    let e : w / 2048 % 2 ≡ k = ap (λ (n : ℕ). n % 2) e₀ ∙ low_bit k 0 hk in
    rw (a, b, c, e)

-- ---- the kind over an edge
edge-over : (c k : ℕ) → kind_of (pick (eqb c 2) 0 k) ≡ kind_over (edge_kind (relation_of c)) (kind_of k)
edge-over zero k = refl
edge-over (suc zero) k = refl
edge-over (suc (suc zero)) k = refl
edge-over (suc (suc (suc c))) k = rw (ne_eqb (suc (suc (suc c))) 2 (λ e. omega (arith, e)))

edge-level-below : (w k : ℕ) → k < 2 → edge_level w k < 2
unfolding edge_level
edge-level-below w k h = go (eqb (w / 512 % 4) 2)
  where
    go : (b : Bool) → pick b 0 k < 2
    go true = omega arith
    go false = h

module _ (i t k : ℕ) (ht : t < 2) (hk : k < 2) (e : Item) (et : e.transitive ≡ eqb t 1) (ek : e.kind ≡ kind_of k) where
  forward_item : (w : ℕ) → item_of (forward_e t k w) ≡ step_forward e (edge_row w)
  unfolding edge_row edge_level
  forward_item w =
      item_entry (w % 512) t 1 (edge_level w k) (omega arith) ht (omega arith) (edge-level-below w k hk)
      ∙ rw (et, ek, edge-over (w / 512 % 4) k)

  -- rule 1
  pub forward_items : (row : List ℕ) → map item_of (forward_w i t k row) ≡ map (step_forward e) (until_index i (map edge_row row))
  unfolding forward_w edge_row
  forward_items [] = refl
  forward_items (w ∷ row) = go (ltb (w / 2048) i) (forward_items row)
    where
      go : (b : Bool) → map item_of (forward_w i t k row) ≡ map (step_forward e) (until_index i (map edge_row row))
          → map item_of (pick b (forward_e t k w ∷ forward_w i t k row) []) ≡ map (step_forward e) (cons_or_stop b (edge_row w) (until_index i (map edge_row row)))
      go true h = rw (forward_item w, h)
      go false h = refl

module _ (i t k : ℕ) (ht : t < 2) (hk : k < 2) (f : Entry → Item)
    (is : (a : Entry) → f a ≡ record { identifier = a.origin; direction = backwards; transitive = eqb t 1; kind = kind_of k }) where
  entry_item : (w : ℕ) → item_of (entry_w (w % 512) t 0 k) ≡ f (entry_row w)
  unfolding entry_row
  entry_item w = item_entry (w % 512) t 0 k (omega arith) ht (omega arith) hk ∙ sym (is (entry_row w))

  -- one list of entries
  pub entry_items : (row : List ℕ) → map item_of (entries_w i t k row) ≡ map f (below_index i (map entry_row row))
  unfolding entries_w entry_row
  entry_items [] = refl
  entry_items (w ∷ row) = go (ltb (w / 2048) i) (entry_items row)
    where
      go : (b : Bool) → map item_of (entries_w i t k row) ≡ map f (below_index i (map entry_row row))
          → map item_of (pick b (entry_w (w % 512) t 0 k ∷ entries_w i t k row) (entries_w i t k row)) ≡ map f (cons_if b (entry_row w) (below_index i (map entry_row row)))
      go true h = rw (entry_item w, h)
      go false h = h

-- ---- a phi arrived at forwards
looks_back_lem : (v d : ℕ) → d < 2 → looks_back (value_of v) (direction_of d) ≡ not (blocked_w v d)
looks_back_lem zero zero h = refl
looks_back_lem (suc zero) zero h = refl
looks_back_lem (suc (suc zero)) zero h = refl
looks_back_lem (suc (suc (suc v))) zero h = refl
looks_back_lem zero (suc zero) h = refl
looks_back_lem (suc zero) (suc zero) h = refl
looks_back_lem (suc (suc zero)) (suc zero) h = refl
looks_back_lem (suc (suc (suc v))) (suc zero) h = rw (ne_eqb (suc (suc (suc v))) 2 (λ e. omega (arith, e)))
looks_back_lem v (suc (suc d)) h = absurd (omega arith)

map_pick : (b : Bool) (l : List ℕ) → map item_of (pick b [] l) ≡ list_if (not b) (map item_of l)
map_pick true l = refl
map_pick false l = refl

map_keep : (b : Bool) (l : List ℕ) → map item_of (pick b l []) ≡ list_if b (map item_of l)
map_keep true l = refl
map_keep false l = refl

module _ (g : List ℕ) (x i t d k : ℕ) (ht : t < 2) (hd : d < 2) (hk : k < 2) (e : Item)
    (ed : e.direction ≡ direction_of d) (et : e.transitive ≡ eqb t 1) (ek : e.kind ≡ kind_of k) where
  abbrev own : Node
  own = own_node (value g x) (row_f g) (row_b g) x

  created_items : map item_of (entries_w i 1 k (row_b g (4 * x))) ≡ rule2 i own e
  created_items = entry_items i 1 k (omega arith) hk (step_created e) (λ a. rw ek) (row_b g (4 * x))

  alias_items : map item_of (aliases_w g x d i t k) ≡ rule3 i own e
  unfolding aliases_w
  alias_items =
      map_pick (blocked_w (value g x) d) (entries_w i t k (row_b g (4 * x + 1)) ++ entries_w i t 0 (row_b g (4 * x + 2)))
      ∙ ap (λ (b : Bool). list_if b (map item_of (entries_w i t k (row_b g (4 * x + 1)) ++ entries_w i t 0 (row_b g (4 * x + 2)))))
      (sym (looks_back_lem (value g x) d hd) ∙ ap (looks_back (value_of (value g x))) (sym ed))
      ∙ ap (list_if (looks_back (value_of (value g x)) e.direction))
      (map-append item_of (entries_w i t k (row_b g (4 * x + 1))) (entries_w i t 0 (row_b g (4 * x + 2)))
      ∙ ap (λ (l : List Item). l ++ map item_of (entries_w i t 0 (row_b g (4 * x + 2)))) (entry_items i t k ht hk (step_alias e) (λ a. rw (et, ek)) (row_b g (4 * x + 1)))
      ∙ ap (λ (l : List Item). map (step_alias e) (below_index i (map entry_row (row_b g (4 * x + 1)))) ++ l) (entry_items i t 0 ht (omega arith) (step_maybe e) (λ a. rw et) (row_b g (4 * x + 2))))

  capture_items : map item_of (captures_w g x i t k) ≡ rule4 i own e
  unfolding captures_w
  capture_items =
      map_keep (eqb t 1) (entries_w i t k (row_b g (4 * x + 3)))
      ∙ ap (λ (b : Bool). list_if b (map item_of (entries_w i t k (row_b g (4 * x + 3))))) (sym et)
      ∙ ap (list_if e.transitive) (entry_items i t k ht hk (step_alias e) (λ a. rw (et, ek)) (row_b g (4 * x + 3)))

  -- all that the node of x pushes
  pub pushed_items : map item_of (pushed_w g x d i t k) ≡ pushes i own e
  unfolding pushed_w pushes
  pushed_items =
      let F : List ℕ = forward_w i t k (row_f g x) in
      let C : List ℕ = entries_w i 1 k (row_b g (4 * x)) in
      let A : List ℕ = aliases_w g x d i t k in
      let K : List ℕ = captures_w g x i t k in
      map-append item_of F (C ++ (A ++ K)) ∙ ap (λ (l : List Item). map item_of F ++ l) (map-append item_of C (A ++ K) ∙ ap (λ (l : List Item). map item_of C ++ l) (map-append item_of A K))
      ∙ rw (forward_items i t k ht hk e et ek (row_f g x), created_items, alias_items, capture_items)

-- ---- the queue
pub queue_push : (q vs : List ℕ) → queue_of (q ++ vs) ≡ reverse_aux (map item_of vs) (queue_of q)
unfolding queue_of
queue_push q vs = ap (λ (l : List Item). reverse_aux l []) (map-append item_of q vs) ∙ reverse_aux-append (map item_of q) (map item_of vs) []
