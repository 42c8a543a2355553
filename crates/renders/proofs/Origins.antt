-- What a node pushes in a render walk: the words are the identifiers of document 01, and there is room for them.
use Prim.Native.Nat.{ℕ, ◌+◌, ◌-◌, ◌*◌, ◌/◌, ◌%◌, ◌≤◌, ◌<◌}
use native.Mathlib.Omega.{arith}
use mathlib.Core.Bool.{Bool, true, false}
use mathlib.Core.List.{List, [], ◌∷◌, ◌++◌, map, map-append, reverse_aux, reverse_aux-append, append_assoc}
use mathlib.Core.Path.{◌≡◌, refl, ap, subst, ◌∙◌}
use lib.ListN.{length, length-append}
use lib.Dec.{ltb}
use Rattle.model.specs.Limits.{most_identifiers}
use Rattle.model.specs.Lists.{pick, cons_if}
use Rattle.model.specs.Graph.{Entry}
use Rattle.model.specs.Walks.{below_index}
use Rattle.model.specs.Renders.{origins, render_pushes}
use Rattle.workspace.specs.Layout.{VALUE, QUEUE}
use Rattle.workspace.specs.Rows.{rows_of, value, row_f, row_b, Good}
use Rattle.workspace.specs.Graph.{entry_row, own_node}
use Rattle.workspace.proofs.Rows.{rows_length}
use Rattle.aliasing.specs.Pushes.{entry_w, entries_w, Room, words_f, words_b, deg}
use Rattle.writing.specs.Wrote.{Wrote}
use Rattle.aliasing.proofs.Sizes.{deg_is, list_le}
use Rattle.aliasing.proofs.PushLaws.{room_then, room_less, pushed_on}
use Rattle.renders.specs.Renders.{origins_w, places_of}

-- ---- which they are
place_is_lem : (w : ℕ) → entry_w (w % 512) 0 0 0 % 512 ≡ w % 512
place_is_lem w = omega arith

list_places : (i : ℕ) (row : List ℕ) → map (λ (w : ℕ). w % 512) (entries_w i 0 0 row) ≡ origins i (map entry_row row)
unfolding entries_w entry_row
list_places i [] = refl
list_places i (w ∷ row) = go (ltb (w / 2048) i) (list_places i row)
  where
    go : (b : Bool) → map (λ (u : ℕ). u % 512) (entries_w i 0 0 row) ≡ origins i (map entry_row row)
        → map (λ (u : ℕ). u % 512) (pick b (entry_w (w % 512) 0 0 0 ∷ entries_w i 0 0 row) (entries_w i 0 0 row)) ≡ map (λ (a : Entry). a.origin) (cons_if b (entry_row w) (below_index i (map entry_row row)))
    go true h = ap (λ (n : ℕ). n ∷ map (λ (u : ℕ). u % 512) (entries_w i 0 0 row)) (place_is_lem w) ∙ ap (λ (l : List ℕ). w % 512 ∷ l) h
    go false h = h

pub origin_places : (g : List ℕ) (x i : ℕ) → map (λ (w : ℕ). w % 512) (origins_w g x i) ≡ render_pushes i (own_node (value g x) (row_f g) (row_b g) x)
unfolding origins_w render_pushes
origin_places g x i =
    let C : List ℕ = entries_w i 0 0 (row_b g (4 * x)) in
    let A : List ℕ = entries_w i 0 0 (row_b g (4 * x + 1)) in
    let K : List ℕ = entries_w i 0 0 (row_b g (4 * x + 3)) in
    map-append (λ (w : ℕ). w % 512) C (A ++ K) ∙ ap (λ (l : List ℕ). map (λ (w : ℕ). w % 512) C ++ l) (map-append (λ (w : ℕ). w % 512) A K)
    ∙ ap (λ (l : List ℕ). l ++ (map (λ (w : ℕ). w % 512) A ++ map (λ (w : ℕ). w % 512) K)) (list_places i (row_b g (4 * x)))
    ∙ ap (λ (l : List ℕ). origins i (map entry_row (row_b g (4 * x))) ++ (l ++ map (λ (w : ℕ). w % 512) K)) (list_places i (row_b g (4 * x + 1)))
    ∙ ap (λ (l : List ℕ). origins i (map entry_row (row_b g (4 * x))) ++ (origins i (map entry_row (row_b g (4 * x + 1))) ++ l)) (list_places i (row_b g (4 * x + 3)))

pub places_push : (q vs : List ℕ) → places_of (q ++ vs) ≡ reverse_aux (map (λ (w : ℕ). w % 512) vs) (places_of q)
unfolding places_of
places_push q vs = ap (λ (l : List ℕ). reverse_aux l []) (map-append (λ (w : ℕ). w % 512) q vs) ∙ reverse_aux-append (map (λ (w : ℕ). w % 512) q) (map (λ (w : ℕ). w % 512) vs) []

-- ---- how many there are at most
pub origins_le : (g : List ℕ) → length g ≡ QUEUE - VALUE → Good g → (x i : ℕ) → x < most_identifiers → length (origins_w g x i) ≤ deg g x
unfolding origins_w
origins_le g size good x i h =
    let C : List ℕ = entries_w i 0 0 (row_b g (4 * x)) in
    let A : List ℕ = entries_w i 0 0 (row_b g (4 * x + 1)) in
    let K : List ℕ = entries_w i 0 0 (row_b g (4 * x + 3)) in
    omega (
      arith,
      length-append C (A ++ K),
      length-append A K,
      deg_is g x good h,
      list_le g size good i 0 0 (4 * x) (omega arith),
      list_le g size good i 0 0 (4 * x + 1) (omega arith),
      list_le g size good i 0 0 (4 * x + 3) (omega arith),
    )

-- ---- the three pushes, one after the other
module _ (ws : List ℕ) (top x index : ℕ) (room : Room ws top (deg (rows_of ws) x)) (h : x < most_identifiers) where
  size : length (rows_of ws) ≡ QUEUE - VALUE
  size = rows_length ws room.size

  is : deg (rows_of ws) x ≡ (words_f (rows_of ws) x + words_b (rows_of ws) (4 * x)) + ((words_b (rows_of ws) (4 * x + 1) + words_b (rows_of ws) (4 * x + 2)) + words_b (rows_of ws) (4 * x + 3))
  is = deg_is (rows_of ws) x room.good h

  module _ (ws₁ : List ℕ) (t₁ : ℕ) (p₁ : Wrote (entries_w index 0 0 (row_b (rows_of ws) (4 * x))) ws top ws₁ t₁) where
    pub room_aliases : Room ws₁ t₁ (words_b (rows_of ws₁) (4 * x + 1))
    room_aliases =
        room_then (λ g. words_b g (4 * x + 1)) (words_b (rows_of ws) (4 * x)) (room_less _ _ (omega (arith, is)) room) p₁
        (list_le (rows_of ws) size room.good index 0 0 (4 * x) (omega arith))

    module _ (ws₂ : List ℕ) (t₂ : ℕ) (p₂ : Wrote (entries_w index 0 0 (row_b (rows_of ws₁) (4 * x + 1))) ws₁ t₁ ws₂ t₂) where
      two : Wrote (entries_w index 0 0 (row_b (rows_of ws) (4 * x)) ++ entries_w index 0 0 (row_b (rows_of ws) (4 * x + 1))) ws top ws₂ t₂
      two = pushed_on (λ g. entries_w index 0 0 (row_b g (4 * x + 1))) room.low p₁ p₂

      pub room_captures : Room ws₂ t₂ (words_b (rows_of ws₂) (4 * x + 3))
      room_captures =
          room_then (λ g. words_b g (4 * x + 3)) (words_b (rows_of ws) (4 * x) + words_b (rows_of ws) (4 * x + 1)) (room_less _ _ (omega (arith, is)) room) two
          (omega (
            arith,
            list_le (rows_of ws) size room.good index 0 0 (4 * x) (omega arith),
            list_le (rows_of ws) size room.good index 0 0 (4 * x + 1) (omega arith),
            length-append (entries_w index 0 0 (row_b (rows_of ws) (4 * x))) (entries_w index 0 0 (row_b (rows_of ws) (4 * x + 1))),
          ))

      pub all_pushed : (ws₃ : List ℕ) (t₃ : ℕ) → Wrote (entries_w index 0 0 (row_b (rows_of ws₂) (4 * x + 3))) ws₂ t₂ ws₃ t₃ → Wrote (origins_w (rows_of ws) x index) ws top ws₃ t₃
      unfolding origins_w
      all_pushed ws₃ t₃ p₃ =
          subst (λ (vs : List ℕ). Wrote vs ws top ws₃ t₃)
          (append_assoc (entries_w index 0 0 (row_b (rows_of ws) (4 * x))) (entries_w index 0 0 (row_b (rows_of ws) (4 * x + 1))) (entries_w index 0 0 (row_b (rows_of ws) (4 * x + 3))))
          (pushed_on (λ g. entries_w index 0 0 (row_b g (4 * x + 3))) room.low two p₃)
