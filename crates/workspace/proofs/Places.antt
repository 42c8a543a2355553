-- The tracked places: the two words of one give it back, one that is stored, those that stay, and parts of the list.
use Prim.Native.Nat.{ℕ, zero, suc, ◌+◌, ◌*◌, ◌/◌, ◌%◌, ◌≤◌, ◌<◌}
use native.Mathlib.Omega.{arith}
use native.Mathlib.Nat.{add-zero, add-suc}
use native.Mathlib.Numerals.{add-one}
use mathlib.Core.List.{List, [], ◌∷◌, ◌++◌, append-nil, append_assoc}
use mathlib.Core.Path.{◌≡◌, sym, ap, ◌∙◌}
use lib.ListN.{length, get_or, set, take, drop, length-set}
use lib.Seq.{get_or-set_same, get_or-set_other}
use Rattle.model.specs.Limits.{most_identifiers}
use Rattle.model.specs.Sheet.{Place}
use Rattle.model.specs.Traits.{reactive_traits, traits_word}
use Rattle.model.proofs.Traits.{effect_of_traits, reactive_of_traits}
use Rattle.workspace.specs.Layout.{TRACKED}
use Rattle.workspace.specs.Rows.{Kept}
use Rattle.workspace.specs.Graph.{tab}
use Rattle.workspace.specs.Tracked.{place_of, tracked_at, tracked_of, tracked_from, Tracks}
use Rattle.workspace.proofs.Parts.{kept_none, kept_set, take-word, drop-word}
use Rattle.workspace.proofs.Tables.{tab-same}

low : (i t : ℕ) → i < most_identifiers → (i + 512 * t) % 512 ≡ i
low i t h = omega (arith, h)

high : (i t : ℕ) → i < most_identifiers → (i + 512 * t) / 512 ≡ t
high i t h = omega (arith, h)

-- both words
place_back : (p : Place) (t : ℕ) → p.identifier < most_identifiers → p.effect < reactive_traits → t ≡ traits_word p.effect p.reactive → place_of (p.identifier + 512 * t) p.span ≡ p
unfolding place_of
place_back p t h k e =
    let a : (p.identifier + 512 * t) % 512 ≡ p.identifier = low p.identifier t h in
    let b : (p.identifier + 512 * t) / 512 ≡ t = high p.identifier t h in
    rw (a, b, e, effect_of_traits, reactive_of_traits)

place-below : (w s : ℕ) → (place_of w s).identifier < most_identifiers
unfolding place_of
place-below w s = omega arith

-- ---- parts of a table
module _ {A : Type 0} where
  tab_parts : (p c : ℕ) (f : ℕ → A) → tab (p + c) f ≡ tab p f ++ tab c (λ (i : ℕ). f (p + i))
  unfolding tab
  tab_parts p zero f = ap (λ (n : ℕ). tab n f) (add-zero p) ∙ sym (append-nil (tab p f))
  tab_parts p (suc c) f =
      ap (λ (n : ℕ). tab n f) (add-suc p c)
      ∙ ap (λ (l : List A). l ++ (f (p + c) ∷ [])) (tab_parts p c f)
      ∙ append_assoc (tab p f) (tab c (λ (i : ℕ). f (p + i))) (f (p + c) ∷ [])

-- the first p places, then c more
pub tracked_parts : (ws : List ℕ) (p c : ℕ) → tracked_of ws (p + c) ≡ tracked_of ws p ++ tracked_from ws p c
unfolding tracked_of tracked_from
tracked_parts ws p c = tab_parts p c (tracked_at ws)

-- from the first on
pub tracked_first : (ws : List ℕ) (c : ℕ) → tracked_from ws 0 c ≡ tracked_of ws c
unfolding tracked_of tracked_from
tracked_first ws c = tab-same c (λ (i : ℕ). tracked_at ws (0 + i)) (tracked_at ws) (λ i h. let e : 0 + i ≡ i = omega arith in ap (tracked_at ws) e)

pub tracked-below : (ws : List ℕ) (i : ℕ) → (tracked_at ws i).identifier < most_identifiers
unfolding tracked_at
tracked-below ws i = place-below (get_or ws (TRACKED + 2 * i) 0) (get_or ws (TRACKED + 2 * i + 1) 0)

pub is_below : (ws : List ℕ) (i : ℕ) {p : Place} → p ≡ tracked_at ws i → p.identifier < most_identifiers
is_below ws i e = rw e (tracked-below ws i)

-- ---- a place stays if its words stay
same-words : (ws ws' : List ℕ) (i : ℕ) → get_or ws' (TRACKED + 2 * i) 0 ≡ get_or ws (TRACKED + 2 * i) 0 → get_or ws' (TRACKED + 2 * i + 1) 0 ≡ get_or ws (TRACKED + 2 * i + 1) 0 → tracked_at ws' i ≡ tracked_at ws i
unfolding tracked_at
same-words ws ws' i p q = rw (p, q)

pub tracked-low : (ws ws' : List ℕ) (n i : ℕ) → i < n → take (TRACKED + 2 * n) ws' ≡ take (TRACKED + 2 * n) ws → tracked_at ws' i ≡ tracked_at ws i
tracked-low ws ws' n i h e =
    same-words ws ws' i (take-word (TRACKED + 2 * n) (TRACKED + 2 * i) ws ws' (omega (arith, h)) e) (take-word (TRACKED + 2 * n) (TRACKED + 2 * i + 1) ws ws' (omega (arith, h)) e)

pub tracked_high : (ws ws' : List ℕ) (n i : ℕ) → n ≤ i → drop (TRACKED + 2 * n) ws' ≡ drop (TRACKED + 2 * n) ws → tracked_at ws' i ≡ tracked_at ws i
tracked_high ws ws' n i h e =
    same-words ws ws' i (drop-word (TRACKED + 2 * n) (TRACKED + 2 * i) ws ws' (omega (arith, h)) e) (drop-word (TRACKED + 2 * n) (TRACKED + 2 * i + 1) ws ws' (omega (arith, h)) e)

-- all of them stay if the words behind the other parts stay
pub tracked_kept : (ws ws' : List ℕ) (n : ℕ) → drop TRACKED ws' ≡ drop TRACKED ws → tracked_of ws' n ≡ tracked_of ws n
unfolding tracked_of
tracked_kept ws ws' n e = tab-same n (tracked_at ws') (tracked_at ws) (λ i h. tracked_high ws ws' 0 i (omega arith) e)

-- ---- a place is stored
module _ (ws : List ℕ) (i : ℕ) (p : Place) (t : ℕ) (h : TRACKED + 2 * i + 1 < length ws) (e : t ≡ traits_word p.effect p.reactive) (b : p.identifier < most_identifiers) (k : p.effect < reactive_traits) where
  abbrev stored : List ℕ
  stored = set (set ws (TRACKED + 2 * i) (p.identifier + 512 * t)) (TRACKED + 2 * i + 1) p.span

  stored_at : tracked_at stored i ≡ p
  unfolding tracked_at
  stored_at =
      let one : List ℕ = set ws (TRACKED + 2 * i) (p.identifier + 512 * t) in
      let w : get_or stored (TRACKED + 2 * i) 0 ≡ p.identifier + 512 * t =
      get_or-set_other one (TRACKED + 2 * i + 1) (TRACKED + 2 * i) p.span 0 (λ q. omega (arith, q)) ∙ get_or-set_same ws (TRACKED + 2 * i) (p.identifier + 512 * t) 0 (omega (arith, h)) in
      let s : get_or stored (TRACKED + 2 * i + 1) 0 ≡ p.span = get_or-set_same one (TRACKED + 2 * i + 1) p.span 0 (omega (arith, h, length-set ws (TRACKED + 2 * i) (p.identifier + 512 * t))) in
      ap (λ (x : ℕ). place_of x (get_or stored (TRACKED + 2 * i + 1) 0)) w ∙ ap (place_of (p.identifier + 512 * t)) s ∙ place_back p t b k e

  stored_kept : Kept (TRACKED + 2 * i) (TRACKED + 2 * i + 2) ws stored
  stored_kept =
      kept_set (kept_set (kept_none (TRACKED + 2 * i) (TRACKED + 2 * i + 2) ws) (TRACKED + 2 * i) (p.identifier + 512 * t) (omega arith) (omega arith)) (TRACKED + 2 * i + 1) p.span (omega arith) (omega arith)

  pub place-stored : Tracks ws i p stored
  unfolding tracked_of tab
  place-stored = record {
    place = stored_at;
    more = ap (λ (n : ℕ). tab n (tracked_at stored)) (add-one i)
        ∙ ap (λ (l : List Place). l ++ (tracked_at stored i ∷ [])) (tab-same i (tracked_at stored) (tracked_at ws) (λ j z. tracked-low ws stored i j z stored_kept.low))
        ∙ ap (λ (q : Place). tab i (tracked_at ws) ++ (q ∷ [])) stored_at;
    kept = stored_kept;
  }
