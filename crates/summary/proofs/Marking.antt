-- Capture marks.
use Prim.Native.Nat.{ℕ, ◌+◌, ◌*◌, ◌≤◌, ◌<◌}
use native.Mathlib.Omega.{arith}
use native.Mathlib.Decide.{ℕ_discrete}
use mathlib.Core.Path.{◌≡◌, refl, sym, ap, ◌∙◌}
use mathlib.Core.Bool.{Bool, true, false}
use mathlib.Core.List.{List, [], ◌∷◌, map}
use lib.ListN.{length, take}
use Rattle.model.specs.Limits.{most_identifiers, place_width}
use Rattle.model.specs.Lists.{pick, gather}
use Rattle.model.specs.Answer.{place_words, section}
use Rattle.model.specs.Sheet.{Place}
use Rattle.model.specs.Traits.{capture_effect}
use Rattle.model.specs.State.{has_record, State}
use Rattle.model.specs.Summary.{record_of, capture_mark, marked}
use Rattle.model.specs.Marks.{with_effect}
use Rattle.workspace.specs.Layout.{SEEN, TRACKED}
use Rattle.workspace.specs.Rows.{Kept}
use Rattle.workspace.specs.Graph.{tab}
use Rattle.workspace.proofs.Parts.{kept_then, take_less}
use Rattle.workspace.proofs.Tables.{tab-same, tab-length, tab-map}
use Rattle.aliasing.specs.State.{nodes_of, record_at, records_of, state_of}
use Rattle.writing.specs.declared.Writer.{Writer}
use Rattle.writing.specs.Wrote.{Writes}
use Rattle.writing.proofs.Writing.{writes_then, writes_as}
use Rattle.summary.specs.Sections.{Marked}
use Rattle.summary.specs.Records.{Holds}
use Rattle.workspace.specs.Tracked.{tracked_at, tracked_of, tracked_from, Tracks}
use Rattle.summary.specs.Tracked.{Marks}
use Rattle.summary.proofs.Held.{held, record_held}
use Rattle.summary.proofs.Telling.{Telling, telling_turn, telling_end}
use Rattle.model.proofs.Gathers.{gather_map}
use Rattle.workspace.proofs.Places.{tracked-low, tracked_high}

-- ---- one place
module _ (ws : List ℕ) (p : Place) (b : p.identifier < most_identifiers) where
  mark_is : (t : State) → Holds ws t → marked t p ≡ pick (has_record (record_at (nodes_of ws) p.identifier)) (capture_mark p) p
  unfolding marked
  mark_is t h = rw (record_held ws t h p.identifier b)

  -- with a record
  pub mark_yes : {r : Bool} → r ≡ has_record (record_at (nodes_of ws) p.identifier) → r ≡ true → (t : State) → Holds ws t
      → ◌≡◌ {A = Place} (record { identifier = p.identifier; effect = capture_effect; reactive = p.reactive; span = p.span }) (marked t p)
  unfolding capture_mark with_effect
  mark_yes e f t h = sym (mark_is t h ∙ ap (λ (x : Bool). pick x (capture_mark p) p) (sym e ∙ f))

  -- without one
  pub mark_no : {r : Bool} → r ≡ has_record (record_at (nodes_of ws) p.identifier) → r ≡ false → (t : State) → Holds ws t → p ≡ marked t p
  mark_no e f t h = sym (mark_is t h ∙ ap (λ (x : Bool). pick x (capture_mark p) p) (sym e ∙ f))

-- a mark keeps the identifier
same-identifier : (p : Place) (b : Bool) → (pick b (capture_mark p) p).identifier ≡ p.identifier
unfolding capture_mark with_effect
same-identifier p true = refl
same-identifier p false = refl

pub mark-below : (ws : List ℕ) (p q : Place) → ((t : State) → Holds ws t → q ≡ marked t p) → p.identifier < most_identifiers → q.identifier < most_identifiers
unfolding marked
mark-below ws p q m b =
    let s : State = state_of ws 0 in
    let e : q.identifier ≡ p.identifier = ap (λ (z : Place). z.identifier) (m s (held ws 0)) ∙ same-identifier p (has_record (record_of s p)) in
    omega (arith, e, b)

-- how many the marked places are
pub marked_length : (ws : List ℕ) (first count : ℕ) (t : State) → length (map (marked t) (tracked_from ws first count)) ≡ count
unfolding tracked_from
marked_length ws first count t =
    ap (λ (z : List Place). length z) (tab-map count (λ (i : ℕ). tracked_at ws (first + i)) (marked t)) ∙ tab-length count (λ (i : ℕ). marked t (tracked_at ws (first + i)))

-- the words of a place with its mark
abbrev pub marked_words : State → Place → List ℕ
marked_words t p = place_words (marked t p)

-- their section: the count, then each
pub marked-section : (ws : List ℕ) (first count : ℕ) (t : State) → count ∷ gather (marked_words t) (tab count (λ (i : ℕ). tracked_at ws (first + i))) ≡ section place_words (map (marked t) (tracked_from ws first count))
unfolding tracked_from
marked-section ws first count t =
    let l : List Place = tab count (λ (i : ℕ). tracked_at ws (first + i)) in
    let n : count ≡ length (map (marked t) l) = sym (marked_length ws first count t) in
    ap (λ (k : ℕ). k ∷ gather (marked_words t) l) n ∙ ap (λ (z : List ℕ). length (map (marked t) l) ∷ z) (sym (gather_map place_words (marked t) l))

module _ (ws : List ℕ) (first count : ℕ) where
  -- the loop that writes them
  abbrev pub Putting : Writer ℕ → ℕ → Writer ℕ → Type 0
  Putting = Telling (Holds ws) marked_words place_width count (λ (j : ℕ). tracked_at ws (first + j))

  module _ {o₀ : Writer ℕ} {i : ℕ} {o : Writer ℕ} (v : Putting o₀ i o) where
    pub putting_turn : {o' : Writer ℕ} {p q : Place} → i < count → p ≡ tracked_at ws (first + i) → ((t : State) → Holds ws t → q ≡ marked t p) → Writes (place_words q) o o' → Putting o₀ (i + 1) o'
    putting_turn z e m u =
        telling_turn (Holds ws) marked_words place_width count (λ (j : ℕ). tracked_at ws (first + j)) v z (λ t h. writes_as u (ap place_words (m t h ∙ ap (marked t) e))) (omega (arith, u.wrote.next))

    pub putting_end : count ≤ i → {b : Writer ℕ} → Writes (count ∷ []) b o₀ → Marked ws first count b o
    putting_end z u t h =
        writes_as (writes_then u (telling_end (Holds ws) marked_words place_width count (λ (j : ℕ). tracked_at ws (first + j)) v z t h)) (marked-section ws first count t)

-- ---- the records stay if the fields stay
pub holds_kept : (ws ws' : List ℕ) (t : State) → take TRACKED ws' ≡ take TRACKED ws → Holds ws t → Holds ws' t
unfolding nodes_of
holds_kept ws ws' t e h = h ∙ ap records_of (sym (take_less SEEN TRACKED ws' ws (omega arith) e))

-- ---- the loop: the first i places have their marks
pub record Marking (ws₀ : List ℕ) (ws : List ℕ) (i : ℕ) : Type 0 where
  pub places : (t : State) → Holds ws₀ t → (j : ℕ) → j < i → tracked_at ws j ≡ marked t (tracked_at ws₀ j)
  pub kept : Kept TRACKED (TRACKED + 2 * i) ws₀ ws

module _ {ws₀ ws : List ℕ} {i : ℕ} (v : Marking ws₀ ws i) where
  pub marking_turn : {p q : Place} {ws' : List ℕ} → p ≡ tracked_at ws i → ((t : State) → Holds ws t → q ≡ marked t p) → Tracks ws i q ws' → Marking ws₀ ws' (i + 1)
  marking_turn {p} {q} {ws'} e m s = record {
    places = λ t h j z. go t h j z (ℕ_discrete j i);
    kept = kept_then TRACKED (TRACKED + 2 * (i + 1)) v.kept s.kept (omega arith) (omega arith) (omega arith) (omega arith);
  }
    where
      go : (t : State) → Holds ws₀ t → (j : ℕ) → j < i + 1 → Dec (j ≡ i) → tracked_at ws' j ≡ marked t (tracked_at ws₀ j)
      go t h j b (no n) = let z : j < i = omega (arith, b, n) in tracked-low ws ws' i j z s.kept.low ∙ v.places t h j z
      go t h j b (yes z) =
          let k : tracked_at ws' i ≡ marked t (tracked_at ws₀ i) =
          s.place ∙ m t (holds_kept ws₀ ws t v.kept.low h) ∙ ap (marked t) (e ∙ tracked_high ws₀ ws i i (omega arith) v.kept.high) in
          ap (tracked_at ws') z ∙ k ∙ ap (λ (n : ℕ). marked t (tracked_at ws₀ n)) (sym z)

  pub marking_end : (count : ℕ) → i ≡ count → Marks ws₀ count ws
  unfolding tracked_of
  marking_end count e = record {
    places = λ t h. tab-same count (tracked_at ws) (λ (j : ℕ). marked t (tracked_at ws₀ j)) (λ j z. v.places t h j (omega (arith, z, e))) ∙ sym (tab-map count (tracked_at ws₀) (marked t));
    kept = rw (← e) v.kept;
  }
