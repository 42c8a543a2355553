-- The loops that store phi operands: those of one phi, and those of every phi so far.
use Prim.Native.Nat.{ℕ, zero, suc, ◌+◌, ◌-◌, ◌/◌, ◌%◌, ◌≤◌, ◌<◌}
use native.Mathlib.Omega.{arith}
use native.Mathlib.Numerals.{add-one}
use mathlib.Core.Bool.{Bool, true, false, not}
use mathlib.Core.List.{List, [], ◌∷◌, ◌++◌}
use mathlib.Core.Path.{◌≡◌, refl, sym, ap, subst, ◌∙◌}
use lib.ListN.{length, get_or, set, take, drop}
use lib.Seq.{slice, slice-cons, slice_empty}
use lib.Dec.{eqb}
use borrow.Author.Tests.{not-true, not-false}
use Rattle.model.specs.Limits.{most_identifiers, most_sheet, most_blocks, place_width, operand_width, most_index}
use Rattle.model.specs.Lists.{cons_if, each, gather, Every}
use Rattle.model.specs.Sheet.{IdentifierId, Place, Operand}
use Rattle.model.specs.Ranges.{PlaceBelow}
use Rattle.model.specs.Reading.{Position}
use Rattle.model.specs.Graph.{into_aliases, relate}
use Rattle.model.specs.Built.{Waiting}
use Rattle.hir.specs.declared.at.Phi.{Phi}
use Rattle.hir.specs.Words.{Part, Standing, wide, operand_at, several, listed, phi_from}
use Rattle.hir.specs.Parts.{PhiAt}
use Rattle.hir.proofs.Standing.{part}
use Rattle.hir.proofs.Several.{several_next, several_none}
use Rattle.hir.proofs.Widths.{several_rises, wide_rises}
use Rattle.workspace.specs.Layout.{LEAST, SEEN, VALUE, PHIS}
use Rattle.workspace.proofs.Parts.{slice_take, slice_push, drop-word, kept_none, kept_set}
use Rattle.building.specs.declared.Held.{Held}
use Rattle.building.specs.Logs.{any_p}
use Rattle.building.specs.Held.{graph_of, Room, Builds}
use Rattle.building.specs.Phis.{most_phis, waiting_at, indexed, operands_from, phi_word, operands_of, phis_of, Stands, Known, from, stored, Stores, PushesPhi}
use Rattle.building.proofs.Holds.{builds_then, builds_as, builds_none}
use Rattle.building.proofs.Operands.{stored-append}
use Rattle.building.proofs.StoredMore.{stored_more, stored_has}

-- ---- what is left to store, when the first have been: whatever stores it has stored the whole
pub record Storing (test : Waiting → Bool) (whole : List Waiting) (ws₀ : List ℕ) (h₀ : Held) (l : List Waiting) (ws : List ℕ) (h : Held) : Type 0 where
  pub room : Room ws h
  pub rest : (ws' : List ℕ) (r : Held) → Stores test l ws h ws' r → Stores test whole ws₀ h₀ ws' r
  pub low : take VALUE ws ≡ take VALUE ws₀
  pub high : drop PHIS ws ≡ drop PHIS ws₀
  pub same : length ws ≡ length ws₀

pub storing-start : {test : Waiting → Bool} {l : List Waiting} {ws : List ℕ} {h : Held} → Room ws h → Storing test l ws h l ws h
storing-start room = record { room = room; rest = λ ws' r s. s; low = refl; high = refl; same = refl }

none_stored : (test : Waiting → Bool) {ws : List ℕ} {h : Held} → Room ws h → Stores test [] ws h ws h
unfolding stored
none_stored test room = builds_none room refl

module _ {test : Waiting → Bool} {whole : List Waiting} {ws₀ : List ℕ} {h₀ : Held} where
  pub storing_done : {l : List Waiting} {ws : List ℕ} {h : Held} → l ≡ [] → Storing test whole ws₀ h₀ l ws h → Stores test whole ws₀ h₀ ws h
  storing_done {l} {ws} {h} e c =
      let d = subst (λ (k : List Waiting). Storing test whole ws₀ h₀ k ws h) e c in
      d.rest ws h (none_stored test d.room)

  module _ (l m : List Waiting) {ws : List ℕ} {h : Held} (c : Storing test whole ws₀ h₀ (l ++ m) ws h) where
    -- the first are stored: the others take nothing away
    pub storing_turn : {ws₁ : List ℕ} {h₁ : Held} → Stores test l ws h ws₁ h₁ → Storing test whole ws₀ h₀ m ws₁ h₁
    storing_turn {ws₁} {h₁} s = record {
      room = s.room;
      rest = λ ws' r t. c.rest ws' r
          (builds_as (builds_then (omega (arith, stored_more test m (stored test l (graph_of ws h)))) (λ x. stored_has test m (graph_of ws₁ h₁) x ∙ s.nodes x ∙ sym (stored_has test m (stored test l (graph_of ws h)) x)) s t)
          (sym (stored-append test l m (graph_of ws h))));
      low = s.low ∙ c.low;
      high = s.high ∙ c.high;
      same = s.same ∙ c.same;
    }

-- ---- the test is on words that stay
pub from-same : (first n : ℕ) (ws ws₀ : List ℕ) → first + n ≤ most_blocks → take VALUE ws ≡ take VALUE ws₀ → from first n ws ≡ from first n ws₀
from-same first n ws ws₀ few e = ap (λ (l : List ℕ). λ (w : Waiting). any_p (eqb w.predecessor) l) (slice_take VALUE (SEEN + first) (SEEN + first + n) ws ws₀ (omega arith) e)

-- ---- one operand
module _ (test : Waiting → Bool) (w : Waiting) {ws : List ℕ} {h : Held} (t : Bool) (is : t ≡ test w) where
  pub one-stored : not t ≡ false → {ws' : List ℕ} {r : Held} → Builds (relate into_aliases w.index w.origin w.into) ws h ws' r → Stores test (w ∷ []) ws h ws' r
  unfolding stored
  one-stored e {ws'} {r} s =
      subst (λ (b : Bool). Builds (each (λ (w : Waiting). relate into_aliases w.index w.origin w.into) (cons_if b w [])) ws h ws' r) (sym (sym is ∙ not-false t e)) s

  pub one_passed : not t ≡ true → Room ws h → Stores test (w ∷ []) ws h ws h
  unfolding stored
  one_passed e room =
      subst (λ (b : Bool). Builds (each (λ (w : Waiting). relate into_aliases w.index w.origin w.into) (cons_if b w [])) ws h ws h) (sym (sym is ∙ not-true t e))
      (builds_none room refl)

-- ---- the operands of a phi
abbrev pub one_operand : Standing Operand
one_operand = wide operand_width operand_at

-- those left to store, `left` of them at c
abbrev pub left_of : List ℕ → IdentifierId → ℕ → ℕ → Position → List Waiting
left_of s into i left c = indexed into i (several left one_operand s c).what

pub record Reading (s : List ℕ) (i left : ℕ) (c : Position) : Type 0 where
  pub inside : (several left one_operand s c).next ≤ length s
  pub range : Every (λ (o : Operand). PlaceBelow most_identifiers o.place) (several left one_operand s c).what
  pub indexes : i + left ≤ most_index

pub record Operands (s : List ℕ) (into : IdentifierId) (first n : ℕ) (whole : List Waiting) (ws₀ : List ℕ) (h₀ : Held) (i left : ℕ) (c : Position) (ws : List ℕ) (h : Held) : Type 0 where
  pub known : into < most_identifiers
  pub few : first + n ≤ most_blocks
  pub reading : Reading s i left c
  pub storing : Storing (from first n ws₀) whole ws₀ h₀ (left_of s into i left c) ws h

pub several-length : (k : ℕ) (s : List ℕ) (c : Position) → length (several k one_operand s c).what ≡ k
unfolding several
several-length zero s c = refl
several-length (suc k) s c = ap suc (several-length k s (c + operand_width))

module _ (s : List ℕ) (c : Position) {p : Phi} (at : PhiAt s c p) where
  pub phi_is : (phi_from s c).what.place.identifier ≡ p.place.identifier.0
  unfolding phi_from
  phi_is = ap (λ (q : Place). q.identifier) (sym at.place)

  pub operands_are : listed one_operand s (c + place_width) ≡ several p.operands.count one_operand s p.operands.first
  unfolding listed
  operands_are = ap (λ (k : ℕ). several k one_operand s (c + place_width + 1)) (sym at.operands.count) ∙ ap (several p.operands.count one_operand s) (sym at.operands.first)

  pub count_is : p.operands.count ≡ length (phi_from s c).what.operands
  unfolding phi_from
  count_is = sym (ap (λ (z : Part (List Operand)). length z.what) operands_are ∙ several-length p.operands.count s p.operands.first)

module _ (s : List ℕ) (c : Position) (i : ℕ) {p : Phi} (at : PhiAt s c p) (stands : Stands s c i) where
  phi_reading : Reading s i p.operands.count p.operands.first
  unfolding phi_from
  phi_reading =
      let q = operands_are s c at in
      record {
        inside = subst (λ (z : Part (List Operand)). z.next ≤ length s) q stands.inside;
        range = subst (λ (z : Part (List Operand)). Every (λ (o : Operand). PlaceBelow most_identifiers o.place) z.what) q stands.range.1;
        indexes = omega (arith, stands.indexes, count_is s c at);
      }

  whole_is : operands_from s c i ≡ left_of s p.place.identifier.0 i p.operands.count p.operands.first
  unfolding phi_from
  whole_is = ap (λ (x : IdentifierId). indexed x i (listed one_operand s (c + place_width)).what) (phi_is s c at) ∙ ap (λ (z : Part (List Operand)). indexed p.place.identifier.0 i z.what) (operands_are s c at)

  pub operands_start : {first n : ℕ} {ws : List ℕ} {h : Held} → first + n ≤ most_blocks → Room ws h → {left : ℕ} → left ≡ p.operands.count
      → Operands s p.place.identifier.0 first n (operands_from s c i) ws h i left p.operands.first ws h
  unfolding phi_from
  operands_start {first} {n} {ws} {h} few room e = subst (λ (k : ℕ). Operands s p.place.identifier.0 first n (operands_from s c i) ws h i k p.operands.first ws h) (sym e) (record {
    known = subst (λ (x : ℕ). x < most_identifiers) (phi_is s c at) stands.range.0;
    few = few;
    reading = phi_reading;
    storing = subst (λ (l : List Waiting). Storing (from first n ws) (operands_from s c i) ws h l ws h) whole_is (storing-start room);
  })

  -- the index behind the last one
  pub operands_end : i + p.operands.count ≤ most_index
  operands_end = omega (arith, stands.indexes, count_is s c at)

module _ {s : List ℕ} {into : IdentifierId} {first n : ℕ} {whole : List Waiting} {ws₀ : List ℕ} {h₀ : Held} {i left : ℕ} {c : Position} {ws : List ℕ} {h : Held} (o : Operands s into first n whole ws₀ h₀ i left c ws h) where
  pub operands_done : left ≤ 0 → Stores (from first n ws₀) whole ws₀ h₀ ws h
  unfolding indexed
  operands_done e = storing_done (ap (λ (z : Part (List Operand)). indexed into i z.what) (several_none one_operand s left c e)) o.storing

  module _ (t : 0 < left) where
    abbrev others : List Operand
    others = (several (left - 1) one_operand s (c + operand_width)).what

    parts : several left one_operand s c ≡ part (operand_at s c ∷ others) (several (left - 1) one_operand s (c + operand_width)).next
    parts = several_next one_operand s left c t

    all : Every (λ (o : Operand). PlaceBelow most_identifiers o.place) (operand_at s c ∷ others)
    all = subst (λ (z : Part (List Operand)). Every (λ (o : Operand). PlaceBelow most_identifiers o.place) z.what) parts o.reading.range

    after : (several (left - 1) one_operand s (c + operand_width)).next ≤ length s
    after = subst (λ (z : Part (List Operand)). z.next ≤ length s) parts o.reading.inside

    pub operand_inside : c + operand_width ≤ length s
    operand_inside = omega (arith, after, several_rises (left - 1) one_operand (wide_rises operand_width operand_at) s (c + operand_width))

    pub operand_index : i < most_index
    operand_index = omega (arith, o.reading.indexes)

    now_storing : Storing (from first n ws₀) whole ws₀ h₀ ((waiting_at into i (operand_at s c) ∷ []) ++ indexed into (suc i) others) ws h
    unfolding indexed
    now_storing = subst (λ (z : Part (List Operand)). Storing (from first n ws₀) whole ws₀ h₀ (indexed into i z.what) ws h) parts o.storing

    module _ {m : Operand} (is : m ≡ operand_at s c) where
      pub operand_below : PlaceBelow most_identifiers m.place
      operand_below = subst (λ (q : Operand). PlaceBelow most_identifiers q.place) (sym is) all.0

      operand_stored : {ws₁ : List ℕ} {h₁ : Held} → Stores (from first n ws) (waiting_at into i m ∷ []) ws h ws₁ h₁ → Operands s into first n whole ws₀ h₀ (i + 1) (left - 1) (c + operand_width) ws₁ h₁
      operand_stored {ws₁} {h₁} st =
          let x = subst (λ (f : Waiting → Bool). Stores f (waiting_at into i (operand_at s c) ∷ []) ws h ws₁ h₁) (from-same first n ws ws₀ o.few o.storing.low)
          (subst (λ (q : Operand). Stores (from first n ws) (waiting_at into i q ∷ []) ws h ws₁ h₁) is st) in
          record {
            known = o.known;
            few = o.few;
            reading = record { inside = after; range = all.1; indexes = omega (arith, o.reading.indexes) };
            storing = subst (λ (j : ℕ). Storing (from first n ws₀) whole ws₀ h₀ (indexed into j others) ws₁ h₁) (sym (add-one i)) (storing_turn (waiting_at into i (operand_at s c) ∷ []) (indexed into (suc i) others) now_storing x);
          }

      pub operands_turn : {ws₁ : List ℕ} {h₁ : Held} → Stores (from first n ws) (waiting_at into i m ∷ []) ws h ws₁ h₁ → {k : ℕ} → k ≡ left - 1 → Operands s into first n whole ws₀ h₀ (i + 1) k (c + operand_width) ws₁ h₁
      operands_turn {ws₁} {h₁} st e =
          subst (λ (k : ℕ). Operands s into first n whole ws₀ h₀ (i + 1) k (c + operand_width) ws₁ h₁) (sym e) (operand_stored st)

-- ---- the operands of every phi so far
abbrev pub ahead : List ℕ → ℕ → ℕ → List ℕ
ahead ws n i = slice (PHIS + i) (PHIS + n) ws

pub record Waking (s : List ℕ) (first n : ℕ) (ws₀ : List ℕ) (h₀ : Held) (i : ℕ) (ws : List ℕ) (h : Held) : Type 0 where
  pub size : LEAST ≤ length ws
  pub few : (n ≤ most_phis) × (first < most_blocks)
  pub mid : i ≤ n
  pub known : Every (Known s) (ahead ws₀ n i)
  pub storing : Storing (from first 1 ws₀) (gather (operands_of s) (phis_of ws₀ n)) ws₀ h₀ (gather (operands_of s) (ahead ws₀ n i)) ws h

operands_of_lem : (s : List ℕ) (w : ℕ) → operands_of s w ≡ operands_from s (w % most_sheet) (w / most_sheet)
unfolding operands_of
operands_of_lem s w = refl

module _ {s : List ℕ} {first n : ℕ} {ws₀ : List ℕ} {h₀ : Held} {i : ℕ} {ws : List ℕ} {h : Held} (c : Waking s first n ws₀ h₀ i ws h) where
  pub waking_done : n ≤ i → Stores (from first 1 ws₀) (gather (operands_of s) (phis_of ws₀ n)) ws₀ h₀ ws h
  waking_done e = let q : i ≡ n = omega (arith, c.mid) in storing_done (ap (λ (j : ℕ). gather (operands_of s) (ahead ws₀ n j)) q ∙ ap (gather (operands_of s)) (slice_empty (PHIS + n) ws₀)) c.storing

  module _ (t : i < n) where
    abbrev word : ℕ
    word = get_or ws (PHIS + i) 0

    front : ahead ws₀ n i ≡ word ∷ ahead ws₀ n (i + 1)
    front =
        let q : suc (PHIS + i) ≡ PHIS + (i + 1) = omega arith in
        slice-cons (PHIS + i) (PHIS + n) ws₀ 0 (omega arith) (omega (arith, c.size, c.few.0, c.storing.same))
        ∙ ap (λ (j : ℕ). get_or ws₀ (PHIS + i) 0 ∷ slice j (PHIS + n) ws₀) q
        ∙ ap (λ (v : ℕ). v ∷ ahead ws₀ n (i + 1)) (sym (drop-word PHIS (PHIS + i) ws₀ ws (omega arith) c.storing.high))

    all_known : Every (Known s) (word ∷ ahead ws₀ n (i + 1))
    all_known = subst (Every (Known s)) front c.known

    pub phi_known : Known s word
    phi_known = all_known.0

    now : Storing (from first 1 ws₀) (gather (operands_of s) (phis_of ws₀ n)) ws₀ h₀ (operands_from s (word % most_sheet) (word / most_sheet) ++ gather (operands_of s) (ahead ws₀ n (i + 1))) ws h
    now = subst (λ (l : List Waiting). Storing (from first 1 ws₀) (gather (operands_of s) (phis_of ws₀ n)) ws₀ h₀ (l ++ gather (operands_of s) (ahead ws₀ n (i + 1))) ws h) (operands_of_lem s word)
        (subst (λ (l : List ℕ). Storing (from first 1 ws₀) (gather (operands_of s) (phis_of ws₀ n)) ws₀ h₀ (gather (operands_of s) l) ws h) front c.storing)

    tests : from first 1 ws ≡ from first 1 ws₀
    tests = from-same first 1 ws ws₀ (omega (arith, c.few.1)) c.storing.low

    pub waking_turn : {ws₁ : List ℕ} {h₁ : Held} → Stores (from first 1 ws) (operands_from s (word % most_sheet) (word / most_sheet)) ws h ws₁ h₁ → Waking s first n ws₀ h₀ (i + 1) ws₁ h₁
    waking_turn {ws₁} {h₁} st = record {
      size = omega (arith, c.size, st.same);
      few = c.few;
      mid = omega arith;
      known = all_known.1;
      storing = storing_turn (operands_from s (word % most_sheet) (word / most_sheet)) (gather (operands_of s) (ahead ws₀ n (i + 1))) now
          (subst (λ (f : Waiting → Bool). Stores f (operands_from s (word % most_sheet) (word / most_sheet)) ws h ws₁ h₁) tests st);
    }

-- ---- one phi more
module _ (ws : List ℕ) (n c i : ℕ) (size : LEAST ≤ length ws) (few : n < most_phis) where
  pub phi_pushed : PushesPhi c i ws n (set ws (PHIS + n) (phi_word c i))
  phi_pushed = record {
    phis = slice_push PHIS n (phi_word c i) ws (omega arith);
    kept = kept_set (kept_none (PHIS + n) (PHIS + n + 1) ws) (PHIS + n) (phi_word c i) (omega arith) (omega arith);
  }
