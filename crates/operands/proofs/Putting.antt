-- A loop that writes one place for each part that stands in the sheet.
use Prim.Native.Nat.{ℕ, zero, suc, ◌+◌, ◌-◌, ◌*◌, ◌≤◌, ◌<◌}
use native.Mathlib.Omega.{arith}
use mathlib.Core.Path.{◌≡◌, refl, sym, ap, ◌∙◌}
use mathlib.Core.List.{List, [], ◌∷◌, map}
use lib.ListN.{length, length-map}
use Rattle.model.specs.Limits.{place_width}
use Rattle.model.specs.Lists.{gather}
use Rattle.model.specs.Sheet.{Place}
use Rattle.model.specs.Reading.{Position}
use Rattle.model.specs.Answer.{place_words}
use Rattle.model.proofs.Gathers.{gather_map}
use Rattle.hir.specs.Words.{wide, several}
use Rattle.hir.proofs.Widths.{wide_rises}
use Rattle.hir.proofs.Several.{several-length}
use Rattle.writing.specs.declared.Writer.{Writer}
use Rattle.writing.specs.Wrote.{Writes}
use Rattle.writing.proofs.Writing.{writes_as}
use Rattle.copies.proofs.Copying.{Copying, copying_start, copying_turn, copying_inside, copying_end}
use Rattle.operands.specs.Given.{last_place}

-- the words of places
pub places_length : (l : List Place) → length (gather place_words l) ≡ place_width * length l
places_length [] = refl
places_length (p ∷ l) = omega (arith, places_length l)

-- ---- the place that ends each part: g makes of it what h makes of the part
pub last_places_lem : {A : Type 0} (width : ℕ) (part_at : List ℕ → Position → A) (h : A → Place) (g : Place → Place) (sheet : List ℕ) → ((c : Position) → g (last_place width sheet c) ≡ h (part_at sheet c)) → (k : ℕ) (c : Position)
    → map g (several k (wide width (last_place width)) sheet c).what ≡ map h (several k (wide width part_at) sheet c).what
unfolding several
last_places_lem width part_at h g sheet e zero c = refl
last_places_lem width part_at h g sheet e (suc k) c = rw (e c, last_places_lem width part_at h g sheet e k (c + width))

-- ---- parts of one width, at least a place's, each with its place
module _ {A : Type 0} (width : ℕ) (part_at : List ℕ → Position → A) (g : A → Place) (sheet : List ℕ) where
  -- what is written for a part
  abbrev words : A → List ℕ
  words a = place_words (g a)

  -- n of them from c₀ on, of which i are written
  abbrev pub Putting : ℕ → Position → Writer ℕ → ℕ → Position → Writer ℕ → Type 0
  Putting n c₀ o₀ i c o = Copying (wide width part_at) words sheet n c₀ o₀ i c o

  pub putting_start : (n : ℕ) (c : Position) (o : Writer ℕ) → Putting n c o 0 c o
  putting_start n c o = copying_start (wide width part_at) words sheet n c o

  part-words : (l : List A) → length (gather words l) ≡ place_width * length l
  part-words l = ap (λ (ws : List ℕ). length ws) (sym (gather_map place_words g l)) ∙ places_length (map g l) ∙ ap (λ (n : ℕ). place_width * n) (length-map l g)

  module _ {n : ℕ} {c₀ : Position} {o₀ : Writer ℕ} {i : ℕ} {c : Position} {o : Writer ℕ} (v : Putting n c₀ o₀ i c o) where
    pub putting_turn : place_width ≤ width → i < n → {p : Place} {o' : Writer ℕ} → Writes (place_words p) o o' → p ≡ g (part_at sheet c) → Putting n c₀ o₀ (i + 1) (c + width) o'
    putting_turn h z p e = copying_turn (wide width part_at) words sheet v z (record { wrote = writes_as p (ap place_words e); after = refl; few = omega (arith, p.wrote.next, h) })

    -- the part that is next stands in the sheet, if all do
    pub putting_inside : i < n → (several n (wide width part_at) sheet c₀).next ≤ length sheet → c + width ≤ length sheet
    putting_inside z h = copying_inside (wide width part_at) words sheet v (wide_rises width part_at) z h

    -- three words a place
    pub putting_room : o.at + place_width * (n - i) ≡ o₀.at + place_width * n
    putting_room =
        let l : List A = (several (n - i) (wide width part_at) sheet c).what in
        let l₀ : List A = (several n (wide width part_at) sheet c₀).what in
        omega (arith, v.leaves.next, part-words l, part-words l₀, several-length (wide width part_at) sheet (n - i) c, several-length (wide width part_at) sheet n c₀)

    pub putting_end : n ≤ i → Writes (gather place_words (map g (several n (wide width part_at) sheet c₀).what)) o₀ o
    putting_end z =
        writes_as (copying_end (wide width part_at) words sheet v z).wrote (sym (gather_map place_words g (several n (wide width part_at) sheet c₀).what))
