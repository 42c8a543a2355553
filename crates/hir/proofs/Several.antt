-- Several parts one after another: the first of them, each of them, and a list by its count.
use Prim.Native.Nat.{ℕ, zero, suc, ◌+◌, ◌-◌, ◌*◌, ◌≤◌, ◌<◌}
use native.Mathlib.Omega.{arith}
use mathlib.Core.Path.{◌≡◌, refl, sym, ap, subst, ◌∙◌}
use mathlib.Core.List.{List, [], ◌∷◌}
use lib.ListN.{length, get_or}
use Rattle.model.specs.Reading.{Position}
use Rattle.hir.specs.Words.{Part, Standing, word_at, wide, several, placed, listed}
use Rattle.hir.specs.Parts.{ListAt}
use Rattle.hir.specs.declared.at.List.{List as Listed}
use Rattle.hir.proofs.Standing.{part}
use Rattle.hir.proofs.Widths.{Rises, several_wide, several_rises}

module _ {A : Type 0} (f : Standing A) (ws : List ℕ) where
  -- the first of k parts
  pub several_next : (k : ℕ) (c : Position) → 0 < k → several k f ws c ≡ part ((f ws c).what ∷ (several (k - 1) f ws (f ws c).next).what) (several (k - 1) f ws (f ws c).next).next
  unfolding several
  several_next zero c h = absurd (omega (arith, h))
  several_next (suc k) c h = let e : k ≡ suc k - 1 = omega arith in ap (λ (j : ℕ). part ((f ws c).what ∷ (several j f ws (f ws c).next).what) (several j f ws (f ws c).next).next) e

  -- it ends before the last
  pub first_inside : (k : ℕ) (c : Position) → Rises f → 0 < k → (several k f ws c).next ≤ length ws → (f ws c).next ≤ length ws
  first_inside k c r h i =
      omega (arith, ap (λ (p : Part (List A)). p.next) (several_next k c h), several_rises (k - 1) f r ws (f ws c).next, i)

  -- none is left
  pub several_none : (k : ℕ) (c : Position) → k ≤ 0 → several k f ws c ≡ part [] c
  unfolding several
  several_none zero c h = refl
  several_none (suc k) c h = absurd (omega (arith, h))

  pub several-length : (k : ℕ) (c : Position) → length (several k f ws c).what ≡ k
  unfolding several
  several-length zero c = refl
  several-length (suc k) c = ap suc (several-length k (f ws c).next)

  -- part i of k stands behind i parts
  pub several_at : (k i : ℕ) (c : Position) (d : A) → i < k → get_or (several k f ws c).what i d ≡ (f ws (several i f ws c).next).what
  unfolding several
  several_at zero i c d h = absurd (omega (arith, h))
  several_at (suc k) zero c d h = refl
  several_at (suc k) (suc i) c d h = several_at k i (f ws c).next d (omega (arith, h))

  -- and ends before the last
  pub several_within : Rises f → (k i : ℕ) (c : Position) → i < k → (f ws (several i f ws c).next).next ≤ (several k f ws c).next
  unfolding several
  several_within r zero i c h = absurd (omega (arith, h))
  several_within r (suc k) zero c h = several_rises k f r ws (f ws c).next
  several_within r (suc k) (suc i) c h = several_within r k i (f ws c).next (omega (arith, h))

  -- the places of parts end where the parts do
  pub placed_next : (k : ℕ) (c : Position) → (several k (placed f) ws c).next ≡ (several k f ws c).next
  unfolding several
  placed_next zero c = refl
  placed_next (suc k) c = placed_next k (f ws c).next

  -- a list by its count and where what it counts begins
  pub list_is : (c : Position) {l : Listed} → ListAt ws c l → listed f ws c ≡ several l.count f ws l.first
  unfolding listed
  list_is c {l} h = sym (ap (λ (k : ℕ). several k f ws l.first) h.count ∙ ap (several (word_at ws c) f ws) h.first)

  pub list_inside : (c : Position) {l : Listed} → ListAt ws c l → (listed f ws c).next ≤ length ws → (several l.count f ws l.first).next ≤ length ws
  list_inside c h i = subst (λ (p : Part (List A)). p.next ≤ length ws) (list_is c h) i

-- where a list of parts of one width ends
pub list_end : {A : Type 0} (width : ℕ) (f : List ℕ → Position → A) (ws : List ℕ) (c : Position) {l : Listed} → ListAt ws c l → l.first + l.count * width ≡ (listed (wide width f) ws c).next
list_end {A} width f ws c {l} h = sym (ap (λ (p : Part (List A)). p.next) (list_is (wide width f) ws c h) ∙ several_wide width l.count f ws l.first)
