-- The identifiers of phis: whether one is among those of the first phis, and those of one phi more.
use Prim.Native.Nat.{ℕ, zero, suc, ◌+◌, ◌-◌, ◌≤◌, ◌<◌}
use native.Mathlib.Omega.{arith}
use mathlib.Core.Bool.{Bool, true, false, ◌||◌}
use mathlib.Core.Path.{◌≡◌, refl, sym, ap, ◌∙◌}
use mathlib.Core.List.{List, [], ◌∷◌, ◌++◌, map}
use lib.ListN.{length}
use lib.Dec.{eqb}
use borrow.Author.Tests.{eq-eqb, ne_eqb}
use Rattle.model.specs.Limits.{place_width}
use Rattle.model.specs.Lists.{among}
use Rattle.model.specs.Sheet.{Place, Phi}
use Rattle.model.specs.Reading.{Position}
use Rattle.hir.specs.Words.{Part, Standing, place_at, several, phi_from}
use Rattle.hir.specs.Parts.{PhiAt}
use Rattle.hir.specs.declared.at.Phi.{Phi as Hir}
use Rattle.hir.proofs.Several.{several_next, first_inside, several_none}
use Rattle.hir.proofs.Widths.{phi_rises}
use Rattle.copies.proofs.Passing.{phi_follows}
use Rattle.operands.specs.Phis.{phi_identifier}

-- ---- one part more
module _ {A : Type 0} (f : Standing A) (ws : List ℕ) where
  abbrev one_more : Part (List A) → Part (List A)
  one_more p = record { what = p.what ++ ((f ws p.next).what ∷ []); next = (f ws p.next).next }

  pub several_more : (k : ℕ) (c : Position) → several (k + 1) f ws c ≡ one_more (several k f ws c)
  unfolding several
  several_more zero c = refl
  several_more (suc k) c =
      let e : suc k + 1 ≡ suc (k + 1) = omega arith in
      ap (λ (j : ℕ). several j f ws c) e ∙ ap (λ (p : Part (List A)). record { what = (f ws c).what ∷ p.what; next = p.next }) (several_more k (f ws c).next)

-- ---- the phi at c
module _ (ws : List ℕ) (c : Position) where
  pub phi-place : (phi_from ws c).what.place ≡ place_at ws c
  unfolding phi_from
  phi-place = refl

  pub phi-identifier : {p : Hir} → PhiAt ws c p → p.place.identifier.0 ≡ phi_identifier (phi_from ws c).what
  unfolding phi_from
  phi-identifier h = ap (λ (q : Place). q.identifier) h.place

  pub phi_inside : (phi_from ws c).next ≤ length ws → c + place_width + 1 ≤ length ws
  phi_inside i = omega (arith, phi_rises ws c, i)

-- ---- is x named among n phis from c₀ on? Not among the first i; the next stands at c
module _ (ws : List ℕ) (x : ℕ) where
  abbrev names : ℕ → Position → List ℕ
  names k c = map phi_identifier (several k phi_from ws c).what

  pub record Naming (n : ℕ) (c₀ : Position) (i : ℕ) (c : Position) : Type 0 where
    pub is : among x (names (n - i) c) ≡ among x (names n c₀)
    pub next : (several (n - i) phi_from ws c).next ≡ (several n phi_from ws c₀).next

module _ {ws : List ℕ} {x n : ℕ} {c₀ : Position} {i : ℕ} {c : Position} (v : Naming ws x n c₀ i c) where
  pub naming_inside : i < n → (several n phi_from ws c₀).next ≤ length ws → (phi_from ws c).next ≤ length ws
  naming_inside h k = first_inside phi_from ws (n - i) c phi_follows (omega arith) (omega (arith, v.next, k))

  module _ (h : i < n) {p : Hir} (k : PhiAt ws c p) where
    abbrev rest : Position → Bool
    rest d = among x (map phi_identifier (several (n - i - 1) phi_from ws d).what)

    first : eqb x p.place.identifier.0 || rest (phi_from ws c).next ≡ among x (map phi_identifier (several n phi_from ws c₀).what)
    first =
        ap (λ (y : ℕ). eqb x y || rest (phi_from ws c).next) (phi-identifier ws c k)
        ∙ ap (λ (q : Part (List Phi)). among x (map phi_identifier q.what)) (sym (several_next phi_from ws (n - i) c (omega arith))) ∙ v.is

    -- the next one names it
    pub naming_found : p.place.identifier.0 ≡ x → true ≡ among x (map phi_identifier (several n phi_from ws c₀).what)
    naming_found e = ap (λ (b : Bool). b || rest (phi_from ws c).next) (sym (eq-eqb x p.place.identifier.0 (sym e))) ∙ first

    -- or not
    pub naming_turn : ¬ (p.place.identifier.0 ≡ x) → {c' : Position} → c' ≡ (phi_from ws c).next → Naming ws x n c₀ (i + 1) c'
    naming_turn e t =
        let less : n - (i + 1) ≡ n - i - 1 = omega arith in
        record {
          is = rw less
              (ap rest t ∙ ap (λ (b : Bool). b || rest (phi_from ws c).next) (sym (ne_eqb x p.place.identifier.0 (λ q. e (sym q)))) ∙ first);
          next = rw less
              (ap (λ (d : Position). (several (n - i - 1) phi_from ws d).next) t
              ∙ ap (λ (q : Part (List Phi)). q.next) (sym (several_next phi_from ws (n - i) c (omega arith))) ∙ v.next);
        }

  pub naming_end : n ≤ i → false ≡ among x (map phi_identifier (several n phi_from ws c₀).what)
  naming_end h = ap (λ (p : Part (List Phi)). among x (map phi_identifier p.what)) (sym (several_none phi_from ws (n - i) c (omega arith))) ∙ v.is
