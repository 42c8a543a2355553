-- A loop over parts of the sheet that works on the ranges in the words: what is left to do from here makes what was to do from the start.
use Prim.Native.Nat.{ℕ, ◌+◌, ◌-◌, ◌≤◌, ◌<◌}
use native.Mathlib.Omega.{arith}
use mathlib.Core.Path.{◌≡◌, sym, ap, subst, ◌∙◌}
use mathlib.Core.List.{List, ◌∷◌}
use lib.ListN.{length}
use Rattle.model.specs.Limits.{most_identifiers, place_width}
use Rattle.model.specs.Lists.{each, Every}
use Rattle.model.specs.Sheet.{Place}
use Rattle.model.specs.Ranges.{PlaceBelow}
use Rattle.model.specs.Reading.{Position}
use Rattle.model.specs.Operands.{Ranges}
use Rattle.hir.specs.Words.{Part, Standing, wide, place_at, several}
use Rattle.hir.proofs.Widths.{Rises}
use Rattle.hir.proofs.Several.{several_next, first_inside, several_none}
use Rattle.workspace.specs.Layout.{STARTS, CONTEXTS}
use Rattle.workspace.specs.Rows.{Kept}
use Rattle.workspace.proofs.Parts.{kept_then}
use Rattle.operands.specs.Ranges.{ranges_of, Ranged}

-- ---- n parts from c₀ on, each of them Below, of which i are done; the next stands at c
module _ {A : Type 0} (f : Standing A) (Below : A → Type 0) (step : A → Ranges → Ranges) (sheet : List ℕ) where
  pub record Ranging (n : ℕ) (c₀ : Position) (ws₀ : List ℕ) (i : ℕ) (c : Position) (ws : List ℕ) : Type 0 where
    pub ranges : each step (several (n - i) f sheet c).what (ranges_of ws) ≡ each step (several n f sheet c₀).what (ranges_of ws₀)
    pub next : (several (n - i) f sheet c).next ≡ (several n f sheet c₀).next
    pub below : Every Below (several (n - i) f sheet c).what
    pub kept : Kept STARTS CONTEXTS ws₀ ws

module _ {A : Type 0} {f : Standing A} {Below : A → Type 0} {step : A → Ranges → Ranges} {sheet : List ℕ} {n : ℕ} {c₀ : Position} {ws₀ : List ℕ} {i : ℕ} {c : Position} {ws : List ℕ}
    (v : Ranging f Below step sheet n c₀ ws₀ i c ws) where
  -- the next part stands in the sheet, if all do
  pub ranging_inside : Rises f → i < n → (several n f sheet c₀).next ≤ length sheet → (f sheet c).next ≤ length sheet
  ranging_inside r h k = first_inside f sheet (n - i) c r (omega arith) (omega (arith, v.next, k))

  both : i < n → Every Below ((f sheet c).what ∷ (several (n - i - 1) f sheet (f sheet c).next).what)
  both h = subst (λ (p : Part (List A)). Every Below p.what) (several_next f sheet (n - i) c (omega arith)) v.below

  -- it is Below
  pub ranging_below : i < n → {a : A} → a ≡ (f sheet c).what → Below a
  ranging_below h e = subst Below (sym e) (both h).0

  pub ranging_turn : i < n → {a : A} {c' : Position} {ws' : List ℕ} → a ≡ (f sheet c).what → c' ≡ (f sheet c).next → Ranged (step a) ws ws' → Ranging f Below step sheet n c₀ ws₀ (i + 1) c' ws'
  ranging_turn h {a} {c'} {ws'} e t s =
      let first = several_next f sheet (n - i) c (omega arith) in
      let rest : Ranges → Ranges = each step (several (n - i - 1) f sheet (f sheet c).next).what in
      let k : n - (i + 1) ≡ n - i - 1 = omega arith in
      record {
        ranges = rw k
            (ap (λ (d : Position). each step (several (n - i - 1) f sheet d).what (ranges_of ws')) t
            ∙ ap rest s.ranges
            ∙ ap (λ (b : A). rest (step b (ranges_of ws))) e
            ∙ ap (λ (p : Part (List A)). each step p.what (ranges_of ws)) (sym first) ∙ v.ranges);
        next = rw k (ap (λ (d : Position). (several (n - i - 1) f sheet d).next) t ∙ ap (λ (p : Part (List A)). p.next) (sym first) ∙ v.next);
        below = rw k (subst (λ (d : Position). Every Below (several (n - i - 1) f sheet d).what) (sym t) (both h).1);
        kept = kept_then STARTS CONTEXTS v.kept s.kept (omega arith) (omega arith) (omega arith) (omega arith);
      }

  pub ranging_end : n ≤ i → Ranged (each step (several n f sheet c₀).what) ws₀ ws
  ranging_end h = record {
    ranges = ap (λ (p : Part (List A)). each step p.what (ranges_of ws)) (sym (several_none f sheet (n - i) c (omega arith))) ∙ v.ranges;
    kept = v.kept;
  }

-- the places of a list
abbrev pub PlaceRanging : (Place → Ranges → Ranges) → List ℕ → ℕ → Position → List ℕ → ℕ → Position → List ℕ → Type 0
PlaceRanging = Ranging (wide place_width place_at) (PlaceBelow most_identifiers)
