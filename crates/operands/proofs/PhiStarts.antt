-- The starts of phis: one below the block's first order, one phi after another.
use Prim.Native.Nat.{ℕ, ◌+◌, ◌-◌, ◌≤◌, ◌<◌}
use native.Mathlib.Omega.{arith}
use mathlib.Core.Path.{◌≡◌, refl, sym, ap, subst, ◌∙◌}
use mathlib.Core.List.{List}
use lib.ListN.{length}
use Rattle.model.specs.Limits.{most_identifiers}
use Rattle.model.specs.Sheet.{EvaluationOrder, Place, Phi}
use Rattle.model.specs.Reading.{Position}
use Rattle.model.specs.Ranges.{PlaceBelow, PhiBelow}
use Rattle.model.specs.Operands.{Ranges, start_if, phi_starts}
use Rattle.hir.specs.Says.{place_is}
use Rattle.hir.specs.Words.{Part, several, phi_from}
use Rattle.hir.specs.Parts.{PhiAt}
use Rattle.hir.specs.declared.at.Phi.{Phi as Hir}
use Rattle.hir.proofs.Several.{several_none}
use Rattle.copies.proofs.Passing.{phi_follows}
use Rattle.operands.specs.Ranges.{Ranged}
use Rattle.operands.proofs.PhiNames.{phi-place, phi-identifier}
use Rattle.operands.proofs.RangeLoops.{Ranging, ranging_inside, ranging_below, ranging_turn, ranging_end}

-- a phi's start
abbrev start_phi : EvaluationOrder → Phi → Ranges → Ranges
start_phi o p = start_if o (o - 1) p.place

-- i of n phis are done; they start at s
pub record Starting (sheet : List ℕ) (o s : EvaluationOrder) (n : ℕ) (c₀ : Position) (ws₀ : List ℕ) (i : ℕ) (c : Position) (ws : List ℕ) : Type 0 where
  pub ranging : Ranging phi_from (PhiBelow most_identifiers) (start_phi o) sheet n c₀ ws₀ i c ws
  pub start : s ≡ o - 1

module _ {sheet : List ℕ} {o s n : ℕ} {c₀ : Position} {ws₀ : List ℕ} {i : ℕ} {c : Position} {ws : List ℕ} (v : Starting sheet o s n c₀ ws₀ i c ws) where
  pub starting_inside : i < n → (several n phi_from sheet c₀).next ≤ length sheet → (phi_from sheet c).next ≤ length sheet
  starting_inside h k = ranging_inside v.ranging phi_follows h k

  pub starting_below : i < n → {p : Hir} → PhiAt sheet c p → PlaceBelow most_identifiers (place_is p.place)
  starting_below h k = omega (arith, phi-identifier sheet c k, (ranging_below v.ranging h refl).0)

  pub starting_turn : i < n → {p : Hir} {c' : Position} {ws' : List ℕ} → PhiAt sheet c p → Ranged (start_if o s (place_is p.place)) ws ws' → c' ≡ (phi_from sheet c).next
      → Starting sheet o s n c₀ ws₀ (i + 1) c' ws'
  starting_turn h {p} {c'} {ws'} k r t = record {
    ranging =
        ranging_turn v.ranging h refl t
        (subst (λ (q : Place). Ranged (start_if o (o - 1) q) ws ws') (k.place ∙ sym (phi-place sheet c)) (subst (λ (x : EvaluationOrder). Ranged (start_if o x (place_is p.place)) ws ws') v.start r));
    start = v.start;
  }

  pub starting_end : n ≤ i → Ranged (phi_starts o (several n phi_from sheet c₀).what) ws₀ ws × (c ≡ (several n phi_from sheet c₀).next)
  unfolding phi_starts
  starting_end h =
      let e = ranging_end v.ranging h in
      (record { ranges = e.ranges; kept = e.kept }, sym (ap (λ (q : Part (List Phi)). q.next) (several_none phi_from sheet (n - i) c (omega arith))) ∙ v.ranging.next)
