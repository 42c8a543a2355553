-- A call for a caller: 11 if its position is outside the records, and only then; else the call of its record, which alone is replaced.
use Prim.Native.Nat.{ℕ, ◌≤◌, ◌<◌}
use native.Mathlib.Omega.{arith}
use mathlib.Core.Path.{◌≡◌, refl, sym, ap, subst, ◌∙◌}
use mathlib.Core.Bool.{Bool, true, false}
use mathlib.Core.List.{List}
use lib.ListN.{length, get_or}
use lib.Dec.{leb}
use borrow.Author.Tests.{le-leb, lt-leb, leb-true, leb-false}
use Rattle.model.specs.Limits.{last_of_sheet, last_refusal}
use Rattle.model.specs.Call.{Outcome, refusal, accepted, outcome}
use Rattle.model.specs.Numbers.{Numbered}
use Rattle.model.specs.Service.{Caller, new_caller, serves, call}
use Rattle.model.specs.Callers.{outside, refused_outside, replaces, call_for}
use Rattle.model.proofs.Numbers.{outcome_numbered}

pub serves-outcome : (c : Caller) (o : Outcome) → (serves c o).outcome ≡ o
unfolding serves
serves-outcome c (refusal k) = refl
serves-outcome c (accepted a) = refl

module _ (cs : List Caller) (i : ℕ) (ws : List ℕ) (workspace room : ℕ) where
  -- "11, the caller's position is outside the records, before 1 .. with every record unchanged"
  pub first_11 : length cs ≤ i → call_for cs i ws workspace room ≡ refused_outside cs
  unfolding call_for outside
  first_11 h = simp (le-leb (length cs) i h)

  pub inside : i < length cs → call_for cs i ws workspace room ≡ replaces cs i (call (get_or cs i new_caller) ws workspace room)
  unfolding call_for outside
  inside h = simp (lt-leb (length cs) i h)

  -- inside the records it is refused or accepted as the sheet is
  pub inside_outcome : i < length cs → (call_for cs i ws workspace room).outcome ≡ outcome ws workspace room
  unfolding call
  inside_outcome h = ap (λ t. t.outcome) (inside h) ∙ serves-outcome (get_or cs i new_caller) (outcome ws workspace room)

  -- by the place of the caller
  inside_or_not : {P : Type 0} → (length cs ≤ i → P) → (i < length cs → P) → P
  inside_or_not {P} f g = go (leb (length cs) i) refl
    where
      go : (b : Bool) → leb (length cs) i ≡ b → P
      go true e = f (leb-true (length cs) i e)
      go false e = g (leb-false (length cs) i e)

  -- 11 is given outside the records alone
  pub only_11 : (call_for cs i ws workspace room).outcome ≡ refusal 11 → length cs ≤ i
  only_11 e = inside_or_not (λ h. h)
      (λ h. let n : (1 ≤ 11) × (11 ≤ last_of_sheet) = subst (Numbered last_of_sheet) (sym (inside_outcome h) ∙ e) (outcome_numbered ws workspace room) in absurd (omega (arith, n.1)))

  -- a call for a caller is refused from 1 to 11 alone
  pub call_for_numbered : Numbered last_refusal (call_for cs i ws workspace room).outcome
  call_for_numbered = inside_or_not
      (λ h. subst (Numbered last_refusal) (sym (ap (λ t. t.outcome) (first_11 h))) (omega arith, omega arith))
      (λ h. subst (Numbered last_refusal) (sym (inside_outcome h)) (more (outcome ws workspace room) (outcome_numbered ws workspace room)))
    where
      more : (o : Outcome) → Numbered last_of_sheet o → Numbered last_refusal o
      more (refusal k) h = (h.0, omega (arith, h.1))
      more (accepted a) h = tt
