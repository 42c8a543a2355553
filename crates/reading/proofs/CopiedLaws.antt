-- An accepted sheet with no diagnosis and no render has no effect to copy.
use Prim.Native.Nat.{ℕ, zero, suc}
use native.Mathlib.Omega.{arith}
use mathlib.Core.Path.{◌≡◌, ◌∙◌, refl, ap}
use mathlib.Core.Bool.{Bool, true, false, ◌||◌}
use mathlib.Core.List.{List, [], ◌∷◌}
use lib.Dec.{ltb}
use borrow.Author.Tests.{lt-ltb}
use Rattle.model.specs.Lists.{keep, cons_if, tally, one_if}
use Rattle.model.specs.Sheet.{Effect, Sheet}
use Rattle.model.specs.Effects.{Role, row_of, is_render, is_diagnosis}
use Rattle.model.specs.Totals.{instruction_effects, totals}
use Rattle.model.specs.Summary.{copied}
use Rattle.model.specs.Call.{read, IsSheet}
use Rattle.reading.specs.Judging.{Told}
use Rattle.reading.specs.Whole.{diagnoses, told, acceptance, judgement_of}
use Rattle.reading.proofs.Accepted.{accepted_told}
use Rattle.reading.proofs.EffectTallies.{tally_effects}

module _ {A : Type 0} (p q : A → Bool) where
  none_kept : (l : List A) → tally (λ (a : A). one_if (p a)) l ≡ 0 → tally (λ (a : A). one_if (q a)) l ≡ 0 → keep (λ (a : A). p a || q a) l ≡ []
  none_kept [] h k = refl
  none_kept (a ∷ l) h k = go (p a) (q a) (omega (arith, h)) (omega (arith, k)) (none_kept l (omega (arith, h)) (omega (arith, k)))
    where
      go : (b c : Bool) → one_if b ≡ 0 → one_if c ≡ 0 → {r : List A} → r ≡ [] → cons_if (b || c) a r ≡ []
      go false false h k e = e
      go true c h k e = absurd (omega (arith, h))
      go false true h k e = absurd (omega (arith, k))

abbrev counts : (Role → Bool) → Effect → ℕ
counts f e = one_if (f (row_of e.kind).role)

none_told : (n : ℕ) → one_if (ltb 0 n) ≡ 0 → n ≡ 0
none_told zero h = refl
none_told (suc n) h = let k : one_if (ltb 0 (suc n)) ≡ 1 = ap one_if (lt-ltb 0 (suc n) (omega arith)) in absurd (omega (arith, h, k))

none_copied : (s : Sheet) → (told s).diagnoses ≡ 0 → (told s).renders ≡ 0 → copied s ≡ []
unfolding copied told diagnoses totals
none_copied s h k =
    none_kept (λ (e : Effect). is_diagnosis (row_of e.kind).role) (λ (e : Effect). is_render (row_of e.kind).role) (instruction_effects s)
    (tally_effects (counts is_diagnosis) s ∙ none_told (diagnoses s) h) (tally_effects (counts is_render) s ∙ k)

pub accepted_copies : (ws : List ℕ) (t : Told) → judgement_of (read ws) ≡ acceptance t → t.diagnoses ≡ 0 → t.renders ≡ 0 → (s : Sheet) → IsSheet ws s → copied s ≡ []
accepted_copies ws t e h k s is = let q : told s ≡ t = accepted_told ws t e s is in none_copied s (ap (λ (u : Told). u.diagnoses) q ∙ h) (ap (λ (u : Told). u.renders) q ∙ k)
