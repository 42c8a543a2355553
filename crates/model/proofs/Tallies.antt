-- How much the members of a list come to together: each so much, or at most so much.
use Prim.Native.Nat.{ℕ, suc, ◌*◌, ◌≤◌, ◌<◌}
use native.Mathlib.Omega.{arith}
use mathlib.Core.Path.{◌≡◌, refl, ap}
use mathlib.Core.Bool.{Bool, true, false}
use mathlib.Core.List.{List, [], ◌∷◌, Memᴰ}
use lib.ListN.{length, length-append}
use lib.Dec.{ltb}
use borrow.Author.Tests.{ltb-true, ltb-false}
use Rattle.model.specs.Lists.{gather, tally, keep, one_if, Every}
use Rattle.model.specs.Sheet.{Effect, Instruction, list_of}
use Rattle.model.specs.Effects.{Role, row_of}
use Rattle.model.specs.Totals.{with_role}
use Rattle.model.proofs.Everywhere.{every_of, every_mem}

module _ {A : Type 0} (f : A → ℕ) where
  pub tally_each : (k : ℕ) (l : List A) → Every (λ (a : A). f a ≡ k) l → tally f l ≡ k * length l
  tally_each k [] h = omega arith
  tally_each k (a ∷ l) h = omega (arith, h.0, tally_each k l h.1)

  pub tally_most : (k : ℕ) (l : List A) → Every (λ (a : A). f a ≤ k) l → tally f l ≤ k * length l
  tally_most k [] h = omega arith
  tally_most k (a ∷ l) h = omega (arith, h.0, tally_most k l h.1)

  -- a member counts at most what all do; where something counts, a member does
  pub tally_member : {a : A} {l : List A} → Memᴰ a l → f a ≤ tally f l
  tally_member {a = a} {l = []} m = elim m [ ]
  tally_member {l = b ∷ l} (Memᴰ.head e) = omega (arith, ap f e)
  tally_member {l = b ∷ l} (Memᴰ.tail m) = omega (arith, tally_member m)

  pub tally_some : (l : List A) → 0 < tally f l → (a : A) × Memᴰ a l × (0 < f a)
  tally_some [] h = absurd (omega arith)
  tally_some (a ∷ l) h = go (ltb 0 (f a)) refl (λ k. tally_some l k)
    where
      go : (t : Bool) → ltb 0 (f a) ≡ t → (0 < tally f l → (b : A) × Memᴰ b l × (0 < f b)) → (b : A) × Memᴰ b (a ∷ l) × (0 < f b)
      go true e again = (a, Memᴰ.head refl, ltb-true _ _ e)
      go false e again = let n : f a ≤ 0 = ltb-false _ _ e in let w = again (omega arith) in (w.0, Memᴰ.tail w.1, w.2)

  -- each at most one, and one of them nothing
  pub tally_but_one : {a : A} {l : List A} → Memᴰ a l → f a ≡ 0 → Every (λ (b : A). f b ≤ 1) l → suc (tally f l) ≤ length l
  tally_but_one {a = a} {l = []} m z h = elim m [ ]
  tally_but_one {l = b ∷ l} (Memᴰ.head e) z h = omega (arith, ap f e, tally_most 1 l h.1)
  tally_but_one {l = b ∷ l} (Memᴰ.tail m) z h = omega (arith, h.0, tally_but_one m z h.1)

-- the length of a gathered list
pub gather_tally : {A B : Type 0} (f : A → List B) (l : List A) → length (gather f l) ≡ tally (λ (a : A). length (f a)) l
gather_tally f [] = refl
gather_tally f (a ∷ l) = omega (arith, length-append (f a) (gather f l), gather_tally f l)

-- nothing is kept of a list where the test fails everywhere
pub keep_none : {A : Type 0} (t : A → Bool) (l : List A) → Every (λ (a : A). t a ≡ false) l → keep t l ≡ []
keep_none t [] h = refl
keep_none t (a ∷ l) h = rw h.0 (keep_none t l h.1)

pub one_most : (b : Bool) → one_if b ≤ 1
one_most true = omega arith
one_most false = omega arith

-- the effects of one role, in instructions of at most k effects each
pub role_most : (f : Role → Bool) (k : ℕ) (l : List Instruction) → Every (λ (i : Instruction). length (list_of i) ≤ k) l → with_role f l ≤ k * length l
role_most f k l h = tally_most (λ (i : Instruction). tally count (list_of i)) k l (every_mem (λ (i : Instruction). length (list_of i) ≤ k) _ l (λ i m few. omega (arith, few, each_once (list_of i))) h)
  where
    count : Effect → ℕ
    count e = one_if (f (row_of e.kind).role)

    each_once : (es : List Effect) → tally count es ≤ 1 * length es
    each_once es = tally_most count 1 es (every_of (λ (e : Effect). count e ≤ 1) es (λ e m. one_most (f (row_of e.kind).role)))
