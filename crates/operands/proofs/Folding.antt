-- A loop over parts that stand one after another: what the parts from here make of what there is, all parts made from the start.
use Prim.Native.Nat.{ℕ, ◌+◌, ◌-◌, ◌≤◌, ◌<◌}
use native.Mathlib.Omega.{arith}
use mathlib.Core.Path.{◌≡◌, sym, ap, subst, ◌∙◌}
use mathlib.Core.List.{List}
use lib.ListN.{length}
use Rattle.model.specs.Lists.{each, Every}
use Rattle.model.specs.Reading.{Position}
use Rattle.hir.specs.Words.{Part, Standing, several}
use Rattle.hir.proofs.Widths.{Rises}
use Rattle.hir.proofs.Several.{several_next, first_inside, several_none}

-- ---- n parts from c₀ on, each with the property P, of which i are done; the next stands at c
module _ {A B : Type 0} (f : Standing A) (P : A → Type 0) (g : A → B → B) (sheet : List ℕ) where
  pub record Folding (n : ℕ) (c₀ : Position) (b₀ : B) (i : ℕ) (c : Position) (b : B) : Type 0 where
    pub same : each g (several (n - i) f sheet c).what b ≡ each g (several n f sheet c₀).what b₀
    pub next : (several (n - i) f sheet c).next ≡ (several n f sheet c₀).next
    pub every : Every P (several (n - i) f sheet c).what

  module _ {n : ℕ} {c₀ : Position} {b₀ : B} {i : ℕ} {c : Position} {b : B} (v : Folding n c₀ b₀ i c b) where
    -- the part that is next has the property
    pub folding_has : i < n → {a : A} → a ≡ (f sheet c).what → P a
    folding_has z e = subst P (sym e) (subst (λ (q : Part (List A)). Every P q.what) (several_next f sheet (n - i) c (omega arith)) v.every).0

    -- it stands in the sheet, if all do
    pub folding_inside : Rises f → i < n → (several n f sheet c₀).next ≤ length sheet → (f sheet c).next ≤ length sheet
    folding_inside r z h = first_inside f sheet (n - i) c r (omega arith) (omega (arith, v.next, h))

    pub folding_turn : i < n → {a : A} → a ≡ (f sheet c).what → {b' : B} → b' ≡ g a b → Folding n c₀ b₀ (i + 1) (f sheet c).next b'
    folding_turn z h e =
        let s = several_next f sheet (n - i) c (omega arith) in
        let k : n - (i + 1) ≡ n - i - 1 = omega arith in
        record {
          same = rw k (ap (each g (several (n - i - 1) f sheet (f sheet c).next).what) (e ∙ ap (λ (x : A). g x b) h) ∙ sym (ap (λ (q : Part (List A)). each g q.what b) s) ∙ v.same);
          next = rw k (sym (ap (λ (q : Part (List A)). q.next) s) ∙ v.next);
          every = rw k (subst (λ (q : Part (List A)). Every P q.what) s v.every).1;
        }

    pub folding_end : n ≤ i → b ≡ each g (several n f sheet c₀).what b₀
    folding_end z = sym (ap (λ (q : Part (List A)). each g q.what b) (several_none f sheet (n - i) c (omega arith))) ∙ v.same
