-- A loop that copies parts one after another: what is left to copy from here was left from the start.
use Prim.Native.Nat.{ℕ, ◌+◌, ◌-◌, ◌≤◌, ◌<◌}
use native.Mathlib.Omega.{arith}
use mathlib.Core.Path.{◌≡◌, refl, sym, ap, ◌∙◌}
use mathlib.Core.List.{List, ◌++◌}
use lib.ListN.{length}
use Rattle.model.specs.Lists.{gather}
use Rattle.model.specs.Reading.{Position}
use Rattle.hir.specs.Words.{Part, Standing, several, listed}
use Rattle.hir.specs.Parts.{ListAt}
use Rattle.hir.specs.declared.at.List.{List as Listed}
use Rattle.hir.proofs.Widths.{Rises}
use Rattle.hir.proofs.Several.{several_next, first_inside, several_none, list_is}
use Rattle.writing.specs.declared.Writer.{Writer}
use Rattle.writing.proofs.Writing.{writes_as}
use Rattle.copies.specs.Copies.{Copies}
use Rattle.copies.proofs.Loops.{Leaves, leaves_all, leaves_then, leaves_none}

-- ---- n parts from c₀ on, of which i are copied; the next stands at c
module _ {A : Type 0} (f : Standing A) (w : A → List ℕ) (sheet : List ℕ) where
  pub record Copying (n : ℕ) (c₀ : Position) (o₀ : Writer ℕ) (i : ℕ) (c : Position) (o : Writer ℕ) : Type 0 where
    pub leaves : Leaves (gather w (several n f sheet c₀).what) (gather w (several (n - i) f sheet c).what) o₀ o
    pub next : (several (n - i) f sheet c).next ≡ (several n f sheet c₀).next
    pub few : o.at + c₀ ≤ o₀.at + c

  pub copying_start : (n : ℕ) (c : Position) (o : Writer ℕ) → Copying n c o 0 c o
  copying_start n c o =
      let z : n - 0 ≡ n = omega arith in
      record { leaves = rw z (leaves_all (gather w (several n f sheet c).what) o); next = rw z refl; few = omega arith }

  module _ {n : ℕ} {c₀ : Position} {o₀ : Writer ℕ} {i : ℕ} {c : Position} {o : Writer ℕ} (v : Copying n c₀ o₀ i c o) where
    pub copying_turn : i < n → {o' : Writer ℕ} {c' : ℕ} → Copies f w sheet c o o' c' → Copying n c₀ o₀ (i + 1) c' o'
    copying_turn z {c' = c'} p =
        let e = several_next f sheet (n - i) c (omega arith) in
        let k : n - (i + 1) ≡ n - i - 1 = omega arith in
        record {
          leaves = rw k
              (leaves_then v.leaves p.wrote
              (ap (λ (q : Part (List A)). gather w q.what) e ∙ ap (λ (d : Position). w (f sheet c).what ++ gather w (several (n - i - 1) f sheet d).what) (sym p.after)));
          next = ap (λ (j : ℕ). (several j f sheet c').next) k ∙ ap (λ (d : Position). (several (n - i - 1) f sheet d).next) p.after ∙ sym (ap (λ (q : Part (List A)). q.next) e) ∙ v.next;
          few = omega (arith, v.few, p.few);
        }

    -- the part that is next stands in the sheet, if all do
    pub copying_inside : Rises f → i < n → (several n f sheet c₀).next ≤ length sheet → (f sheet c).next ≤ length sheet
    copying_inside r z h = first_inside f sheet (n - i) c r (omega arith) (omega (arith, v.next, h))

    pub copying_end : n ≤ i → Copies (several n f) (gather w) sheet c₀ o₀ o c
    copying_end z =
        let e = several_none f sheet (n - i) c (omega arith) in
        record {
          wrote = leaves_none v.leaves (ap (λ (q : Part (List A)). gather w q.what) e);
          after = sym (ap (λ (q : Part (List A)). q.next) e) ∙ v.next;
          few = v.few;
        }

-- a count, then that many parts
pub copies_listed : {A : Type 0} (f : Standing A) (w : A → List ℕ) {sheet : List ℕ} {c : Position} {l : Listed} {o o' : Writer ℕ} {d : ℕ} → ListAt sheet c l
    → Copies (several l.count f) (gather w) sheet l.first o o' d → Copies (listed f) (gather w) sheet c o o' d
copies_listed {A} f w {sheet} {c} h p =
    let e = sym (list_is f sheet c h) in
    record {
      wrote = writes_as p.wrote (ap (λ (q : Part (List A)). gather w q.what) e);
      after = p.after ∙ ap (λ (q : Part (List A)). q.next) e;
      few = omega (arith, p.few, h.first);
    }
