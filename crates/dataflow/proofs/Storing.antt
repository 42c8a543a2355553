-- The loop that stores a word of each part of a list.
use Prim.Native.Nat.{ℕ, suc, ◌+◌, ◌-◌, ◌*◌, ◌≤◌, ◌<◌}
use native.Mathlib.Omega.{arith}
use native.Mathlib.Numerals.{add-one}
use mathlib.Core.Path.{◌≡◌, refl, sym, ap, subst, ◌∙◌}
use mathlib.Core.List.{List, map}
use lib.ListN.{length, set, length-set}
use lib.Seq.{sets}
use Rattle.model.specs.Reading.{Position}
use Rattle.hir.specs.declared.at.List.{List as Listed}
use Rattle.hir.specs.Words.{Part, Standing, diagnostic_at, several, placed, diagnostics_from, function_from}
use Rattle.model.specs.Limits.{place_width, diagnostic_width}
use Rattle.hir.specs.Parts.{ListAt}
use Rattle.hir.proofs.Widths.{Rises, places_rise, function_follows}
use Rattle.hir.proofs.Several.{several_next, first_inside, several_none, placed_next, list_end}
use Rattle.hir.proofs.Values.{list_as}
use Rattle.hir.proofs.Values.{list_end as places_end}
use Rattle.dataflow.specs.Read.{stands_at, Stores}

-- what is left to store from `to` on makes what was to be stored; k₀ parts from c₀ on, with k of them left from c on
module _ {A : Type 0} (f : Standing A) (word : A → ℕ) (sheet : List ℕ) where
  pub record Storing (k₀ : ℕ) (c₀ : Position) (to₀ : ℕ) (ws₀ : List ℕ) (k : ℕ) (c : Position) (to : ℕ) (ws : List ℕ) : Type 0 where
    pub words : sets ws to (map word (several k f sheet c).what) ≡ sets ws₀ to₀ (map word (several k₀ f sheet c₀).what)
    pub next : (several k f sheet c).next ≡ (several k₀ f sheet c₀).next
    pub number : to + k ≡ to₀ + k₀
    pub same : length ws ≡ length ws₀

  pub storing-start : (k : ℕ) (c : Position) (to : ℕ) (ws : List ℕ) → Storing k c to ws k c to ws
  storing-start k c to ws = record { words = refl; next = refl; number = refl; same = refl }

  -- the same, by another count of as many
  pub storing_all : (k : ℕ) (c : Position) (to : ℕ) (ws : List ℕ) {j : ℕ} → j ≡ k → Storing k c to ws j c to ws
  storing_all k c to ws e = subst (λ (j : ℕ). Storing k c to ws j c to ws) (sym e) (storing-start k c to ws)

module _ {A : Type 0} {f : Standing A} {word : A → ℕ} {sheet : List ℕ} {k₀ : ℕ} {c₀ : Position} {to₀ : ℕ} {ws₀ : List ℕ} {k : ℕ} {c : Position} {to : ℕ} {ws : List ℕ}
    (v : Storing f word sheet k₀ c₀ to₀ ws₀ k c to ws) where
  -- the next part stands in the sheet, if all do
  pub storing_inside : Rises f → 0 < k → (several k₀ f sheet c₀).next ≤ length sheet → (f sheet c).next ≤ length sheet
  storing_inside r h i = first_inside f sheet k c r h (omega (arith, v.next, i))

  pub storing_turn : 0 < k → {w : ℕ} {c' : Position} → w ≡ word (f sheet c).what → c' ≡ (f sheet c).next → Storing f word sheet k₀ c₀ to₀ ws₀ (k - 1) c' (to + 1) (set ws to w)
  storing_turn h {w} {c'} e n =
      let first = several_next f sheet k c h in
      let rest : ℕ → List ℕ → List ℕ = λ i l. sets l i (map word (several (k - 1) f sheet (f sheet c).next).what) in
      record {
        words =
            ap (λ (d : Position). sets (set ws to w) (to + 1) (map word (several (k - 1) f sheet d).what)) n
            ∙ ap (λ (i : ℕ). rest i (set ws to w)) (add-one to)
            ∙ ap (λ (x : ℕ). rest (suc to) (set ws to x)) e
            ∙ ap (λ (p : Part (List A)). sets ws to (map word p.what)) (sym first) ∙ v.words;
        next = ap (λ (d : Position). (several (k - 1) f sheet d).next) n ∙ ap (λ (p : Part (List A)). p.next) (sym first) ∙ v.next;
        number = omega (arith, v.number, h);
        same = length-set ws to w ∙ v.same;
      }

  pub storing_next : 0 < k → {w : ℕ} {c' : Position} → w ≡ word (f sheet c).what → c' ≡ (f sheet c).next → {j : ℕ} → j ≡ k - 1 → Storing f word sheet k₀ c₀ to₀ ws₀ j c' (to + 1) (set ws to w)
  storing_next h {w} {c'} e n q = subst (λ (j : ℕ). Storing f word sheet k₀ c₀ to₀ ws₀ j c' (to + 1) (set ws to w)) (sym q) (storing_turn h e n)

pub storing_done : {A : Type 0} {f : Standing A} {word : A → ℕ} {sheet : List ℕ} {l : Listed} {to₀ : ℕ} {ws₀ : List ℕ} {k : ℕ} {c : Position} {to : ℕ} {ws : List ℕ}
    → Storing f word sheet l.count l.first to₀ ws₀ k c to ws → k ≤ 0 → Stores f word l to₀ sheet ws₀ ws c
storing_done {A} {f} {word} {sheet} {k = k} {c} {to} {ws} v h =
    let none = several_none f sheet k c h in
    record {
      words = ap (λ (p : Part (List A)). sets ws to (map word p.what)) (sym none) ∙ v.words;
      next = ap (λ (p : Part (List A)). p.next) (sym none) ∙ v.next;
    }

-- an inner function: its context stands behind its diagnostics, and it ends behind both
module _ (sheet : List ℕ) (c : Position) {l : Listed} (h : ListAt sheet c l) where
  diagnostics_end : l.first + diagnostic_width * l.count ≡ (diagnostics_from sheet c).next
  diagnostics_end = omega (arith, list_end diagnostic_width diagnostic_at sheet c h)

  pub context_begin : l.first + diagnostic_width * l.count + 1 ≤ (function_from sheet c).next
  unfolding function_from
  context_begin = omega (arith, diagnostics_end, places_rise sheet (diagnostics_from sheet c).next)

  pub function_end : {d : Position} {m : Listed} → d ≡ l.first + diagnostic_width * l.count → ListAt sheet d m → m.first + place_width * m.count ≡ (function_from sheet c).next
  unfolding function_from
  function_end e k = places_end sheet (diagnostics_from sheet c).next (list_as k (e ∙ diagnostics_end))

-- the next inner function stands in the sheet, if all do
pub function_inside : {sheet : List ℕ} {k₀ : ℕ} {c₀ : Position} {to₀ : ℕ} {ws₀ : List ℕ} {k : ℕ} {c : Position} {to : ℕ} {ws : List ℕ} → Storing (placed function_from) stands_at sheet k₀ c₀ to₀ ws₀ k c to ws
    → 0 < k → (several k₀ function_from sheet c₀).next ≤ length sheet → (function_from sheet c).next ≤ length sheet
function_inside {sheet} {k₀} {c₀} v h i = storing_inside v function_follows h (omega (arith, placed_next function_from sheet k₀ c₀, i))
