-- A search among the predecessors' numbers, over the words of each operand in turn.
use Rattle.std.specs.Prelude.{IfSome, IsSomeAnd, MatchBool, Option, Some, None, slice_range}
use Rattle.std.specs.Option.{option_map}
use Rattle.std.specs.List.{IsSubsliceAt}
use Rattle.std.proofs.lemmas.List.{get_or-take, get_or-drop, length-take, length-drop}
use Rattle.std.proofs.Math.Bool.{or-true}
use Prim.Native.Nat.{ℕ, zero, suc, ◌+◌, ◌-◌, ◌*◌, ◌/◌, ◌≤◌, ◌<◌}
use native.Mathlib.Omega.{arith}
use mathlib.Core.Path.{◌≡◌, ◌∙◌, refl, sym, ap}
use mathlib.Core.Bool.{Bool, true, false, ◌||◌}
use mathlib.Core.List.{List}
use lib.ListN.{length, get_or, drop}
use lib.Dec.{eqb, ltb}
use borrow.Author.Tests.{eq-eqb, ne_eqb, ltb-true, ltb-false}
use Rattle.model.specs.Lists.{among}
use Rattle.model.specs.Reading.{Position}
use Rattle.reading.specs.Operands.{Whole, first_predecessors, predecessors}

-- the number of the k-th operand
abbrev number_of : List ℕ → Position → ℕ → ℕ
number_of ws from k = get_or ws (from + 4 * k) 0

module _ (ws : List ℕ) (from : Position) (x : ℕ) where
  some_first : (n k : ℕ) → k < n → number_of ws from k ≡ x → among x (first_predecessors ws from n) ≡ true
  unfolding first_predecessors
  some_first zero k h e = absurd (omega (arith, h))
  some_first (suc n) k h e = go (ltb k n) refl (λ l. some_first n k l e)
    where
      go : (b : Bool) → ltb k n ≡ b → (k < n → among x (first_predecessors ws from n) ≡ true) → eqb x (number_of ws from n) || among x (first_predecessors ws from n) ≡ true
      go true q rest = rw (rest (ltb-true k n q)) (or-true _)
      go false q rest = let l : n ≤ k = ltb-false k n q in let z : k ≡ n = omega arith in rw (eq-eqb x (number_of ws from n) (sym e ∙ ap (number_of ws from) z))

  none_first : (n : ℕ) → ((k : ℕ) → k < n → ¬ (number_of ws from k ≡ x)) → among x (first_predecessors ws from n) ≡ false
  unfolding first_predecessors
  none_first zero h = refl
  none_first (suc n) h = rw (ne_eqb x (number_of ws from n) (λ e. h n (omega arith) (sym e))) (none_first n (λ k l. h k (omega arith)))

-- the operands from `from` up to `to`, four words of the sheet at each step
module _ {A : Type 0} (ws : List ℕ) (from to : Position) (x : ℕ) (whole : Whole from to) (at : ℕ → Option A) (words : A → List ℕ)
    (part : (k : ℕ) → IfSome (at k) (λ y. IsSubsliceAt 4 (slice_range ws from to) (k * 4) (words y))) where
  first_word : (k : ℕ) (y : A) → at k ≡ Some y → k < (to - from) / 4 → get_or (words y) 0 0 ≡ number_of ws from k
  first_word k y e h =
      let s : IsSubsliceAt 4 (slice_range ws from to) (k * 4) (words y) = rw e at (part k) in
      s.2 0 0 (omega arith)
      ∙ get_or-take (to - from) (drop from ws) (k * 4 + 0) 0 (omega (arith, h))
      ∙ get_or-drop from ws (k * 4 + 0) 0
      ∙ ap (λ (i : Position). get_or ws i 0) (omega arith)

  -- one of them has the number
  pub some_found : (Yes : A → Type 0) → ((y : A) → Yes y → get_or (words y) 0 0 ≡ x) → (k : ℕ) → k < (to - from) / 4 → IsSomeAnd (at k) Yes → among x (predecessors ws from to) ≡ true
  unfolding predecessors
  some_found Yes gives k h q = go (at k) refl q
    where
      go : (o : Option A) → at k ≡ o → IsSomeAnd o Yes → among x (first_predecessors ws from ((to - from) / 4)) ≡ true
      go None e q = absurd q
      go (Some y) e q = some_first ws from x ((to - from) / 4) k h (sym (first_word k y e h) ∙ gives y q)

  -- none of them has it
  pub none_found : (No : A → Type 0) → ((y : A) → No y → ¬ (get_or (words y) 0 0 ≡ x)) → ((k : ℕ) → k < (to - from) / 4 → (y : A) × (option_map (λ (z : A). z) (at k) ≡ Some y)) → ((k : ℕ) → IfSome (at k) No) → among x (predecessors ws from to) ≡ false
  unfolding predecessors
  none_found No denies there all = none_first ws from x ((to - from) / 4) (λ k h e. go (at k) refl (all k) (there k h) h e)
    where
      go : (o : Option A) {k : ℕ} → at k ≡ o → IfSome o No → (y : A) × (option_map (λ (z : A). z) o ≡ Some y) → k < (to - from) / 4 → number_of ws from k ≡ x → ⊥
      go None e q s h n = let z : ◌≡◌ {A = ℕ} 0 1 = cc s.1 in absurd (omega arith)
      go (Some y) {k} e q s h n = denies y q (first_word k y e h ∙ n)

-- the answer by cases
pub answer_by : {P Q : Type 0} (r : Bool) {s : Bool} → MatchBool r P Q → (P → s ≡ true) → (Q → s ≡ false) → r ≡ s
answer_by true h f g = sym (f h)
answer_by false h f g = sym (g h)

-- how many words there are from one position up to another
pub length_between : (ws : List ℕ) (from to : Position) → to ≤ length ws → length (slice_range ws from to) ≡ to - from
length_between ws from to h = simp (length-take, length-drop) (omega (arith, h))
