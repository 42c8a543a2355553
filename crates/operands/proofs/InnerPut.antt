-- The context places of inner functions are written with their marks.
use Prim.Native.Nat.{ℕ, ◌+◌, ◌-◌, ◌*◌, ◌≤◌, ◌<◌}
use native.Mathlib.Omega.{arith}
use native.Mathlib.Numerals.{add-one}
use mathlib.Core.Path.{◌≡◌, refl, sym, ap, ◌∙◌}
use mathlib.Core.List.{List, [], ◌∷◌}
use lib.ListN.{length, get_or, drop, drop_of_length-le}
use lib.Seq.{drop-cons}
use Rattle.model.specs.Limits.{most_inner_context, place_width}
use Rattle.model.specs.Lists.{gather}
use Rattle.model.specs.Sheet.{InnerFunction, Place}
use Rattle.model.specs.Reading.{Position}
use Rattle.model.specs.Answer.{place_words}
use Rattle.model.proofs.Gathers.{gather_append}
use Rattle.hir.specs.Words.{Part, wide, place_at, several}
use Rattle.hir.specs.declared.at.List.{List as Listed}
use Rattle.hir.proofs.Widths.{wide_rises}
use Rattle.hir.proofs.Several.{several_next, several_none, first_inside}
use Rattle.writing.specs.declared.Writer.{Writer}
use Rattle.writing.specs.Wrote.{Writes}
use Rattle.writing.proofs.Writing.{writes_as}
use Rattle.copies.proofs.Loops.{Leaves, leaves_all, leaves_then, leaves_none}
use Rattle.std.specs.Prelude.{Option}
use Rattle.hir.specs.declared.Effect.{Effect}
use Rattle.operands.specs.Given.{given_to, word_gives}
use Rattle.operands.specs.Contexts.{places_from, context_at, contexts_of}
use Rattle.operands.specs.Known.{Known, ContextOf}
use Rattle.operands.specs.Marking.{ContextPut, ContextsPut}
use Rattle.operands.proofs.Inner.{context_few, context_places, contexts_length}

-- ---- those of one function
-- k places from c on, with their marks from w on
abbrev pub marked_from : List ℕ → List ℕ → ℕ → Position → ℕ → List Place
marked_from lists ws k c w = places_from ws w (several k (wide place_width place_at) lists c).what

-- n places, of which i are written; the next stands at c, and its mark at w
pub record Putting (lists ws : List ℕ) (n : ℕ) (c₀ : Position) (w₀ : ℕ) (o₀ : Writer ℕ) (i : ℕ) (c : Position) (o : Writer ℕ) : Type 0 where
  pub leaves : Leaves (gather place_words (marked_from lists ws n c₀ w₀)) (gather place_words (marked_from lists ws (n - i) c (w₀ + i))) o₀ o
  pub next : (several (n - i) (wide place_width place_at) lists c).next ≡ (several n (wide place_width place_at) lists c₀).next
  pub few : o.at + place_width * (n - i) ≡ o₀.at + place_width * n

pub putting_start : (lists ws : List ℕ) (n : ℕ) (c : Position) (w : ℕ) (o : Writer ℕ) → Putting lists ws n c w o 0 c o
putting_start lists ws n c w o =
    let z : n - 0 ≡ n = omega arith in
    let y : w + 0 ≡ w = omega arith in
    record { leaves = rw (z, y) (leaves_all (gather place_words (marked_from lists ws n c w)) o); next = rw z refl; few = omega arith }

marked_next : (lists ws : List ℕ) (k : ℕ) (c : Position) (w : ℕ) → 0 < k → marked_from lists ws k c w ≡ word_gives (get_or ws w 0) (place_at lists c) ∷ marked_from lists ws (k - 1) (c + place_width) (w + 1)
unfolding places_from
marked_next lists ws k c w z =
    ap (λ (q : Part (List Place)). places_from ws w q.what) (several_next (wide place_width place_at) lists k c z)
    ∙ ap (λ (i : ℕ). word_gives (get_or ws w 0) (place_at lists c) ∷ marked_from lists ws (k - 1) (c + place_width) i) (sym (add-one w))

marked_none : (lists ws : List ℕ) (k : ℕ) (c : Position) (w : ℕ) → k ≤ 0 → marked_from lists ws k c w ≡ []
unfolding places_from
marked_none lists ws k c w z = ap (λ (q : Part (List Place)). places_from ws w q.what) (several_none (wide place_width place_at) lists k c z)

module _ {lists ws : List ℕ} {n : ℕ} {c₀ : Position} {w₀ : ℕ} {o₀ : Writer ℕ} {i : ℕ} {c : Position} {o : Writer ℕ} (v : Putting lists ws n c₀ w₀ o₀ i c o) where
  -- the place that is next stands in the lists, if all do
  pub putting_inside : i < n → (several n (wide place_width place_at) lists c₀).next ≤ length lists → c + place_width ≤ length lists
  putting_inside z h = first_inside (wide place_width place_at) lists (n - i) c (wide_rises place_width place_at) (omega arith) (omega (arith, v.next, h))

  -- the place p with what its word gives, which is q
  pub putting_turn : i < n → {p q : Place} (given : Option Effect) {o' : Writer ℕ} → p ≡ place_at lists c → ((x : Place) → given_to given x ≡ word_gives (get_or ws (w₀ + i) 0) x) → q ≡ given_to given p
      → Writes (place_words q) o o' → Putting lists ws n c₀ w₀ o₀ (i + 1) (c + place_width) o'
  putting_turn z {p} given e f h r =
      let k : n - (i + 1) ≡ n - i - 1 = omega arith in
      let j : w₀ + (i + 1) ≡ w₀ + i + 1 = omega arith in
      record {
        leaves = rw (k, j)
            (leaves_then v.leaves (writes_as r (ap place_words (h ∙ f p ∙ ap (word_gives (get_or ws (w₀ + i) 0)) e)))
            (ap (gather place_words) (marked_next lists ws (n - i) c (w₀ + i) (omega arith))));
        next = rw k (sym (ap (λ (x : Part (List Place)). x.next) (several_next (wide place_width place_at) lists (n - i) c (omega arith))) ∙ v.next);
        few = omega (arith, v.few, r.wrote.next, z);
      }

  pub putting_end : n ≤ i → Writes (gather place_words (marked_from lists ws n c₀ w₀)) o₀ o
  putting_end z = leaves_none v.leaves (ap (gather place_words) (marked_none lists ws (n - i) c (w₀ + i) (omega arith)))

-- so they were written
pub context_put : {lists ws : List ℕ} {fs : List InnerFunction} {f : ℕ} {l : Listed} {o₀ : Writer ℕ} {i : ℕ} {c : Position} {o : Writer ℕ} → Known lists ws fs → f < length fs → ContextOf lists ws f l
    → Putting lists ws l.count l.first (context_at f) o₀ i c o → l.count ≤ i → ContextPut f lists ws o₀ o
context_put g j h v z = record {
  wrote = λ fs' g' j'. writes_as (putting_end v z) (ap (gather place_words) (context_places g' j' h));
  few = omega (arith, v.few, context_few g j h);
  same = v.leaves.same;
}

-- ---- those of all functions
-- those of functions from k on are left
pub record PuttingAll (lists ws : List ℕ) (count : ℕ) (o₀ : Writer ℕ) (k : ℕ) (o : Writer ℕ) : Type 0 where
  pub leaves : (fs : List InnerFunction) → Known lists ws fs → count ≡ length fs → Leaves (gather place_words (gather (λ (l : List Place). l) (contexts_of ws fs))) (gather place_words (gather (λ (l : List Place). l) (drop k (contexts_of ws fs)))) o₀ o
  pub few : o.at ≤ o₀.at + place_width * most_inner_context * k
  pub same : o.buffer.ghost_name ≡ o₀.buffer.ghost_name
  pub most : k ≤ count

module _ {lists ws : List ℕ} {count : ℕ} {o₀ : Writer ℕ} {k : ℕ} {o : Writer ℕ} (v : PuttingAll lists ws count o₀ k o) where
  pub all_turn : k < count → {o' : Writer ℕ} → ContextPut k lists ws o o' → PuttingAll lists ws count o₀ (k + 1) o'
  all_turn z p = record {
    leaves = λ fs g e. let z' : k < length fs = omega (arith, z, e) in
        leaves_then (v.leaves fs g e) (p.wrote fs g z')
        (ap (λ (x : List (List Place)). gather place_words (gather (λ (l : List Place). l) x)) (drop-cons (contexts_of ws fs) k [] (omega (arith, z', contexts_length ws 0 fs))
        ∙ ap (λ (i : ℕ). get_or (contexts_of ws fs) k [] ∷ drop i (contexts_of ws fs)) (sym (add-one k)))
        ∙ gather_append place_words (get_or (contexts_of ws fs) k []) (gather (λ (l : List Place). l) (drop (k + 1) (contexts_of ws fs))));
    few = omega (arith, v.few, p.few);
    same = p.same ∙ v.same;
    most = omega (arith, z);
  }

  pub all_end : count ≤ k → ContextsPut count lists ws o₀ o
  all_end z = record {
    wrote = λ fs g e. leaves_none (v.leaves fs g e) (ap (λ (x : List (List Place)). gather place_words (gather (λ (l : List Place). l) x)) (drop_of_length-le (contexts_of ws fs) {i = k} (omega (arith, z, e, contexts_length ws 0 fs))));
    few = omega (arith, v.few, v.most, z);
    same = v.same;
  }
