-- The context places of an inner function get their marks.
use Prim.Native.Nat.{ℕ, suc, ◌+◌, ◌-◌, ◌≤◌, ◌<◌}
use native.Mathlib.Omega.{arith}
use native.Mathlib.Decide.{ℕ_discrete}
use mathlib.Core.Path.{◌≡◌, refl, sym, ap, subst, ◌∙◌}
use mathlib.Core.Bool.{Bool, true, false}
use mathlib.Core.List.{List, [], ◌∷◌, map}
use lib.ListN.{length, get_or, set, length-set, length-map}
use lib.Seq.{slice, sets, get_or-set_same, get_or-set_other, ext_get_or}
use lib.Dec.{eqb, leb}
use borrow.Author.Tests.{leb-true, leb-false, ne_eqb}
use Rattle.model.specs.Limits.{most_inner_context, place_width}
use Rattle.model.specs.Lists.{pick, Every}
use Rattle.model.specs.Sheet.{InnerFunction, no_function, IdentifierId, EvaluationOrder, EffectList, Place}
use Rattle.model.specs.Reading.{Position}
use Rattle.model.specs.Traits.{reactive_traits, effect_of, read_effect}
use Rattle.model.specs.Marks.{with_effect, Mark, operand_effects, mark_of, with_mark}
use Rattle.model.specs.Operands.{Ranges}
use Rattle.model.proofs.Traits.{effect-plain}
use Rattle.hir.specs.Numbers.{effect_number}
use Rattle.hir.specs.declared.Effect.{Effect}
use Rattle.hir.specs.Words.{Part, wide, place_at, several}
use Rattle.hir.specs.declared.at.List.{List as Listed}
use Rattle.hir.proofs.Ranges.{effect_number_lem}
use Rattle.hir.proofs.Widths.{wide_rises}
use Rattle.hir.proofs.Several.{several_next, several_none}
use Rattle.workspace.specs.Layout.{STARTS, ENDS, CONTEXTS, PASSED}
use Rattle.workspace.specs.Rows.{Kept}
use Rattle.workspace.proofs.Parts.{slice_take, take-word, drop-word, take_sets, drop_sets, kept_set}
use Rattle.dataflow.proofs.Storing.{Storing, storing_inside, storing_next, storing_done}
use Rattle.operands.specs.Given.{word_gives}
use Rattle.operands.specs.Ranges.{ranges_of}
use Rattle.operands.specs.Contexts.{places_from, context_at, contexts_of}
use Rattle.operands.specs.Known.{places_at, Known, ContextOf}
use Rattle.operands.specs.Marking.{Marking}
use Rattle.operands.proofs.Inner.{context_most, contexts_length, contexts_at}

-- ---- the ranges stay
abbrev ranged : List ℕ → List ℕ → Ranges
ranged s e = record { starts = s; ends = e }

pub ranges_kept : {ws ws' : List ℕ} → Kept CONTEXTS PASSED ws ws' → ranges_of ws' ≡ ranges_of ws
unfolding ranges_of
ranges_kept {ws} {ws'} k =
    ap (λ (s : List ℕ). ranged s (slice ENDS CONTEXTS ws')) (slice_take CONTEXTS STARTS ENDS ws' ws (omega arith) k.low)
    ∙ ap (ranged (slice STARTS ENDS ws)) (slice_take CONTEXTS ENDS CONTEXTS ws' ws (omega arith) k.low)

-- so does what effects say of an identifier
pub mark_kept : {ws ws' : List ℕ} → Kept CONTEXTS PASSED ws ws' → (o : EvaluationOrder) (es : EffectList) (x : IdentifierId) (d : ℕ)
    → mark_of (operand_effects (ranges_of ws').ends o es) x d ≡ mark_of (operand_effects (ranges_of ws).ends o es) x d
mark_kept k o es x d = ap (λ (r : Ranges). mark_of (operand_effects r.ends o es) x d) (ranges_kept k)

-- ---- marks in words
-- a word above an effect's position gives that effect
pub word_marks : (e : ℕ) (p : Place) → e < reactive_traits → word_gives (e + 1) p ≡ with_effect e p
unfolding word_gives
word_marks e p h =
    let n : ¬ (e + 1 ≡ 0) = λ q. omega (arith, q) in
    let m : e + 1 - 1 ≡ e = omega arith in
    ap (λ (b : Bool). pick b p (with_effect (effect_of (e + 1 - 1)) p)) (ne_eqb (e + 1) 0 n) ∙ ap (λ (i : ℕ). with_effect (effect_of i) p) m ∙ ap (λ (i : ℕ). with_effect i p) (effect-plain e h)

-- a place that has a mark is marked as without it
mark_again : (ms : List Mark) (d w : ℕ) (p : Place) → with_mark ms d (word_gives w p) ≡ with_mark ms d p
unfolding with_mark with_effect word_gives
mark_again ms d w p = go (eqb w 0)
  where
    go : (b : Bool) → with_mark ms d (pick b p (with_effect (effect_of (w - 1)) p)) ≡ with_mark ms d p
    go true = refl
    go false = refl

pub marks_again : (ms : List Mark) (d : ℕ) (ws : List ℕ) (at : ℕ) (l : List Place) → map (with_mark ms d) (places_from ws at l) ≡ map (with_mark ms d) l
unfolding places_from
marks_again ms d ws at [] = refl
marks_again ms d ws at (p ∷ l) =
    ap (λ (q : Place). q ∷ map (with_mark ms d) (places_from ws (suc at) l)) (mark_again ms d (get_or ws at 0) p) ∙ ap (λ (m : List Place). with_mark ms d p ∷ m) (marks_again ms d ws (suc at) l)

-- the word of a place's mark, and those of places
abbrev pub mark_word : List Mark → Place → ℕ
mark_word ms p = mark_of ms p.identifier read_effect + 1

abbrev pub mark_words : List Mark → List Place → List ℕ
mark_words ms l = map (mark_word ms) l

-- a place's mark is an effect's position
abbrev pub Small : List Mark → Place → Type 0
Small ms p = mark_of ms p.identifier read_effect < reactive_traits

word_first : (ws : List ℕ) (at v : ℕ) (vs : List ℕ) → at < length ws → get_or (sets (set ws at v) (suc at) vs) at 0 ≡ v
word_first ws at v vs h =
    take-word (suc at) at (set ws at v) (sets (set ws at v) (suc at) vs) (omega arith) (take_sets (suc at) vs (set ws at v) (suc at) (omega arith)) ∙ get_or-set_same ws at v 0 h

-- places whose words were written
pub places_marked : (ms : List Mark) (l : List Place) (ws : List ℕ) (at : ℕ) → Every (Small ms) l → at + length l ≤ length ws → places_from (sets ws at (mark_words ms l)) at l ≡ map (with_mark ms read_effect) l
unfolding places_from with_mark
places_marked ms [] ws at h k = refl
places_marked ms (p ∷ l) ws at h k =
    let e : ℕ = mark_of ms p.identifier read_effect in
    ap (λ (w : ℕ). word_gives w p ∷ places_from (sets (set ws at (e + 1)) (suc at) (mark_words ms l)) (suc at) l) (word_first ws at (e + 1) (mark_words ms l) (omega (arith, k)))
    ∙ ap (λ (q : Place). q ∷ places_from (sets (set ws at (e + 1)) (suc at) (mark_words ms l)) (suc at) l) (word_marks e p h.0)
    ∙ ap (λ (m : List Place). with_effect e p ∷ m) (places_marked ms l (set ws at (e + 1)) (suc at) h.1 (omega (arith, k, length-set ws at (e + 1))))

-- places whose words are the same
pub places_same : (ws ws' : List ℕ) (at : ℕ) (l : List Place) → ((i : ℕ) → i < length l → get_or ws' (at + i) 0 ≡ get_or ws (at + i) 0) → places_from ws' at l ≡ places_from ws at l
unfolding places_from
places_same ws ws' at [] h = refl
places_same ws ws' at (p ∷ l) h =
    let z : at + 0 ≡ at = omega arith in
    let e : get_or ws' at 0 ≡ get_or ws at 0 = subst (λ (i : ℕ). get_or ws' i 0 ≡ get_or ws i 0) z (h 0 (omega arith)) in
    let r : (i : ℕ) → i < length l → get_or ws' (suc at + i) 0 ≡ get_or ws (suc at + i) 0 =
    λ i j. let s : at + suc i ≡ suc at + i = omega arith in subst (λ (x : ℕ). get_or ws' x 0 ≡ get_or ws x 0) s (h (suc i) (omega (arith, j))) in
    ap (λ (w : ℕ). word_gives w p ∷ places_from ws' (suc at) l) e ∙ ap (λ (m : List Place). word_gives (get_or ws at 0) p ∷ m) (places_same ws ws' (suc at) l r)

-- the words of one function's context are not another's
others_same : (ws vs : List ℕ) (k j : ℕ) (l : List Place) → ¬ (j ≡ k) → length vs ≤ most_inner_context → length l ≤ most_inner_context → places_from (sets ws (context_at k) vs) (context_at j) l ≡ places_from ws (context_at j) l
others_same ws vs k j l n few h = places_same ws (sets ws (context_at k) vs) (context_at j) l (λ i b. go i b (leb k j) refl)
  where
    go : (i : ℕ) → i < length l → (b : Bool) → leb k j ≡ b → get_or (sets ws (context_at k) vs) (context_at j + i) 0 ≡ get_or ws (context_at j + i) 0
    go i b true e =
        let a : context_at k + length vs ≤ context_at j + i = omega (arith, n, few, leb-true k j e) in
        drop-word (context_at k + length vs) (context_at j + i) ws (sets ws (context_at k) vs) a (drop_sets (context_at k + length vs) vs ws (context_at k) (omega arith))
    go i b false e =
        let a : context_at j + i < context_at k = omega (arith, b, h, leb-false k j e) in
        take-word (context_at k) (context_at j + i) ws (sets ws (context_at k) vs) a (take_sets (context_at k) vs ws (context_at k) (omega arith))

module _ (ms : List Mark) {lists ws : List ℕ} {fs : List InnerFunction} {k : ℕ} (g : Known lists ws fs) (z : k < length fs) where
  -- the context of function k got its marks, the others stay
  pub contexts_marked : (l : List Place) → l ≡ (get_or fs k no_function).context → Every (Small ms) l
      → contexts_of (sets ws (context_at k) (mark_words ms l)) fs ≡ set (contexts_of ws fs) k (map (with_mark ms read_effect) (get_or (contexts_of ws fs) k []))
  contexts_marked l e s =
      ext_get_or [] (contexts_of ws' fs) (set (contexts_of ws fs) k new) (contexts_length ws' 0 fs ∙ sym (length-set (contexts_of ws fs) k new ∙ contexts_length ws 0 fs))
      (λ j h. let y : j < length fs = omega (arith, h, contexts_length ws' 0 fs) in contexts_at ws' fs j y ∙ go j y (ℕ_discrete j k))
    where
      ws' : List ℕ
      ws' = sets ws (context_at k) (mark_words ms l)

      new : List Place
      new = map (with_mark ms read_effect) (get_or (contexts_of ws fs) k [])

      most : length l ≤ most_inner_context
      most = omega (arith, context_most g z, ap (λ (x : List Place). length x) e)

      count : length (mark_words ms l) ≡ length l
      count = length-map l (mark_word ms)

      go : (j : ℕ) → j < length fs → Dec (j ≡ k) → places_from ws' (context_at j) (get_or fs j no_function).context ≡ get_or (set (contexts_of ws fs) k new) j []
      go j y (yes q) =
          ap (λ (i : ℕ). places_from ws' (context_at i) (get_or fs i no_function).context) q
          ∙ ap (places_from ws' (context_at k)) (sym e)
          ∙ places_marked ms l ws (context_at k) s (omega (arith, most, z, g.count, g.size))
          ∙ sym (marks_again ms read_effect ws (context_at k) l)
          ∙ ap (λ (x : List Place). map (with_mark ms read_effect) (places_from ws (context_at k) x)) e
          ∙ ap (map (with_mark ms read_effect)) (sym (contexts_at ws fs k z))
          ∙ sym (get_or-set_same (contexts_of ws fs) k new [] (omega (arith, z, contexts_length ws 0 fs)))
          ∙ ap (λ (i : ℕ). get_or (set (contexts_of ws fs) k new) i []) (sym q)
      go j y (no n) =
          others_same ws (mark_words ms l) k j (get_or fs j no_function).context n (omega (arith, most, count)) (context_most g y)
          ∙ sym (contexts_at ws fs j y)
          ∙ sym (get_or-set_other (contexts_of ws fs) k j new [] n)

-- ---- one mark after another
abbrev places_of : List ℕ → ℕ → Position → List Place
places_of lists k c = (several k (wide place_width place_at) lists c).what

-- i of n marks are set, from word w on; the next place stands at c
pub record Setting (ms : List Mark) (lists ws₀ : List ℕ) (n : ℕ) (c₀ : Position) (w : ℕ) (ws : List ℕ) (i : ℕ) (c : Position) : Type 0 where
  pub storing : Storing (wide place_width place_at) (mark_word ms) lists n c₀ w ws₀ (n - i) c (w + i) ws
  pub small : Every (Small ms) (places_of lists (n - i) c) → Every (Small ms) (places_of lists n c₀)
  pub kept : Kept CONTEXTS PASSED ws₀ ws

module _ {ms : List Mark} {lists ws₀ : List ℕ} {n : ℕ} {c₀ : Position} {w : ℕ} {ws : List ℕ} {i : ℕ} {c : Position} (v : Setting ms lists ws₀ n c₀ w ws i c) where
  -- the place that is next stands in the lists, if all do
  pub setting_inside : i < n → (several n (wide place_width place_at) lists c₀).next ≤ length lists → c + place_width ≤ length lists
  setting_inside z h = storing_inside v.storing (wide_rises place_width place_at) (omega arith) h

  -- the mark m of place p, whose number is k
  pub setting_turn : i < n → CONTEXTS ≤ w → w + i < PASSED → {p : Place} (m : Effect) {k : ℕ} → p ≡ place_at lists c → effect_number m ≡ mark_of ms p.identifier read_effect → k ≡ effect_number m
      → Setting ms lists ws₀ n c₀ w (set ws (w + i) (k + 1)) (i + 1) (c + place_width)
  setting_turn z lo hi {p} m {k} e h q =
      let all = several_next (wide place_width place_at) lists (n - i) c (omega arith) in
      let here : effect_number m ≡ mark_of ms (place_at lists c).identifier read_effect = h ∙ ap (λ (x : Place). mark_of ms x.identifier read_effect) e in
      let less : n - (i + 1) ≡ n - i - 1 = omega arith in
      let more : w + (i + 1) ≡ w + i + 1 = omega arith in
      record {
        storing = rw more (storing_next v.storing (omega arith) (ap (λ (j : ℕ). j + 1) (q ∙ here)) refl less);
        small = rw less (λ s. v.small (subst (λ (x : Part (List Place)). Every (Small ms) x.what) (sym all) (omega (arith, effect_number_lem m, here), s)));
        kept = kept_set v.kept (w + i) (k + 1) (omega (arith, lo)) hi;
      }

-- all got their marks
pub context_marks : {ms : List Mark} {lists ws₀ : List ℕ} {f : ℕ} {l : Listed} {ws : List ℕ} {i : ℕ} {c : Position} → ContextOf lists ws₀ f l
    → Setting ms lists ws₀ l.count l.first (context_at f) ws i c → l.count ≤ i → Marking ms f lists ws₀ ws
context_marks {ms} {lists} {l = l} {i = i} {c} h v z =
    let none = several_none (wide place_width place_at) lists (l.count - i) c (omega arith) in
    let small : Every (Small ms) (places_at lists l).what = v.small (subst (λ (x : Part (List Place)). Every (Small ms) x.what) (sym none) tt) in
    record {
      contexts = λ fs g j. ap (λ (x : List ℕ). contexts_of x fs) (storing_done v.storing (omega arith)).words ∙ contexts_marked ms g j (places_at lists l).what (h.is fs g j) small;
      kept = v.kept;
    }
