-- What the pass begins on: the starts over cleared words, the ends, and contexts without a mark.
use Prim.Native.Nat.{ℕ, zero, suc, ◌+◌, ◌-◌, ◌≤◌, ◌<◌}
use native.Mathlib.Omega.{arith}
use mathlib.Core.Path.{◌≡◌, refl, sym, ap, ◌∙◌}
use mathlib.Core.List.{List, [], ◌∷◌, ◌++◌, map}
use lib.ListN.{length, get_or, drop, replicate, length-replicate, length-map}
use lib.Seq.{sets, slice, length-sets, length-slice, take_all}
use Rattle.model.specs.Limits.{most_identifiers, most_functions, most_inner_context, identifier_width}
use Rattle.model.specs.Lists.{Every}
use Rattle.model.specs.Sheet.{Identifier, InnerFunction, Place}
use Rattle.model.specs.Operands.{sheet_starts}
use Rattle.hir.specs.Words.{wide, identifier_at}
use Rattle.hir.specs.declared.at.List.{List as Listed}
use Rattle.hir.proofs.Several.{several-length}
use Rattle.workspace.specs.Layout.{LEAST, END, SEEN, STARTS, ENDS, CONTEXTS, PASSED}
use Rattle.workspace.specs.Rows.{Kept}
use Rattle.workspace.specs.Sort.{clear_w}
use Rattle.workspace.proofs.Parts.{slice_slice, slice_split, slice_take, slice_drop, slice_sets, take_sets, drop_sets, kept_then}
use Rattle.workspace.proofs.Clearing.{kept_clear, clear_at}
use Rattle.operands.specs.Ranges.{ranges_of}
use Rattle.operands.specs.Given.{word_gives}
use Rattle.operands.specs.Contexts.{places_from, context_at, contexts_from}
use Rattle.operands.specs.Begun.{identifiers_in, start_of, Begun}

-- ---- words over cleared words
drop_zeros : (k n : ℕ) → drop {A = ℕ} k (replicate n 0) ≡ replicate (n - k) 0
drop_zeros zero n = let e : n ≡ n - 0 = omega arith in ap (λ (m : ℕ). replicate m 0) e
drop_zeros (suc k) zero = let e : 0 ≡ 0 - suc k = omega arith in ap (λ (m : ℕ). replicate m 0) e
drop_zeros (suc k) (suc n) = let e : n - k ≡ suc n - suc k = omega arith in drop_zeros k n ∙ ap (λ (m : ℕ). replicate m 0) e

pub over_cleared : (ws : List ℕ) (f n t : ℕ) (vs : List ℕ) → f + n ≡ t → t ≤ length ws → length vs ≤ n → slice f t (sets (clear_w ws f n) f vs) ≡ vs ++ replicate (n - length vs) 0
unfolding clear_w
over_cleared ws f n t vs e h m =
    let k : ℕ = length vs in
    let zs : List ℕ = replicate n 0 in
    let l : List ℕ = sets ws f zs in
    let z : length zs ≡ n = length-replicate {A = ℕ} n 0 in
    let s : length l ≡ length ws = length-sets ws f zs in
    let u : length (sets l f vs) ≡ length l = length-sets l f vs in
    slice_split f (f + k) t (sets l f vs) (omega arith) (omega (arith, e, m)) (omega (arith, e, h, m, s, u))
    ∙ ap (λ (r : List ℕ). r ++ slice (f + k) t (sets l f vs)) (slice_sets vs l f (f + k) refl (omega (arith, e, h, m, s)))
    ∙ ap (λ (r : List ℕ). vs ++ r)
    (slice_drop (f + k) (f + k) t (sets l f vs) l (omega arith) (omega (arith, e, m)) (drop_sets (f + k) vs l f (omega arith))
    ∙ ap (λ (i : ℕ). slice (f + k) i l) (sym e)
    ∙ sym (slice_slice f t k n l (omega (arith, e)) (omega (arith, h, s)))
    ∙ ap (slice k n) (slice_sets zs ws f t (omega (arith, e, z)) h)
    ∙ ap (drop k) (take_all n zs (omega (arith, z)))
    ∙ drop_zeros k n)

kept_sets : (ws : List ℕ) (at : ℕ) (vs : List ℕ) → Kept at (at + length vs) ws (sets ws at vs)
kept_sets ws at vs = record { low = take_sets at vs ws at (omega arith); high = drop_sets (at + length vs) vs ws at (omega arith); same = length-sets ws at vs }

-- ---- no marks
-- the words of the marks are 0
abbrev pub Unmarked : List ℕ → Type 0
Unmarked ws = (i : ℕ) → CONTEXTS ≤ i → i < PASSED → get_or ws i 0 ≡ 0

places_stay : (ws : List ℕ) (at : ℕ) (l : List Place) → Unmarked ws → CONTEXTS ≤ at → at + length l ≤ PASSED → places_from ws at l ≡ l
unfolding places_from word_gives
places_stay ws at [] u b h = refl
places_stay ws at (p ∷ l) u b h =
    ap (λ (w : ℕ). word_gives w p ∷ places_from ws (suc at) l) (u at b (omega (arith, h)))
    ∙ ap (λ (r : List Place). p ∷ r) (places_stay ws (suc at) l u (omega (arith, b)) (omega (arith, h)))

pub contexts_stay : (ws : List ℕ) → Unmarked ws → (k : ℕ) (fs : List InnerFunction) → k + length fs ≤ most_functions → Every (λ (f : InnerFunction). length f.context ≤ most_inner_context) fs
    → contexts_from ws k fs ≡ map (λ (f : InnerFunction). f.context) fs
unfolding contexts_from
contexts_stay ws u k [] h e = refl
contexts_stay ws u k (f ∷ fs) h e =
    ap (λ (l : List Place). l ∷ contexts_from ws (suc k) fs) (places_stay ws (context_at k) f.context u (omega arith) (omega (arith, h, e.0)))
    ∙ ap (λ (r : List (List Place)). f.context ∷ r) (contexts_stay ws u (suc k) fs (omega (arith, h)) e.1)

pub unmarked_cleared : (ws : List ℕ) → PASSED ≤ length ws → Unmarked (clear_w ws CONTEXTS (PASSED - CONTEXTS))
unmarked_cleared ws h i b e =
    let q : i ≡ CONTEXTS + (i - CONTEXTS) = omega (arith, b) in
    ap (λ (j : ℕ). get_or (clear_w ws CONTEXTS (PASSED - CONTEXTS)) j 0) q ∙ clear_at ws CONTEXTS (PASSED - CONTEXTS) (i - CONTEXTS) (omega (arith, h)) (omega (arith, b, e))

-- ---- all of it: starts cleared and stored, ends copied, marks cleared
pub begun : (ids : List Identifier) {ws ws₁ ws₂ ws₃ ws₄ : List ℕ} → length ids ≤ most_identifiers → LEAST ≤ length ws → ws₁ ≡ clear_w ws STARTS most_identifiers
    → ws₂ ≡ sets ws₁ STARTS (map start_of ids) → ws₃ ≡ sets ws₂ ENDS (slice END SEEN ws₂) → ws₄ ≡ clear_w ws₃ CONTEXTS (PASSED - CONTEXTS) → Begun ids ws ws₄
unfolding ranges_of sheet_starts
begun ids {ws} {ws₁} {ws₂} {ws₃} {ws₄} m h e₁ e₂ e₃ e₄ =
    let vs : List ℕ = map start_of ids in
    let es : List ℕ = slice END SEEN ws₂ in
    let n : length vs ≡ length ids = length-map ids start_of in
    let k₁ : Kept STARTS (STARTS + most_identifiers) ws ws₁ = rw e₁ (kept_clear ws STARTS most_identifiers) in
    let k₂ : Kept STARTS (STARTS + length vs) ws₁ ws₂ = rw e₂ (kept_sets ws₁ STARTS vs) in
    let k : Kept STARTS ENDS ws ws₂ = kept_then STARTS ENDS k₁ k₂ (omega arith) (omega arith) (omega arith) (omega (arith, n, m)) in
    let l : length es ≡ SEEN - END = length-slice END SEEN ws₂ (omega (arith, h, k.same)) in
    let k₃ : Kept ENDS (ENDS + length es) ws₂ ws₃ = rw e₃ (kept_sets ws₂ ENDS es) in
    let k₄ : Kept CONTEXTS (CONTEXTS + (PASSED - CONTEXTS)) ws₃ ws₄ = rw e₄ (kept_clear ws₃ CONTEXTS (PASSED - CONTEXTS)) in
    let j : Kept ENDS PASSED ws₂ ws₄ = kept_then ENDS PASSED k₃ k₄ (omega arith) (omega arith) (omega (arith, l)) (omega arith) in
    record {
      starts =
          slice_take ENDS STARTS ENDS ws₄ ws₂ (omega arith) j.low
          ∙ ap (slice STARTS ENDS) (e₂ ∙ ap (λ (w : List ℕ). sets w STARTS vs) e₁)
          ∙ over_cleared ws STARTS most_identifiers ENDS vs (omega arith) (omega (arith, h)) (omega (arith, n, m))
          ∙ ap (λ (i : ℕ). vs ++ replicate (most_identifiers - i) 0) n;
      ends =
          slice_take CONTEXTS ENDS CONTEXTS ws₄ ws₃ (omega arith) k₄.low
          ∙ ap (slice ENDS CONTEXTS) e₃
          ∙ slice_sets es ws₂ ENDS CONTEXTS (omega (arith, l)) (omega (arith, h, k.same))
          ∙ slice_take STARTS END SEEN ws₂ ws (omega arith) k.low;
      contexts = λ fs c i. contexts_stay ws₄ (rw e₄ (unmarked_cleared ws₃ (omega (arith, h, k.same, k₃.same)))) 0 fs (omega (arith, c)) i;
      kept = kept_then STARTS PASSED k j (omega arith) (omega arith) (omega arith) (omega arith);
    }

-- no more identifiers than their count
pub identifiers_few : (sheet : List ℕ) (l : Listed) → l.count ≤ most_identifiers → length (identifiers_in sheet l).what ≤ most_identifiers
identifiers_few sheet l h = omega (arith, h, several-length (wide identifier_width identifier_at) sheet l.count l.first)
