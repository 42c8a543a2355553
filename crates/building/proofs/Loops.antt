-- The loops over a log.
use Prim.Native.Nat.{ℕ, suc, ◌+◌, ◌≤◌, ◌<◌}
use native.Mathlib.Omega.{arith}
use native.Mathlib.Nat.{add-zero}
use native.Mathlib.Decide.{ℕ_discrete}
use mathlib.Core.Bool.{Bool, true, false, ◌||◌, true≢false}
use Rattle.std.specs.List.{between, list_any, fold}
use Rattle.std.proofs.lemmas.Slice.{between_is}
use lib.Dec.{eqb}
use mathlib.Core.List.{List, [], ◌∷◌, ◌++◌, append-nil}
use mathlib.Core.Path.{◌≡◌, refl, sym, ap, ◌∙◌}
use lib.ListN.{length, get_or, set, drop}
use lib.Seq.{slice, slice-cons, slice_empty, drop-set-lt, append_snoc}
use borrow.Author.Tests.{eq-eqb, ne_eqb}
use Rattle.model.specs.Lists.{pick}
use Rattle.workspace.specs.Rows.{Kept}
use Rattle.workspace.proofs.Parts.{drop_more, drop-word, slice_split, slice_push, kept_none, kept_set}
use Rattle.building.specs.Logs.{owner_w, owns_w, without, any_p}
use Rattle.building.specs.Held.{Others, Left}

-- ---- a test of the words of a part, by the library's names
any_list : (test : ℕ → Bool) (l : List ℕ) → list_any test l ≡ any_p test l
unfolding any_p
any_list test [] = refl
any_list test (v ∷ l) = go (test v) (any_list test l)
  where
    go : (b : Bool) → list_any test l ≡ any_p test l → (b || list_any test l) ≡ pick b true (any_p test l)
    go true e = refl
    go false e = e

pub any_part : (test : ℕ → Bool) (at n : ℕ) (ws : List ℕ) → list_any test (between at (at + n) ws) ≡ any_p test (slice at (at + n) ws)
any_part test at n ws = ap (list_any test) (between_is ws at (at + n)) ∙ any_list test (slice at (at + n) ws)

fold_list : (test : ℕ → Bool) (found : Bool) (l : List ℕ) → fold (λ (b : Bool) (w : ℕ). b || test w) found l ≡ (found || list_any test l)
fold_list test false [] = refl
fold_list test true [] = refl
fold_list test false (v ∷ l) = fold_list test (test v) l
fold_list test true (v ∷ l) = fold_list test true l

pub fold_part : (test : ℕ → Bool) (at n : ℕ) (ws : List ℕ) → fold (λ (b : Bool) (w : ℕ). b || test w) false (between at (at + n) ws) ≡ any_p test (slice at (at + n) ws)
fold_part test at n ws = fold_list test false (between at (at + n) ws) ∙ any_part test at n ws

-- a word among them
equal_turned : (v w : ℕ) → eqb w v ≡ eqb v w
equal_turned v w = go (ℕ_discrete w v)
  where
    go : Dec (w ≡ v) → eqb w v ≡ eqb v w
    go (yes e) = eq-eqb w v e ∙ sym (eq-eqb v w (sym e))
    go (no e) = ne_eqb w v e ∙ sym (ne_eqb v w (λ p. e (sym p)))

any_turned : (v : ℕ) (l : List ℕ) → any_p (λ (w : ℕ). eqb w v) l ≡ any_p (eqb v) l
unfolding any_p
any_turned v [] = refl
any_turned v (w ∷ l) = ap (λ (b : Bool). pick b true (any_p (λ (u : ℕ). eqb u v) l)) (equal_turned v w) ∙ ap (pick (eqb v w) true) (any_turned v l)

pub contains_part : (v at n : ℕ) (ws : List ℕ) → list_any (λ (w : ℕ). eqb w v) (between at (at + n) ws) ≡ any_p (eqb v) (slice at (at + n) ws)
contains_part v at n ws = any_part (λ (w : ℕ). eqb w v) at n ws ∙ any_turned v (slice at (at + n) ws)

-- of no words none is it
pub none_in : (v at n : ℕ) (ws : List ℕ) → n ≡ 0 → false ≡ any_p (eqb v) (slice at (at + n) ws)
unfolding any_p
none_in v at n ws e =
    let q : at + n ≡ at = omega (arith, e) in
    sym (ap (λ (t : ℕ). any_p (eqb v) (slice at t ws)) q ∙ ap (any_p (eqb v)) (slice_empty at ws))

-- ---- words at the front of which none passes the test
pub none_both : (test : ℕ → Bool) (l m : List ℕ) → any_p test l ≡ false → any_p test m ≡ false → any_p test (l ++ m) ≡ false
unfolding any_p
none_both test [] m p q = q
none_both test (v ∷ l) m p q = go (none_both test l m) (test v) p
  where
    go : (any_p test l ≡ false → any_p test m ≡ false → any_p test (l ++ m) ≡ false) → (b : Bool) → pick b true (any_p test l) ≡ false → pick b true (any_p test (l ++ m)) ≡ false
    go ih true e = e
    go ih false e = ih e q

without_others : (t x : ℕ) (l m : List ℕ) → any_p (owns_w t x) l ≡ false → without t x (l ++ m) ≡ l ++ without t x m
unfolding any_p without
without_others t x [] m p = refl
without_others t x (w ∷ l) m p = go (without_others t x l m) (owns_w t x w) p
  where
    go : (any_p (owns_w t x) l ≡ false → without t x (l ++ m) ≡ l ++ without t x m) → (b : Bool) → pick b true (any_p (owns_w t x) l) ≡ false
        → pick b (without t x (l ++ m)) (w ∷ without t x (l ++ m)) ≡ w ∷ (l ++ without t x m)
    go ih true e = absurd (true≢false e)
    go ih false e = ap (λ (r : List ℕ). w ∷ r) (ih e)

module _ (test : ℕ → Bool) (at n : ℕ) (ws : List ℕ) where
  pub others_start : Others test at n ws 0
  unfolding any_p
  others_start = record { none = rw (add-zero at, slice_empty at ws); few = omega arith }

  pub others_turn : (i m : ℕ) → at + n ≤ length ws → Others test at n ws i → i + m ≤ n → false ≡ any_p test (slice (at + i) (at + i + m) ws) → Others test at n ws (i + m)
  others_turn i m size o h e =
      let q : at + (i + m) ≡ at + i + m = omega arith in
      record {
        none = ap (λ (j : ℕ). any_p test (slice at j ws)) q ∙ ap (any_p test) (slice_split at (at + i) (at + i + m) ws (omega arith) (omega arith) (omega (arith, size, h)))
            ∙ none_both test (slice at (at + i) ws) (slice (at + i) (at + i + m) ws) o.none (sym e);
        few = h;
      }

-- ---- taking out the words of x
pub record Leaving (ws₀ : List ℕ) (t at n x : ℕ) (ws : List ℕ) (i k : ℕ) : Type 0 where
  pub fits : at + n ≤ length ws₀
  pub mid : i ≤ n
  pub low : k ≤ i
  pub kept : Kept at (at + n) ws₀ ws
  pub ahead : drop (at + i) ws ≡ drop (at + i) ws₀
  pub done : slice at (at + k) ws ++ without t x (slice (at + i) (at + n) ws₀) ≡ without t x (slice at (at + n) ws₀)

pub leave_start : (ws : List ℕ) (t at n x : ℕ) → at + n ≤ length ws → (r : ℕ) → Others (owns_w t x) at n ws r → Leaving ws t at n x ws r r
leave_start ws t at n x h r o = record {
  fits = h;
  mid = o.few;
  low = omega arith;
  kept = kept_none at (at + n) ws;
  ahead = refl;
  done = sym (ap (without t x) (slice_split at (at + r) (at + n) ws (omega arith) (omega (arith, o.few)) (omega (arith, h, o.few))) ∙ without_others t x (slice at (at + r) ws) (slice (at + r) (at + n) ws) o.none);
}

module _ (ws₀ : List ℕ) (t at n x : ℕ) (ws : List ℕ) (i k : ℕ) (c : Leaving ws₀ t at n x ws i k) (h : i < n) where
  word_is : get_or ws (at + i) 0 ≡ get_or ws₀ (at + i) 0
  word_is = drop-word (at + i) (at + i) ws₀ ws (omega arith) c.ahead

  front : slice (at + i) (at + n) ws₀ ≡ get_or ws (at + i) 0 ∷ slice (at + (i + 1)) (at + n) ws₀
  front =
      let q : at + (i + 1) ≡ suc (at + i) = omega arith in
      slice-cons (at + i) (at + n) ws₀ 0 (omega arith) c.fits ∙ ap (λ (j : ℕ). get_or ws₀ (at + i) 0 ∷ slice j (at + n) ws₀) (sym q)
      ∙ ap (λ (v : ℕ). v ∷ slice (at + (i + 1)) (at + n) ws₀) (sym word_is)

  later : drop (at + (i + 1)) ws ≡ drop (at + (i + 1)) ws₀
  later = drop_more (at + i) (at + (i + 1)) ws ws₀ (omega arith) c.ahead

  pub leave_drop : owner_w t (get_or ws (at + i) 0) ≡ x → Leaving ws₀ t at n x ws (i + 1) k
  leave_drop e = record {
    fits = c.fits;
    mid = omega arith;
    low = omega (arith, c.low);
    kept = c.kept;
    ahead = later;
    done = ap (λ (l : List ℕ). slice at (at + k) ws ++ l) (sym gone) ∙ c.done;
  }
    where
      gone : without t x (slice (at + i) (at + n) ws₀) ≡ without t x (slice (at + (i + 1)) (at + n) ws₀)
      gone = unfold without in rw (front, eq-eqb (owner_w t (get_or ws (at + i) 0)) x e)

  pub leave_keep : (w : ℕ) → w ≡ get_or ws (at + i) 0 → (owner_w t w ≡ x → ⊥) → Leaving ws₀ t at n x (set ws (at + k) w) (i + 1) (k + 1)
  leave_keep w v e = record {
    fits = c.fits;
    mid = omega arith;
    low = omega (arith, c.low);
    kept = kept_set c.kept (at + k) w (omega arith) (omega (arith, c.low));
    ahead = drop-set-lt (at + (i + 1)) ws (at + k) w (omega (arith, c.low)) ∙ later;
    done =
        ap (λ (l : List ℕ). l ++ without t x (slice (at + (i + 1)) (at + n) ws₀)) more
        ∙ append_snoc (slice at (at + k) ws) w (without t x (slice (at + (i + 1)) (at + n) ws₀))
        ∙ ap (λ (l : List ℕ). slice at (at + k) ws ++ l) (sym stay) ∙ c.done;
  }
    where
      more : slice at (at + (k + 1)) (set ws (at + k) w) ≡ slice at (at + k) ws ++ (w ∷ [])
      more = slice_push at k w ws (omega (arith, c.low, c.fits, c.kept.same))

      stay : without t x (slice (at + i) (at + n) ws₀) ≡ w ∷ without t x (slice (at + (i + 1)) (at + n) ws₀)
      stay = unfold without in rw (front, sym v, ne_eqb (owner_w t w) x e)

none_left : (ws₀ : List ℕ) (t at n x i : ℕ) → i ≡ n → without t x (slice (at + i) (at + n) ws₀) ≡ []
unfolding without
none_left ws₀ t at n x i q = rw (q, slice_empty (at + n) ws₀)

pub leave_end : (ws₀ : List ℕ) (t at n x : ℕ) (ws : List ℕ) (i k : ℕ) → Leaving ws₀ t at n x ws i k → n ≤ i → Left t at n x ws₀ ws k
leave_end ws₀ t at n x ws i k c h = record {
  log = sym (append-nil (slice at (at + k) ws)) ∙ ap (λ (l : List ℕ). slice at (at + k) ws ++ l) (sym (none_left ws₀ t at n x i (omega (arith, c.mid)))) ∙ c.done;
  kept = c.kept;
  few = omega (arith, c.low, c.mid);
}
