-- What a reader gives where the words of a part stand: laws for the combinators of Reading.
use Prim.Native.Nat.{ℕ, zero, suc, ◌+◌, ◌≤◌, ◌<◌}
use native.Mathlib.Omega.{arith}
use mathlib.Core.Path.{◌≡◌, refl, sym, ap, subst, ◌∙◌}
use mathlib.Core.Bool.{Bool, true, false, ◌||◌}
use mathlib.Core.List.{List, [], ◌∷◌, ◌++◌, map, append_assoc, append-nil}
use mathlib.Core.Option.{Option, none, some}
use lib.ListN.{length, get_or, drop, length-append}
use lib.Dec.{ltb, leb, eqb}
use borrow.Author.Tests.{lt-ltb, le-leb, eq-eqb, ne_eqb, eqb-false}
use Rattle.model.specs.Limits.{most_block_number, absent_count}
use Rattle.model.specs.Lists.{pick, gather, among, Every}
use Rattle.model.specs.Sheet.{BlockId}
use Rattle.model.specs.Reading.{Position, Result, got, refused, Read, and_then, ◌>>=◌, pure, refuse, word, count, fixed, at_most, below, new_number, is_absent, times, numbered, counted, optional}
use Rattle.model.specs.Answer.{section}
use Rattle.model.specs.Distinct.{Distinct}
use Rattle.model.proofs.Either.{or_left, or_right}

-- the reader gives a where these words stand, and goes on behind them
abbrev pub Back : {A : Type 0} → Read A → List ℕ → A → Type 0
Back r vs a = (ws : List ℕ) (c : Position) (rest : List ℕ) → drop c ws ≡ vs ++ rest → r ws c ≡ got a (c + length vs)

-- ---- the words from a position on
abbrev head_or : List ℕ → ℕ
head_or [] = 0
head_or (w ∷ l) = w

abbrev tail_of : List ℕ → List ℕ
tail_of [] = []
tail_of (w ∷ l) = l

-- a word, and those behind it
pub record Stands (ws : List ℕ) (c w : ℕ) (l : List ℕ) : Type 0 where
  pub is : get_or ws c 0 ≡ w
  pub behind : drop (suc c) ws ≡ l
  pub inside : c < length ws

stands : (ws : List ℕ) (c : ℕ) (w : ℕ) (l : List ℕ) → drop c ws ≡ w ∷ l → Stands ws c w l
stands [] zero w l e = let n : 0 ≡ suc (length l) = ap length e in absurd (omega (arith, n))
stands [] (suc c) w l e = let n : 0 ≡ suc (length l) = ap length e in absurd (omega (arith, n))
stands (x ∷ ws) zero w l e = record { is = ap head_or e; behind = ap tail_of e; inside = omega arith }
stands (x ∷ ws) (suc c) w l e = let s = stands ws c w l e in record { is = s.is; behind = s.behind; inside = omega (arith, s.inside) }

-- past some words
past : (ws : List ℕ) (c : ℕ) (vs rest : List ℕ) → drop c ws ≡ vs ++ rest → drop (c + length vs) ws ≡ rest
past ws c [] rest e = ap (λ (k : ℕ). drop k ws) (plus_none c) ∙ e
  where
    plus_none : (k : ℕ) → k + 0 ≡ k
    plus_none k = omega arith
past ws c (v ∷ vs) rest e =
    let n : c + suc (length vs) ≡ suc c + length vs = omega arith in
    ap (λ (k : ℕ). drop k ws) n ∙ past ws (suc c) vs rest (stands ws c v (vs ++ rest) e).behind

-- ---- combinators
module _ {A : Type 0} where
  at_end : {a : A} {c d : Position} → c ≡ d → got a c ≡ got a d
  at_end {a} e = ap (got a) e

  pub pure_back : (a : A) → Back (pure a) [] a
  pure_back a ws c rest e = let n : c ≡ c + 0 = omega arith in at_end n

  -- a test that holds
  pick_back : (b : Bool) (f g : Read A) (vs : List ℕ) (a : A) → b ≡ true → Back f vs a → Back (pick b f g) vs a
  pick_back b f g vs a e h = subst (λ (t : Bool). Back (pick t f g) vs a) (sym e) h

module _ {A B : Type 0} where
  pub bind_back : (m : Read A) (f : A → Read B) (us vs : List ℕ) (a : A) (b : B) → Back m us a → Back (f a) vs b → Back (m >>= f) (us ++ vs) b
  bind_back m f us vs a b h k ws c rest e =
      let e₁ : drop c ws ≡ us ++ (vs ++ rest) = e ∙ append_assoc us vs rest in
      let n : c + length us + length vs ≡ c + length (us ++ vs) = omega (arith, length-append us vs) in
      ap (λ (r : Result A). and_then r (λ (x : A) (j : Position). f x ws j)) (h ws c (vs ++ rest) e₁) ∙ k ws (c + length us) rest (past ws c us (vs ++ rest) e₁) ∙ at_end n

-- ---- words
pub word_back : (w : ℕ) → Back word (w ∷ []) w
unfolding word
word_back w ws c rest e =
    let s = stands ws c w rest e in
    ap (λ (b : Bool). pick b (got (get_or ws c 0) (c + 1)) (refused 3)) (lt-ltb c (length ws) s.inside) ∙ ap (λ (x : ℕ). got x (c + 1)) s.is

tested_back : (t : ℕ → Bool) (k w : ℕ) → t w ≡ true → Back (word >>= λ (x : ℕ). pick (t x) (pure x) (refuse k)) (w ∷ []) w
tested_back t k w h = bind_back word (λ (x : ℕ). pick (t x) (pure x) (refuse k)) (w ∷ []) [] w w (word_back w) (pick_back (t w) (pure w) (refuse k) [] w h (pure_back w))

pub at_most_back : (most w : ℕ) → w ≤ most → Back (at_most most) (w ∷ []) w
unfolding at_most
at_most_back most w h = tested_back (λ (x : ℕ). leb x most) 5 w (le-leb w most h)

pub below_back : (limit w : ℕ) → w < limit → Back (below limit) (w ∷ []) w
unfolding below
below_back limit w h = tested_back (λ (x : ℕ). ltb x limit) 5 w (lt-ltb w limit h)

pub count_back : (most w : ℕ) → w ≤ most → Back (count most) (w ∷ []) w
unfolding count
count_back most w h = tested_back (λ (x : ℕ). leb x most) 4 w (le-leb w most h)

pub fixed_back : (k : ℕ) → Back (fixed k) (k ∷ []) k
unfolding fixed
fixed_back k = tested_back (λ (x : ℕ). eqb x k) 4 k (eq-eqb k k refl)

new_number_back : (used : List BlockId) (b : BlockId) → b ≤ most_block_number → among b used ≡ false → Back (new_number used) (b ∷ []) b
unfolding new_number
new_number_back used b h e =
    bind_back (at_most most_block_number) (λ (x : BlockId). pick (among x used) (refuse 6) (pure x)) (b ∷ []) [] b b (at_most_back most_block_number b h)
    (subst (λ (t : Bool). Back (pick t (refuse 6) (pure b)) [] b) (sym e) (pure_back b))

-- ---- a list that may be absent
module _ {A : Type 0} (f : Read A) where
  abbrev absent : Read (Option A)
  absent = word >>= λ (w : ℕ). pure none

  abbrev there : Read (Option A)
  there = f >>= λ (a : A). pure (some a)

  -- by whether the count says so
  optional_by : (ws : List ℕ) (c w : ℕ) (rest : List ℕ) → drop c ws ≡ w ∷ rest → (b : Bool) → eqb w absent_count ≡ b → optional f ws c ≡ pick b absent there ws c
  unfolding optional
  optional_by ws c w rest e b h =
      ap (λ (r : Result ℕ). pick (is_absent r) absent there ws c) (word_back w ws c rest e) ∙ ap (λ (t : Bool). pick t absent there ws c) h

  pub absent_back : Back (optional f) (absent_count ∷ []) none
  absent_back ws c rest e =
      optional_by ws c absent_count rest e true (eq-eqb absent_count absent_count refl)
      ∙ ap (λ (r : Result ℕ). and_then r (λ (w : ℕ) (j : Position). got none j)) (word_back absent_count ws c rest e)

  pub present_back : (w : ℕ) (vs : List ℕ) (a : A) → w < absent_count → Back f (w ∷ vs) a → Back (optional f) (w ∷ vs) (some a)
  present_back w vs a h k ws c rest e =
      optional_by ws c w (vs ++ rest) e false (ne_eqb w absent_count (λ q. omega (arith, h, q)))
      ∙ ap (λ (r : Result A). and_then r (λ (x : A) (j : Position). got (some x) j)) (k ws c rest e)

-- ---- several parts
neither : (a b : Bool) → a ≡ false → b ≡ false → (a || b) ≡ false
neither true b h k = h
neither false b h k = k

eqb_turned : (x y : ℕ) → eqb x y ≡ false → eqb y x ≡ false
eqb_turned x y h = let n : ¬ (x ≡ y) = eqb-false x y h in ne_eqb y x (λ e. n (sym e))

module _ {A : Type 0} where
  -- a number that none of the others has is one more that was used
  fresh : (number : A → BlockId) (a : A) (used : List BlockId) (k : List A) → Every (λ (x : A). among (number x) used ≡ false) k → among (number a) (map number k) ≡ false
      → Every (λ (x : A). among (number x) (number a ∷ used) ≡ false) k
  fresh number a used [] n e = tt
  fresh number a used (x ∷ k) n e =
      let first : eqb (number a) (number x) ≡ false = or_left (eqb (number a) (number x)) (among (number a) (map number k)) e in
      let others : among (number a) (map number k) ≡ false = or_right (eqb (number a) (number x)) (among (number a) (map number k)) e in
      (neither (eqb (number x) (number a)) (among (number x) used) (eqb_turned (number a) (number x) first) n.0, fresh number a used k n.1 others)

  times_back : (f : Read A) (w : A → List ℕ) (l : List A) → Every (λ (a : A). Back f (w a) a) l → Back (times (length l) f) (gather w l) l
  unfolding times
  times_back f w [] h = pure_back []
  times_back f w (a ∷ l) h =
      bind_back f (λ (x : A). times (length l) f >>= λ (r : List A). pure (x ∷ r)) (w a) (gather w l) a (a ∷ l) h.0
      (subst (λ (vs : List ℕ). Back (times (length l) f >>= λ (r : List A). pure (a ∷ r)) vs (a ∷ l)) (append-nil (gather w l))
      (bind_back (times (length l) f) (λ (r : List A). pure (a ∷ r)) (gather w l) [] l (a ∷ l) (times_back f w l h.1) (pure_back (a ∷ l))))

  pub counted_back : (most : ℕ) (f : Read A) (w : A → List ℕ) (l : List A) → length l ≤ most → Every (λ (a : A). Back f (w a) a) l → Back (counted most f) (section w l) l
  unfolding counted
  counted_back most f w l n h = bind_back (count most) (λ (k : ℕ). times k f) (length l ∷ []) (gather w l) (length l) l (count_back most (length l) n) (times_back f w l h)

  -- parts after a number each, which none before it had
  pub numbered_back : (f : BlockId → Read A) (number : A → BlockId) (w : A → List ℕ) (l : List A) (used : List BlockId)
      → Every (λ (a : A). (number a ≤ most_block_number) × Back (f (number a)) (w a) a) l → Every (λ (a : A). among (number a) used ≡ false) l → Distinct (map number l)
      → Back (numbered (length l) used f) (gather (λ (a : A). number a ∷ w a) l) l
  unfolding numbered
  numbered_back f number w [] used h new apart = pure_back []
  numbered_back f number w (a ∷ l) used h new apart =
      let b : BlockId = number a in
      let rest : Read (List A) = numbered (length l) (b ∷ used) f in
      let words : List ℕ = gather (λ (x : A). number x ∷ w x) l in
      bind_back (new_number used) (λ (x : BlockId). f x >>= λ (y : A). numbered (length l) (x ∷ used) f >>= λ (r : List A). pure (y ∷ r)) (b ∷ []) (w a ++ words) b (a ∷ l)
      (new_number_back used b h.0.0 new.0)
      (bind_back (f b) (λ (y : A). rest >>= λ (r : List A). pure (y ∷ r)) (w a) words a (a ∷ l) h.0.1
      (subst (λ (vs : List ℕ). Back (rest >>= λ (r : List A). pure (a ∷ r)) vs (a ∷ l)) (append-nil words)
      (bind_back rest (λ (r : List A). pure (a ∷ r)) words [] l (a ∷ l) (numbered_back f number w l (b ∷ used) h.1 (fresh number a used l new.1 apart.0) apart.1) (pure_back (a ∷ l)))))
