-- A part that was read stands in the sheet's words: it is what the words say there, it ends where they end, and the sheet has them.
use Prim.Native.Nat.{ℕ, zero, suc, ◌+◌, ◌≤◌}
use native.Mathlib.Omega.{arith}
use mathlib.Core.Path.{◌≡◌, refl, sym, ap, ◌∙◌}
use mathlib.Core.Bool.{Bool, true, false}
use mathlib.Core.List.{List, [], ◌∷◌}
use lib.ListN.{length, get_or}
use lib.Dec.{ltb, leb, eqb}
use borrow.Author.Tests.{ltb-true}
use Rattle.model.specs.Limits.{most_block_number}
use Rattle.model.specs.Lists.{pick, among}
use Rattle.model.specs.Sheet.{BlockId}
use Rattle.model.specs.Reading.{Position, got, refused, Read, ◌>>=◌, pure, refuse, word, count, fixed, at_most, below, new_number, times, numbered, counted}
use Rattle.model.proofs.Got.{got_value, got_next, not_both_lem, bind_got}
use Rattle.hir.specs.Words.{Part, Standing, word_at, wide, several, listed}

abbrev pub part : {A : Type 0} → A → Position → Part A
part a d = record { what = a; next = d }

-- two equal parts
pub part_same : {A : Type 0} {a b : A} {c d : Position} → a ≡ b → c ≡ d → part a c ≡ part b d
part_same {A} {a} {b} {c} {d} e f = ap (λ (x : A). part x c) e ∙ ap (part b) f

-- and their halves
pub part-value : {A : Type 0} {p : Part A} {a : A} {d : Position} → p ≡ part a d → p.what ≡ a
part-value {A} e = ap (λ (p : Part A). p.what) e

pub part_next : {A : Type 0} {p : Part A} {a : A} {d : Position} → p ≡ part a d → p.next ≡ d
part_next {A} e = ap (λ (p : Part A). p.next) e

-- the part a stands from c up to d
pub record Stands {A : Type 0} (f : Standing A) (ws : List ℕ) (c : Position) (a : A) (d : Position) : Type 0 where
  pub is : f ws c ≡ part a d
  pub after : c ≤ d
  pub inside : c ≤ length ws → d ≤ length ws

-- whatever the reader gives stands there
abbrev pub StandsFor : {A : Type 0} → Read A → Standing A → Type 0
StandsFor {A} r f = (ws : List ℕ) (c : Position) (a : A) (d : Position) → r ws c ≡ got a d → Stands f ws c a d

module _ {A : Type 0} {f : Standing A} {ws : List ℕ} {c : Position} {a : A} {d : Position} (s : Stands f ws c a d) where
  pub value_is_lem : (f ws c).what ≡ a
  value_is_lem = part-value s.is

  pub next_is : (f ws c).next ≡ d
  next_is = part_next s.is

-- what was got is no other
got_part : {A : Type 0} {a b : A} {c d : Position} → got a c ≡ got b d → part a c ≡ part b d
got_part e = part_same (got_value e) (got_next e)

-- ---- one part after another
-- nothing is read
pub pure_stands : {A : Type 0} (a : A) → StandsFor (pure a) (λ (ws : List ℕ) (c : Position). part a c)
pure_stands a ws c b d e = let n : c ≡ d = got_next e in record { is = got_part e; after = omega (arith, n); inside = λ i. omega (arith, n, i) }

refuse_stands : {A : Type 0} (k : ℕ) (f : Standing A) → StandsFor (refuse k) f
refuse_stands k f ws c a d e = absurd (not_both_lem e refl)

pub then_stands : {A B : Type 0} (m : Read A) (f : Standing A) (k : A → Read B) (g : A → Standing B) → StandsFor m f → ((a : A) → StandsFor (k a) (g a))
    → StandsFor (m >>= k) (λ (ws : List ℕ) (c : Position). g (f ws c).what ws (f ws c).next)
then_stands {A} m f k g h t ws c b d e =
    let p = bind_got m k ws c b d e in
    let s = h ws c p.value p.next p.first in
    let u = t p.value ws p.next b d p.second in
    record {
      is = ap (λ (x : Part A). g x.what ws x.next) s.is ∙ u.is;
      after = omega (arith, s.after, u.after);
      inside = λ i. u.inside (s.inside i);
    }

-- a part that holds another
pub held_stands : {A B : Type 0} (r : Read A) (f : Standing A) (g : A → B) → StandsFor r f → StandsFor (r >>= λ (a : A). pure (g a)) (λ (ws : List ℕ) (c : Position). part (g (f ws c).what) (f ws c).next)
held_stands {A} r f g h = then_stands r f _ (λ (a : A) (ws : List ℕ) (c : Position). part (g a) c) h (λ a. pure_stands (g a))

-- either of two readers
pub either_stands : {A : Type 0} (b : Bool) (f g : Read A) (h : Standing A) → StandsFor f h → StandsFor g h → StandsFor (pick b f g) h
either_stands true f g h p q = p
either_stands false f g h p q = q

-- the same part, said otherwise
pub as_stands : {A : Type 0} {r : Read A} {f g : Standing A} → ((ws : List ℕ) (c : Position) → f ws c ≡ g ws c) → StandsFor r f → StandsFor r g
as_stands same h ws c a d e = let s = h ws c a d e in record { is = sym (same ws c) ∙ s.is; after = s.after; inside = s.inside }

-- ---- one word
abbrev pub one_word : Standing ℕ
one_word = wide 1 word_at

pub word_stands : StandsFor word one_word
unfolding word
word_stands ws c a d e = go (ltb c (length ws)) refl e
  where
    go : (t : Bool) → ltb c (length ws) ≡ t → pick t (got (get_or ws c 0) (c + 1)) (refused 3) ≡ got a d → Stands one_word ws c a d
    go true h f = let n : c + 1 ≡ d = got_next f in record { is = got_part f; after = omega (arith, n); inside = λ i. omega (arith, n, ltb-true c (length ws) h) }
    go false h f = absurd (not_both_lem f refl)

-- that was tested
tested_stands : (t : ℕ → Bool) (k : ℕ) → StandsFor (word >>= λ (w : ℕ). pick (t w) (pure w) (refuse k)) one_word
tested_stands t k =
    then_stands word one_word _ (λ (w : ℕ) (ws : List ℕ) (c : Position). part w c) word_stands (λ w. either_stands (t w) (pure w) (refuse k) _ (pure_stands w) (refuse_stands k _))

pub at_most_stands : (most : ℕ) → StandsFor (at_most most) one_word
unfolding at_most
at_most_stands most = tested_stands (λ (w : ℕ). leb w most) 5

pub below_stands : (limit : ℕ) → StandsFor (below limit) one_word
unfolding below
below_stands limit = tested_stands (λ (w : ℕ). ltb w limit) 5

pub count_stands : (most : ℕ) → StandsFor (count most) one_word
unfolding count
count_stands most = tested_stands (λ (w : ℕ). leb w most) 4

pub fixed_stands : (k : ℕ) → StandsFor (fixed k) one_word
unfolding fixed
fixed_stands k = tested_stands (λ (w : ℕ). eqb w k) 4

new_number_stands : (used : List BlockId) → StandsFor (new_number used) one_word
unfolding new_number
new_number_stands used =
    then_stands (at_most most_block_number) one_word _ (λ (w : ℕ) (ws : List ℕ) (c : Position). part w c) (at_most_stands most_block_number)
    (λ b. either_stands (among b used) (refuse 6) (pure b) _ (refuse_stands 6 _) (pure_stands b))

-- ---- several parts
module _ {A : Type 0} where
  times_stands : (k : ℕ) (r : Read A) (f : Standing A) → StandsFor r f → StandsFor (times k r) (several k f)
  unfolding times several
  times_stands zero r f h = pure_stands []
  times_stands (suc k) r f h = then_stands r f _ _ h (λ a. held_stands (times k r) (several k f) (λ (l : List A). a ∷ l) (times_stands k r f h))

  pub counted_stands : (most : ℕ) (r : Read A) (f : Standing A) → StandsFor r f → StandsFor (counted most r) (listed f)
  unfolding counted listed
  counted_stands most r f h = then_stands (count most) one_word _ (λ (k : ℕ). several k f) (count_stands most) (λ k. times_stands k r f h)

  abbrev cons_part : Standing (List A) → List ℕ → Part A → Part (List A)
  cons_part f ws p = part (p.what ∷ (f ws p.next).what) (f ws p.next).next

  -- parts after a number each: g has the number and the part
  pub numbered_stands : (k : ℕ) (used : List BlockId) (r : BlockId → Read A) (f : BlockId → Standing A) (g : Standing A) → ((b : BlockId) → StandsFor (r b) (f b))
      → ((ws : List ℕ) (c : Position) → f (word_at ws c) ws (c + 1) ≡ g ws c) → StandsFor (numbered k used r) (several k g)
  unfolding numbered several
  numbered_stands zero used r f g h same = pure_stands []
  numbered_stands (suc k) used r f g h same =
      as_stands (λ ws c. ap (cons_part (several k g) ws) (same ws c))
      (then_stands (new_number used) one_word _ _ (new_number_stands used)
      (λ b. then_stands (r b) (f b) _ _ (h b)
      (λ a. held_stands (numbered k (b ∷ used) r) (several k g) (λ (l : List A). a ∷ l) (numbered_stands k (b ∷ used) r f g h same))))
