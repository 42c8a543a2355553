-- The predecessors' numbers of a phi, where they stand in the sheet.
use Prim.Native.Nat.{ℕ, suc, ◌+◌, ◌-◌, ◌/◌, ◌≤◌, ◌<◌}
use native.Mathlib.Omega.{arith}
use mathlib.Core.Path.{◌≡◌, ◌∙◌, refl, sym, ap, subst}
use mathlib.Core.Bool.{Bool, true, false}
use mathlib.Core.List.{List, [], ◌∷◌}
use lib.ListN.{length, get_or}
use lib.Dec.{ltb, leb}
use borrow.Author.Tests.{ltb-true}
use Rattle.model.specs.Limits.{most_block_number, most_traits}
use Rattle.model.specs.Lists.{pick, Every}
use Rattle.model.specs.Sheet.{Place}
use Rattle.model.specs.Traits.{effect_of, reactive_of}
use Rattle.model.specs.Reading.{Position, got, refused, ◌>>=◌, pure, refuse, word, at_most, below}
use Rattle.model.specs.Sections.{place}
use Rattle.model.proofs.Got.{got_value, got_next, not_both_lem, bind_got}
use Rattle.reading.proofs.JudgeLaws.{below_more}
use Rattle.reading.specs.Operands.{Whole, first_predecessors, predecessors}

-- ---- the list: empty at first, and one more with each operand
pub none_before : (ws : List ℕ) (c : Position) → predecessors ws c c ≡ []
unfolding predecessors first_predecessors
none_before ws c = let e : (c - c) / 4 ≡ 0 = omega arith in rw e refl

pub one_more_lem : (ws : List ℕ) (from to : Position) → Whole from to → predecessors ws from (to + 4) ≡ get_or ws to 0 ∷ predecessors ws from to
unfolding predecessors first_predecessors
one_more_lem ws from to h =
    let k = (to - from) / 4 in
    let e : (to + 4 - from) / 4 ≡ suc k = omega (arith, h) in
    ap (first_predecessors ws from) e ∙ ap (λ (i : Position). get_or ws i 0 ∷ first_predecessors ws from k) (sym h)

-- ---- a part that was read: its words
-- one word, from c to d
abbrev OneWord : List ℕ → Position → ℕ → Position → Type 0
OneWord ws c w d = (w ≡ get_or ws c 0) × (d ≡ c + 1) × (d ≤ length ws)

word_read : (ws : List ℕ) (c : Position) (w : ℕ) (d : Position) → word ws c ≡ got w d → OneWord ws c w d
unfolding word
word_read ws c w d e = go (ltb c (length ws)) refl e
  where
    go : (t : Bool) → ltb c (length ws) ≡ t → pick t (got (get_or ws c 0) (c + 1)) (refused 3) ≡ got w d → OneWord ws c w d
    go true h f = let n : c + 1 ≡ d = got_next f in (sym (got_value f), sym n, omega (arith, n, ltb-true c (length ws) h))
    go false h f = absurd (not_both_lem f refl)

-- that was tested
test_read : (t : ℕ → Bool) (k : ℕ) (ws : List ℕ) (c : Position) (w : ℕ) (d : Position) → (word >>= λ (x : ℕ). pick (t x) (pure x) (refuse k)) ws c ≡ got w d → OneWord ws c w d
test_read t k ws c w d e =
    let b = bind_got word (λ (x : ℕ). pick (t x) (pure x) (refuse k)) ws c w d e in
    go b.value b.next (t b.value) b.second (word_read ws c b.value b.next b.first)
  where
    go : (x : ℕ) (j : Position) (b : Bool) → pick b (pure x) (refuse k) ws j ≡ got w d → OneWord ws c x j → OneWord ws c w d
    go x j true f q = let n : j ≡ d = got_next f in (sym (got_value f) ∙ q.0, sym n ∙ q.1, omega (arith, n, q.2))
    go x j false f q = absurd (not_both_lem f refl)

pub at_most_read : (most : ℕ) (ws : List ℕ) (c : Position) (w : ℕ) (d : Position) → at_most most ws c ≡ got w d → OneWord ws c w d
unfolding at_most
at_most_read most = test_read (λ (w : ℕ). leb w most) 5

-- a place takes three words
abbrev place_by : ℕ → ℕ → ℕ → Place
place_by i t s = record { identifier = i; effect = effect_of t; reactive = reactive_of t; span = s }

place_read : (n : ℕ) (ws : List ℕ) (c : Position) (p : Place) (d : Position) → place n ws c ≡ got p d → d ≡ c + 3
unfolding place below
place_read n ws c p d e =
    let i = bind_got (below n) (λ (i : ℕ). at_most most_traits >>= λ (t : ℕ). word >>= λ (s : ℕ). pure (place_by i t s)) ws c p d e in
    let t = bind_got (at_most most_traits) (λ (t : ℕ). word >>= λ (s : ℕ). pure (place_by i.value t s)) ws i.next p d i.second in
    let s = bind_got word (λ (s : ℕ). pure (place_by i.value t.value s)) ws t.next p d t.second in
    let x = test_read (λ (w : ℕ). ltb w n) 5 ws c i.value i.next i.first in
    let y = at_most_read most_traits ws i.next t.value t.next t.first in
    let z = word_read ws t.next s.value s.next s.first in
    let w : s.next ≡ d = got_next s.second in
    omega (arith, x.1, y.1, z.1, w)

-- ---- an operand that was read: its number comes first in the list
module _ (ws : List ℕ) (from c d e : Position) (x n : ℕ) (p : Place) (q : at_most most_block_number ws c ≡ got x d) (r : place n ws d ≡ got p e) (h : Whole from c) where
  four_words : e ≡ c + 4
  four_words = omega (arith, (at_most_read most_block_number ws c x d q).1, place_read n ws d p e r)

  pub whole_next : Whole from e
  whole_next = omega (arith, h, four_words)

  pub one-read : x ∷ predecessors ws from c ≡ predecessors ws from e
  one-read =
      ap (λ (y : ℕ). y ∷ predecessors ws from c) (at_most_read most_block_number ws c x d q).0
      ∙ sym (ap (predecessors ws from) four_words ∙ one_more_lem ws from c h)

  pub below-read : (a b : ℕ) → Every (λ (y : ℕ). y < a) (predecessors ws from c) → (a ≤ b) × (x < b) → Every (λ (y : ℕ). y < b) (predecessors ws from e)
  below-read a b f g = subst (λ (l : List ℕ). Every (λ (y : ℕ). y < b) l) one-read (below_more (predecessors ws from c) x a b f g)
