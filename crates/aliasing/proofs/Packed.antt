-- A record's word: what its fields are, whether it is a record at all, and what is kept in it.
use Prim.Native.Nat.{ℕ, zero, suc, ◌+◌, ◌*◌, ◌/◌, ◌%◌, ◌<◌, max}
use native.Mathlib.Omega.{arith}
use mathlib.Core.Bool.{◌||◌, not}
use mathlib.Core.Path.{◌≡◌, sym, ap, ◌∙◌}
use lib.Dec.{eqb}
use borrow.Author.Tests.{eq-eqb, ne_eqb}
use Rattle.model.specs.Lists.{pick, is_some}
use Rattle.model.specs.Mutation.{reason_of}
use Rattle.model.specs.State.{has_record}
use Rattle.aliasing.specs.State.{info_of, record_in}
use Rattle.aliasing.specs.Accepts.{record_word, kept_word}

-- the fields of a word that was made of them
module _ (l t r i : ℕ) (hl : l < 4) (ht : t < 4) (hr : r < 2) where
  local_field : record_word l t r i % 4 ≡ l
  local_field = omega arith

  transitive_field : record_word l t r i / 4 % 4 ≡ t
  transitive_field = omega arith

  reason_field : record_word l t r i / 16 % 2 ≡ r
  reason_field = omega arith

  last_field : record_word l t r i / 32 ≡ i
  last_field = omega arith

  pub word_record : (ts ls : ℕ) → record_in (record_word l t r i) ts ls ≡ record { reason = reason_of r; last = i; transitive = info_of t ts; local = info_of l ls }
  word_record ts ls = λ j. record {
    reason = reason_of (reason_field j);
    last = last_field j;
    transitive = info_of (transitive_field j) ts;
    local = info_of (local_field j) ls;
  }

-- a word of two kinds that are 0 is no record, whatever its spans
kinds_some : (l t ts ls n : ℕ) → n ≡ l + 4 * t → (is_some (info_of t ts) || is_some (info_of l ls)) ≡ not (eqb n 0)
kinds_some zero zero ts ls n e = sym (ap not (eq-eqb n 0 (omega (arith, e))))
kinds_some (suc l) zero ts ls n e = sym (ap not (ne_eqb n 0 (λ z. omega (arith, e, z))))
kinds_some l (suc t) ts ls n e = sym (ap not (ne_eqb n 0 (λ z. omega (arith, e, z))))

pub has_word : (w ts ls : ℕ) → has_record (record_in w ts ls) ≡ not (eqb (w % 16) 0)
has_word w ts ls = kinds_some (w % 4) (w / 4 % 4) ts ls (w % 16) (omega arith)

-- the word that is kept, of parts that were computed one by one
parts_word : (l t r i : ℕ) → l + 4 * t + (16 * r + 32 * i) ≡ record_word l t r i
parts_word l t r i = omega arith

module _ (w t k r i : ℕ) {b c : ℕ} (reason : b ≡ max (w / 16 % 2) r) (last : c ≡ max (w / 32) i) where
  pub kept_transitive : t ≡ 1 → (a : ℕ) → a ≡ max (w / 4 % 4) k → w % 4 + 4 * a + (16 * b + 32 * c) ≡ kept_word w t k r i
  unfolding kept_word
  kept_transitive e a h =
      parts_word (w % 4) a b c ∙ (λ j. record_word (pick (sym (eq-eqb t 1 e) j) (w % 4) (max (w % 4) k)) (pick (sym (eq-eqb t 1 e) j) (h j) (w / 4 % 4)) (reason j) (last j))

  pub kept_local : (t ≡ 1 → ⊥) → (a : ℕ) → a ≡ max (w % 4) k → a + 4 * (w / 4 % 4) + (16 * b + 32 * c) ≡ kept_word w t k r i
  unfolding kept_word
  kept_local n a h =
      parts_word a (w / 4 % 4) b c ∙ (λ j. record_word (pick (sym (ne_eqb t 1 n) j) (w % 4) (h j)) (pick (sym (ne_eqb t 1 n) j) (max (w / 4 % 4) k) (w / 4 % 4)) (reason j) (last j))
