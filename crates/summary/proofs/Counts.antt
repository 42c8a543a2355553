-- The section of walks.
use Prim.Native.Nat.{ℕ, ◌+◌, ◌-◌, ◌*◌, ◌≤◌, ◌<◌}
use native.Mathlib.Omega.{arith}
use mathlib.Core.Path.{◌≡◌, refl, sym, ap, ◌∙◌}
use mathlib.Core.List.{List, [], ◌∷◌, ◌++◌}
use lib.ListN.{length, get_or, drop, length-append}
use Rattle.model.specs.Lists.{gather}
use Rattle.model.specs.Answer.{count_words, section}
use Rattle.workspace.specs.Layout.{MUTATIONS, SIMULATED}
use Rattle.workspace.specs.Graph.{tab}
use Rattle.workspace.proofs.Tables.{tab-length, tab-same}
use Rattle.aliasing.specs.Pending.{taken_of}
use Rattle.writing.specs.declared.Writer.{Writer}
use Rattle.writing.specs.Wrote.{Writes}
use Rattle.writing.proofs.Writing.{writes_then, writes_as}
use Rattle.model.proofs.Gathers.{gather_append}
use Rattle.copies.proofs.Lengths.{gather_length}
use Rattle.copies.proofs.Loops.{Leaves, table_turn, table_end}
use Rattle.summary.specs.Sections.{counts_of, simulated_of}

pub taken-length : (ws : List ℕ) (n : ℕ) → length (taken_of ws n) ≡ n
unfolding taken_of
taken-length ws n = tab-length n (λ (i : ℕ). get_or ws (MUTATIONS + 3 * i + 2) 0)

pub simulated_length : (ws : List ℕ) (n : ℕ) → length (simulated_of ws n) ≡ n
unfolding simulated_of
simulated_length ws n = tab-length n (λ (i : ℕ). get_or ws (SIMULATED + i) 0)

counts_length : (ws : List ℕ) (first stride n : ℕ) → length (counts_of ws first stride n) ≡ n
unfolding counts_of
counts_length ws first stride n = tab-length n (λ (i : ℕ). get_or ws (first + stride * i) 0)

-- the counts of the real walks stand in the third word of each mutation, those of the simulated ones in a row
counts_real : (ws : List ℕ) (n : ℕ) → counts_of ws (MUTATIONS + 2) 3 n ≡ taken_of ws n
unfolding counts_of taken_of
counts_real ws n =
    tab-same n (λ (i : ℕ). get_or ws (MUTATIONS + 2 + 3 * i) 0) (λ (i : ℕ). get_or ws (MUTATIONS + 3 * i + 2) 0)
    (λ i h. let e : MUTATIONS + 2 + 3 * i ≡ MUTATIONS + 3 * i + 2 = omega arith in ap (λ (k : ℕ). get_or ws k 0) e)

counts_simulated : (ws : List ℕ) (n : ℕ) → counts_of ws SIMULATED 1 n ≡ simulated_of ws n
unfolding counts_of simulated_of
counts_simulated ws n =
    tab-same n (λ (i : ℕ). get_or ws (SIMULATED + 1 * i) 0) (λ (i : ℕ). get_or ws (SIMULATED + i) 0)
    (λ i h. let e : SIMULATED + 1 * i ≡ SIMULATED + i = omega arith in ap (λ (k : ℕ). get_or ws k 0) e)

-- how many words the counts are
pub counts-length : (l : List ℕ) → length (gather count_words l) ≡ length l
counts-length l = let e : length (gather count_words l) ≡ 1 * length l = gather_length count_words 1 (λ k. refl) l in omega (arith, e)

-- as many words as walks
pub counts_wrote : (ws : List ℕ) (first stride n : ℕ) {o o' : Writer ℕ} → Writes (gather count_words (counts_of ws first stride n)) o o' → o'.at ≡ o.at + n
counts_wrote ws first stride n w = omega (arith, w.wrote.next, counts-length (counts_of ws first stride n), counts_length ws first stride n)

-- ---- the loop: what is left from walk i on
module _ (ws : List ℕ) (first stride count : ℕ) where
  pub record Counting (o₀ : Writer ℕ) (i : ℕ) (o : Writer ℕ) : Type 0 where
    pub leaves : Leaves (gather count_words (tab count (λ (j : ℕ). get_or ws (first + stride * j) 0))) (gather count_words (drop i (tab count (λ (j : ℕ). get_or ws (first + stride * j) 0)))) o₀ o
    pub few : o.at + (count - i) ≤ o₀.at + count

  module _ {o₀ : Writer ℕ} {i : ℕ} {o : Writer ℕ} (v : Counting o₀ i o) where
    pub counting_turn : {o' : Writer ℕ} → i < count → Writes (get_or ws (first + stride * i) 0 ∷ []) o o' → Counting o₀ (i + 1) o'
    counting_turn z w = record {
      leaves = table_turn count_words count (λ (j : ℕ). get_or ws (first + stride * j) 0) i v.leaves z w;
      few = omega (arith, v.few, w.wrote.next);
    }

    pub counting_end : count ≤ i → Writes (gather count_words (counts_of ws first stride count)) o₀ o
    unfolding counts_of
    counting_end z = table_end count_words count (λ (j : ℕ). get_or ws (first + stride * j) 0) i v.leaves z

-- the count of both lists, then both
pub walks_section : (ws : List ℕ) (r s : ℕ) {o o₁ o₂ o₃ : Writer ℕ}
    → Writes ((r + s) ∷ []) o o₁ → Writes (gather count_words (counts_of ws (MUTATIONS + 2) 3 r)) o₁ o₂ → Writes (gather count_words (counts_of ws SIMULATED 1 s)) o₂ o₃
    → Writes (section count_words (taken_of ws r ++ simulated_of ws s)) o o₃
walks_section ws r s u v w =
    let l : List ℕ = taken_of ws r in
    let m : List ℕ = simulated_of ws s in
    let e : r + s ≡ length (l ++ m) = omega (arith, taken-length ws r, simulated_length ws s, length-append l m) in
    writes_as (writes_then u (writes_then (writes_as v (ap (gather count_words) (counts_real ws r))) (writes_as w (ap (gather count_words) (counts_simulated ws s)))))
    (ap (λ (n : ℕ). n ∷ (gather count_words l ++ gather count_words m)) e ∙ ap (λ (z : List ℕ). length (l ++ m) ∷ z) (sym (gather_append count_words l m)))
