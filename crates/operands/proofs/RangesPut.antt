-- The loop that writes the ranges.
use Prim.Native.Nat.{ℕ, ◌+◌, ◌*◌, ◌≤◌, ◌<◌}
use native.Mathlib.Omega.{arith}
use mathlib.Core.Path.{◌≡◌, sym, ap, ◌∙◌}
use mathlib.Core.List.{List, [], ◌∷◌}
use lib.ListN.{get_or, drop}
use Rattle.model.specs.Limits.{most_identifiers}
use Rattle.model.specs.Lists.{gather}
use Rattle.model.specs.Answer.{range_words, section}
use Rattle.workspace.specs.Layout.{STARTS, ENDS}
use Rattle.workspace.proofs.Tables.{tab-length}
use Rattle.writing.specs.declared.Writer.{Writer}
use Rattle.writing.specs.Wrote.{Writes}
use Rattle.writing.proofs.Writing.{writes_then, writes_as}
use Rattle.copies.proofs.Loops.{Leaves, table_turn, table_end}
use Rattle.operands.specs.Ranges.{ranges_of, range_at, first_ranges, range_width}
use Rattle.operands.proofs.RangeWords.{start_at, end_at_lem}

module _ (count : ℕ) (ws : List ℕ) where
  -- the ranges from number x on are left to write
  pub record RangesLeft (o₀ : Writer ℕ) (x : ℕ) (o : Writer ℕ) : Type 0 where
    pub leaves : Leaves (gather range_words (first_ranges count (ranges_of ws))) (gather range_words (drop x (first_ranges count (ranges_of ws)))) o₀ o
    pub number : o.at ≡ o₀.at + range_width * x

  module _ {o₀ : Writer ℕ} {x : ℕ} {o : Writer ℕ} (v : RangesLeft o₀ x o) where
    pub ranges_turn : count ≤ most_identifiers → x < count → {o' : Writer ℕ} → Writes (get_or ws (STARTS + x) 0 ∷ get_or ws (ENDS + x) 0 ∷ []) o o' → RangesLeft o₀ (x + 1) o'
    unfolding first_ranges
    ranges_turn m h p =
        let k : x < most_identifiers = omega (arith, m, h) in
        record {
          leaves =
              table_turn range_words count (range_at (ranges_of ws)) x v.leaves h
              (writes_as p
              (ap (λ (s : ℕ). s ∷ get_or ws (ENDS + x) 0 ∷ []) (sym (start_at ws x k))
              ∙ ap (λ (e : ℕ). get_or (ranges_of ws).starts x 0 ∷ e ∷ []) (sym (end_at_lem ws x k))));
          number = omega (arith, v.number, p.wrote.next);
        }

    -- all were written, behind their count
    pub ranges_end : count ≤ x → {b : Writer ℕ} → Writes (count ∷ []) b o₀ → Writes (section range_words (first_ranges count (ranges_of ws))) b o
    unfolding first_ranges
    ranges_end h p =
        writes_as (writes_then p (table_end range_words count (range_at (ranges_of ws)) x v.leaves h))
        (ap (λ (n : ℕ). n ∷ gather range_words (first_ranges count (ranges_of ws))) (sym (tab-length count (range_at (ranges_of ws)))))
