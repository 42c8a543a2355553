-- What the words are once there are no records and the ends are the sheet's.
use Prim.Native.Nat.{ℕ, ◌+◌, ◌-◌, ◌≤◌, ◌<◌}
use native.Mathlib.Omega.{arith}
use native.Mathlib.Decide.{dec_lt}
use mathlib.Core.Path.{◌≡◌, sym, ap, subst, ◌∙◌}
use mathlib.Core.List.{List}
use lib.ListN.{length, get_or}
use lib.Dec.{ltb}
use borrow.Author.Tests.{lt-ltb, le-ltb}
use Rattle.model.specs.Limits.{most_identifiers}
use Rattle.model.specs.Lists.{pick}
use Rattle.workspace.specs.Layout.{LEAST, RECORD, END, SEEN}
use Rattle.workspace.specs.Rows.{Kept}
use Rattle.workspace.specs.Sort.{clear_w}
use Rattle.workspace.proofs.Parts.{drop_more, drop-word, take-word}
use Rattle.workspace.proofs.Clearing.{kept_clear, clear_at}
use Rattle.summary.proofs.Held.{node-word}
use Rattle.inference.specs.Whole.{Keeps}

module _ (ws : List ℕ) (n : ℕ) (size : LEAST ≤ length ws) (few : n ≤ most_identifiers)
    (ws₁ : List ℕ) (is₁ : ws₁ ≡ clear_w ws RECORD most_identifiers) (ws₂ : List ℕ) (is₂ : ws₂ ≡ clear_w ws₁ (END + n) (most_identifiers - n)) where
  k₁ : Kept RECORD (RECORD + most_identifiers) ws ws₁
  k₁ = subst (Kept RECORD (RECORD + most_identifiers) ws) (sym is₁) (kept_clear ws RECORD most_identifiers)

  k₂ : Kept (END + n) (END + n + (most_identifiers - n)) ws₁ ws₂
  k₂ = subst (Kept (END + n) (END + n + (most_identifiers - n)) ws₁) (sym is₂) (kept_clear ws₁ (END + n) (most_identifiers - n))

  record_none : (x : ℕ) → x < most_identifiers → get_or ws₂ (RECORD + x) 0 ≡ 0
  record_none x h =
      take-word (END + n) (RECORD + x) ws₁ ws₂ (omega (arith, h)) k₂.low
      ∙ ap (λ (l : List ℕ). get_or l (RECORD + x) 0) is₁ ∙ clear_at ws RECORD most_identifiers x (omega (arith, size)) h

  -- an end of the sheet, or none
  ended : (x : ℕ) → x < most_identifiers → Dec (x < n) → get_or ws₂ (END + x) 0 ≡ pick (ltb x n) (get_or ws (END + x) 0) 0
  ended x h (yes k) =
      take-word (END + n) (END + x) ws₁ ws₂ (omega (arith, k)) k₂.low
      ∙ drop-word (RECORD + most_identifiers) (END + x) ws ws₁ (omega arith) k₁.high ∙ sym (rw (lt-ltb x n k))
  ended x h (no k) =
      let e : END + x ≡ END + n + (x - n) = omega (arith, k) in
      ap (λ (i : ℕ). get_or ws₂ i 0) e ∙ ap (λ (l : List ℕ). get_or l (END + n + (x - n)) 0) is₂
      ∙ clear_at ws₁ (END + n) (most_identifiers - n) (x - n) (omega (arith, few, size, k₁.same)) (omega (arith, h, k)) ∙ sym (rw (le-ltb x n (omega (arith, k))))

  pub keeps : Keeps n ws ws₂
  keeps = record {
    records = record_none;
    ends = λ x h. node-word ws₂ (END + x) (omega (arith, h)) ∙ ended x h (dec_lt x n);
    high = drop_more (END + n + (most_identifiers - n)) SEEN ws₂ ws₁ (omega (arith, few)) k₂.high ∙ drop_more (RECORD + most_identifiers) SEEN ws₁ ws (omega arith) k₁.high;
    same = k₂.same ∙ k₁.same;
  }
