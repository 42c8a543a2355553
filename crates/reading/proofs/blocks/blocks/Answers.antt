use Rattle.std.proofs.Common.{◌≡◌, ℕ, suc, ◌-◌, ◌≤◌, length, length-set, take, reverse, false, refl, sym, ◌∙◌, arith}
use Rattle.model.specs.Limits.{most_blocks, most_block_number}
use Rattle.model.specs.Lists.{among}
use Rattle.model.proofs.ReadLaws.{count_reads, at_most_reads}
use Rattle.reading.specs.Judging.{nothing_yet}
use Rattle.reading.specs.TotalsSays.{so_far, totals_says}
use Rattle.reading.proofs.BlockLaws.{blocks_got, blocks_refused}
use Rattle.reading.proofs.JudgeLaws.{numbered_next, numbered_refused, numbered_stop, numbered_done, new_got, new_used, new_refused, used_as, latest-stored, stored-any, none_above, below_more, exits}
use Rattle.reading.proofs.blocks.blocks.Goals.{else-number-above-via-then-number-above+else-contains, else-number-above-via-else-number-above}
use Rattle.reading.proofs.blocks.blocks.Goals as goal

pub returns-in_err-count : goal.returns-in_err-count
returns-in_err-count c = exits totals_says (λ k. refl) _ _ c.from_residual.ensures.1 (blocks_refused _ _ _ _ _ _ (sym c.in_err-count.ensures))

pub loop-k-init : goal.loop-k-init
loop-k-init c =
    let e = c.default-totals.ensures in
    record {
      told = λ j z. (let q : j ≡ c.in_ok-count.count = omega arith in let n : nothing_yet ≡ so_far c.default-totals.result = rw (e.0, e.1.0, e.1.1.0, e.1.1.1) in rw (q, n));
      few = count_reads most_blocks _ _ _ _ (sym c.in_ok-count.ensures);
      long = refl;
      below = tt;
    }

pub returns-in_err-number : goal.returns-in_err-number
returns-in_err-number c =
    exits totals_says (λ k. refl) _ _ c.from_residual-in_err-number.ensures.1
    (blocks_got _ _ _ _ _ _ _ (sym c.in_ok-count.ensures)
    ∙ c.loop-k.invariant.told (suc (c.in_ok-count.count - c.loop-k.k - 1)) (omega arith)
    ∙ numbered_refused _ _ _ _ _ _ _ _ (new_refused _ _ _ _ (sym c.in_err-number.ensures)))

pub returns-then-contains : goal.returns-then-contains
returns-then-contains c =
    let l = c.loop-k in
    let k : ℕ = c.in_ok-count.count - l.k - 1 in
    let named = sym (stored-any _ (take l.k l.used)) ∙ sym c.contains.ensures.value ∙ c.if-contains.true in
    sym (blocks_got _ _ _ _ _ _ _ (sym c.in_ok-count.ensures)
    ∙ l.invariant.told (suc k) (omega arith)
    ∙ numbered_refused _ _ _ _ _ _ _ _ (new_used _ _ _ _ _ (sym c.in_ok-number.ensures) named))

pub overflow_add-number : goal.overflow_add-number
overflow_add-number c =
    let h : c.in_ok-number.field-0-0.0 ≤ most_block_number = at_most_reads most_block_number _ _ _ _ (sym c.in_ok-number.ensures) in
    omega arith

pub returns-in_err-totals : goal.returns-in_err-totals
returns-in_err-totals c =
    let l = c.loop-k in
    let x : ℕ = c.in_ok-number.field-0-0.0 in
    let fresh : among x (reverse (take l.k l.used)) ≡ false =
    elim c.else-number-above.branch [
      | else-number-above-via-then-number-above+else-contains w ↦ sym (stored-any x (take l.k l.used)) ∙ sym w.contains.ensures.value ∙ w.if-contains.false
      | else-number-above-via-else-number-above w ↦ sym (none_above x l.above _ w.if-number-above.false l.invariant.below)
    ] in
    exits totals_says (λ k. refl) _ _ c.from_residual-in_err-totals.ensures.1
    (blocks_got _ _ _ _ _ _ _ (sym c.in_ok-count.ensures)
    ∙ l.invariant.told (suc (c.in_ok-count.count - l.k - 1)) (omega arith)
    ∙ numbered_stop _ _ _ _ _ _ _ _ _ _ (new_got _ _ _ _ _ (sym c.in_ok-number.ensures) fresh) (sym (c.in_err-totals.ensures x)))

pub loop-k-preserved : goal.loop-k-preserved
loop-k-preserved c =
    let l = c.loop-k in
    let x : ℕ = c.in_ok-number.field-0-0.0 in
    let fresh : among x (reverse (take l.k l.used)) ≡ false =
    elim c.else-number-above.branch [
      | else-number-above-via-then-number-above+else-contains w ↦ sym (stored-any x (take l.k l.used)) ∙ sym w.contains.ensures.value ∙ w.if-contains.false
      | else-number-above-via-else-number-above w ↦ sym (none_above x l.above _ w.if-number-above.false l.invariant.below)
    ] in
    let long : length l.used ≡ most_blocks = l.invariant.long in
    let latest = latest-stored l.used l.k x (omega arith) in
    record {
      told = λ j z.
          l.invariant.told (suc j) (omega arith)
          ∙ numbered_next _ _ _ _ _ _ _ _ _ _ _ (new_got _ _ _ _ _ (sym c.in_ok-number.ensures) fresh) (sym (c.in_ok-totals.ensures x))
          ∙ used_as _ _ _ _ _ _ _ _ (sym latest);
      few = l.invariant.few;
      long = simp length-set long;
      below = rw latest (below_more _ _ _ _ l.invariant.below (omega arith, omega arith));
    }

pub returns : goal.returns
returns c =
    sym (blocks_got _ _ _ _ _ _ _ (sym c.in_ok-count.ensures)
    ∙ c.loop-k.invariant.told 0 (omega arith)
    ∙ numbered_done _ _ _ _ _ _)
