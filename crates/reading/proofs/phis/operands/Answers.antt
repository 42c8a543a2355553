use Rattle.std.proofs.Common.{refl, ◌≡◌, ℕ, suc, ◌-◌, ◌≤◌, false, sym, ◌∙◌, arith}
use Rattle.model.specs.Lists.{among}
use Rattle.model.specs.Limits.{most_block_number}
use Rattle.model.proofs.ReadLaws.{at_most_reads}
use Rattle.reading.specs.Operands.{predecessors}
use Rattle.reading.proofs.BlockLaws.{operand_got, operand_refused}
use Rattle.reading.specs.Says.{cursor_says}
use Rattle.reading.proofs.JudgeLaws.{numbered_next, numbered_refused, numbered_stop, numbered_done, new_got, new_used, new_refused, used_as, none_above, exits}
use Rattle.reading.proofs.OperandLaws.{none_before, at_most_read, whole_next, one-read, below-read}
use Rattle.reading.proofs.phis.operands.Goals.{else-number-above-via-then-number-above+else-among_operands, else-number-above-via-else-number-above}
use Rattle.reading.proofs.phis.operands.Goals as goal

pub loop-init : goal.loop-init
loop-init c =
    let e = none_before c.args.s.now c.args.start.at in
    record { told = λ k z. (let q : k ≡ c.args.count = omega arith in rw q (used_as _ _ _ _ _ _ _ _ (sym e))); whole = omega arith; below = rw e tt }

pub returns-in_err-number : goal.returns-in_err-number
returns-in_err-number c =
    exits cursor_says (λ k. refl) _ _ c.from_residual.ensures.1
    (c.loop.invariant.told (suc (c.args.count - c.loop.counter - 1)) (omega arith) ∙ numbered_refused _ _ _ _ _ _ _ _ (new_refused _ _ _ _ (sym c.in_err-number.ensures)))

pub among_operands-requires-clause-to_in_bounds : goal.among_operands-requires-clause-to_in_bounds
among_operands-requires-clause-to_in_bounds c =
    let q = at_most_read most_block_number c.args.s.now c.loop.c.at _ _ (sym c.in_ok-number.ensures) in
    omega (arith, q.1, q.2)

pub returns-then-among_operands : goal.returns-then-among_operands
returns-then-among_operands c =
    sym (c.loop.invariant.told (suc (c.args.count - c.loop.counter - 1)) (omega arith)
    ∙ numbered_refused _ _ _ _ _ _ _ _ (new_used _ _ _ _ _ (sym c.in_ok-number.ensures) (sym c.if-among_operands.ensures)))

pub overflow_add-number : goal.overflow_add-number
overflow_add-number c =
    let h : c.in_ok-number.field-0-0.0 ≤ most_block_number = at_most_reads most_block_number _ _ _ _ (sym c.in_ok-number.ensures) in
    omega arith

pub returns-in_err-c : goal.returns-in_err-c
returns-in_err-c c =
    let l = c.loop in
    let a = c.args in
    let x : ℕ = c.in_ok-number.field-0-0.0 in
    let fresh : among x (predecessors a.s.now a.start.at l.c.at) ≡ false =
    elim c.else-number-above.branch [
      | else-number-above-via-then-number-above+else-among_operands w ↦ sym w.among_operands.ensures ∙ w.if-among_operands.false
      | else-number-above-via-else-number-above w ↦ sym (none_above x l.above _ w.if-number-above.false l.invariant.below)
    ] in
    exits cursor_says (λ k. refl) _ _ c.from_residual-in_err-c.ensures.1
    (l.invariant.told (suc (a.count - l.counter - 1)) (omega arith)
    ∙ numbered_stop _ _ _ _ _ _ _ _ _ _ (new_got _ _ _ _ _ (sym c.in_ok-number.ensures) fresh) (operand_refused _ _ _ _ _ (sym c.in_err-c.ensures)))

pub loop-preserved : goal.loop-preserved
loop-preserved c =
    let l = c.loop in
    let a = c.args in
    let x : ℕ = c.in_ok-number.field-0-0.0 in
    let q = sym c.in_ok-number.ensures in
    let r = sym c.in_ok-c.ensures in
    let fresh : among x (predecessors a.s.now a.start.at l.c.at) ≡ false =
    elim c.else-number-above.branch [
      | else-number-above-via-then-number-above+else-among_operands w ↦ sym w.among_operands.ensures ∙ w.if-among_operands.false
      | else-number-above-via-else-number-above w ↦ sym (none_above x l.above _ w.if-number-above.false l.invariant.below)
    ] in
    record {
      told = λ k z. l.invariant.told (suc k) (omega arith) ∙ numbered_next _ _ _ _ _ _ _ _ _ _ _ (new_got _ _ _ _ _ q fresh) (operand_got _ _ _ _ _ _ r) ∙ used_as _ _ _ _ _ _ _ _ (one-read a.s.now a.start.at l.c.at _ _ _ _ _ q r l.invariant.whole);
      whole = whole_next a.s.now a.start.at l.c.at _ _ _ _ _ q r l.invariant.whole;
      below = below-read a.s.now a.start.at l.c.at _ _ _ _ _ q r l.invariant.whole _ _ l.invariant.below (omega arith, omega arith);
    }

pub returns : goal.returns
returns c = sym (c.loop.invariant.told 0 (omega arith) ∙ numbered_done _ _ _ _ _ _)
