use native.Mathlib.Omega.{arith}
use Rattle.hir.proofs.Widths.{phi_rises}
use Rattle.building.proofs.Storing.{operands_start, operands_end, operands_done, operands_turn, operand_inside, operand_index, operand_below}
use Rattle.building.proofs.phis.store_operands.Goals as goal

pub phi_at-phi-requires : goal.phi_at-phi-requires
phi_at-phi-requires c = omega (arith, phi_rises c.args.s.now c.args.at, c.requires.stands.0.inside)

pub overflow_add-index-end : goal.overflow_add-index-end
overflow_add-index-end c = omega (arith, operands_end _ _ _ c.phi_at-phi.ensures c.requires.stands.0)

pub loop-index-init : goal.loop-index-init
loop-index-init c = operands_start _ _ _ c.phi_at-phi.ensures c.requires.stands.0 c.requires.stands.1 c.requires.room (omega arith)

pub operand_at-requires : goal.operand_at-requires
operand_at-requires c = operand_inside c.loop-index.invariant (omega arith)

pub store_operand-requires-clause-identifier_lt_most_identifiers : goal.store_operand-requires-clause-identifier_lt_most_identifiers
store_operand-requires-clause-identifier_lt_most_identifiers c =
    let more = operand_index c.loop-index.invariant (omega arith) in
    (operand_below c.loop-index.invariant (omega arith) c.operand_at.ensures, (c.loop-index.invariant.known, (more, c.loop-index.invariant.few)))

pub overflow_add-next : goal.overflow_add-next
overflow_add-next c = omega (arith, operand_inside c.loop-index.invariant (omega arith))

pub loop-index-preserved : goal.loop-index-preserved
loop-index-preserved c = operands_turn c.loop-index.invariant (omega arith) c.operand_at.ensures c.store_operand.ensures (omega arith)

pub returns : goal.returns
returns c = operands_done c.loop-index.invariant (omega arith)
