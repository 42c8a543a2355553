use native.Mathlib.Omega.{arith}
use Rattle.hir.proofs.Widths.{phi_rises}
use Rattle.copies.proofs.Passing.{phi_past}
use Rattle.copies.proofs.past.past_phi.Goals as goal

pub overflow_add-from : goal.overflow_add-from
overflow_add-from c = omega (arith, phi_rises c.args.sheet.now c.args.from, c.requires)

pub list_at-operands-requires : goal.list_at-operands-requires
list_at-operands-requires c = omega (arith, phi_rises c.args.sheet.now c.args.from, c.requires)

pub overflow_add-result : goal.overflow_add-result
overflow_add-result c =
    omega (arith, phi_past c.args.sheet.now c.args.from c.list_at-operands.ensures, c.requires)

pub returns : goal.returns
returns c = phi_past _ _ c.list_at-operands.ensures
