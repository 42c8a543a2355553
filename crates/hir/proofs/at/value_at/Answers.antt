use native.Mathlib.Omega.{arith}
use mathlib.Core.Path.{sym}
use Rattle.hir.proofs.Standing.{part-value, part_next}
use Rattle.hir.proofs.Values.{value_zero, value-one, value_more}
use Rattle.hir.proofs.at.value_at.Goals as goal

pub bounds-s-inside : goal.bounds-s-inside
bounds-s-inside c = omega (arith, part_next (value-one c.args.s.now c.args.at c.in-1.is), c.requires)

pub bounds-s-inside-in_default : goal.bounds-s-inside-in_default
bounds-s-inside-in_default c = omega (arith, part_next (value_more c.args.s.now c.args.at (omega arith)), c.requires)

pub returns-in-0 : goal.returns-in-0
returns-in-0 c =
    let e = value_zero c.args.s.now c.args.at c.in-0.is in
    record { value = sym (part-value e); next = sym (part_next e) }

pub returns-in-1 : goal.returns-in-1
returns-in-1 c =
    let e = value-one c.args.s.now c.args.at c.in-1.is in
    record { value = sym (part-value e); next = sym (part_next e) }

pub returns-in_default : goal.returns-in_default
returns-in_default c =
    let e = value_more c.args.s.now c.args.at (omega arith) in
    record { value = sym (part-value e); next = sym (part_next e) }
