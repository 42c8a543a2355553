use native.Mathlib.Omega.{arith}
use mathlib.Core.Path.{refl}
use Rattle.model.specs.Limits.{place_width}
use Rattle.hir.specs.Words.{place_at}
use Rattle.hir.proofs.Widths.{wide_rises}
use Rattle.operands.proofs.RangeLoops.{ranging_inside, ranging_below, ranging_turn, ranging_end}
use Rattle.operands.proofs.ranges.name_lvalues.Goals as goal

pub place_at-requires : goal.place_at-requires
place_at-requires c =
    ranging_inside c.loop.invariant (wide_rises place_width place_at) c.loop-test.true c.requires.places_in.inside

pub name_lvalue-requires : goal.name_lvalue-requires
name_lvalue-requires c =
    (ranging_below c.loop.invariant c.loop-test.true c.place_at.ensures, (omega (arith, c.requires.in_bounds.0, c.loop.invariant.kept.same), omega (arith, c.requires.in_bounds.1)))

pub overflow_add-next : goal.overflow_add-next
overflow_add-next c =
    omega (arith, ranging_inside c.loop.invariant (wide_rises place_width place_at) c.loop-test.true c.requires.places_in.inside)

pub loop-preserved : goal.loop-preserved
loop-preserved c =
    ranging_turn c.loop.invariant c.loop-test.true c.place_at.ensures refl c.name_lvalue.ensures

pub returns : goal.returns
returns c = ranging_end c.loop.invariant c.loop-test.false
