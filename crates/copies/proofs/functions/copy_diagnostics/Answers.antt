use native.Mathlib.Omega.{arith}
use mathlib.Core.Path.{refl, sym, ◌∙◌}
use Rattle.hir.proofs.Widths.{wide_rises}
use Rattle.hir.specs.Words.{diagnostic_at}
use Rattle.model.specs.Limits.{diagnostic_width}
use Rattle.copies.proofs.Copying.{copying_start, copying_turn, copying_inside, copying_end}
use Rattle.copies.proofs.Errors.{copies_diagnostic, diagnostics_room}
use Rattle.copies.proofs.functions.copy_diagnostics.Goals as goal

pub loop-init : goal.loop-init
loop-init c = copying_start _ _ _ _ _ _

pub diagnostic_at-requires : goal.diagnostic_at-requires
diagnostic_at-requires c =
    copying_inside _ _ _ c.loop.invariant (wide_rises diagnostic_width diagnostic_at) c.loop-test.true c.requires.first_in_bounds

pub put_diagnostic-requires : goal.put_diagnostic-requires
put_diagnostic-requires c =
    omega (arith, diagnostics_room c.loop.invariant, c.loop-test.true, c.requires.count_bound)

pub overflow_add-next : goal.overflow_add-next
overflow_add-next c =
    omega (arith, copying_inside _ _ _ c.loop.invariant (wide_rises diagnostic_width diagnostic_at) c.loop-test.true c.requires.first_in_bounds)

pub loop-preserved : goal.loop-preserved
loop-preserved c =
    copying_turn _ _ _ c.loop.invariant c.loop-test.true (copies_diagnostic c.diagnostic_at.ensures c.put_diagnostic.ensures)

pub returns : goal.returns
returns c =
    let w = (copying_end _ _ _ c.loop.invariant c.loop-test.false).wrote in
    record { wrote = record { words = c.out-1.given.1 (sym w.same) ∙ w.wrote.words; next = w.wrote.next }; same = refl }
