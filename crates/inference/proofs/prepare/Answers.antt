use mathlib.Core.Path.{◌≡◌, refl, sym, ◌∙◌}
use mathlib.Core.Bool.{◌||◌}
use lib.Dec.{ltb}
use borrow.Author.Tests.{lt-ltb, le-ltb}
use Rattle.inference.proofs.Calling.{accepted_is, accepted_none, accepted_tells, short_refused, reading_left, reading_prepares}
use Rattle.inference.proofs.prepare.Goals as goal
use Rattle.inference.proofs.prepare.Goals.{then-totals-gt0, else-totals-gt0}

pub returns-then-ws-lt-LEAST : goal.returns-then-ws-lt-LEAST
returns-then-ws-lt-LEAST c = short_refused _ _ c.if-ws-lt-LEAST.true

pub returns-in_err-totals : goal.returns-in_err-totals
returns-in_err-totals c = reading_left _ _ c.if-ws-lt-LEAST.false _ c.from_residual.ensures.1 c.in_err-totals.ensures

pub build-requires : goal.build-requires
build-requires c =
    let said = sym c.in_ok-totals.ensures in
    let t = c.in_ok-totals.totals in
    let copies : c.if-totals-gt0.copies ≡ (ltb 0 t.diagnoses || ltb 0 t.renders) =
    elim c.if-totals-gt0.branch [
      | then-totals-gt0 w ↦ w.copies-is ∙ sym (rw (lt-ltb 0 t.diagnoses w.if-totals-gt0.true) refl)
      | else-totals-gt0 w ↦ w.copies-is ∙ sym (rw (le-ltb 0 t.diagnoses w.if-totals-gt0.false) refl)
    ] in
    record {
      in_bounds = c.if-ws-lt-LEAST.false;
      sheet = accepted_is c.args.sheet.now said;
      none_unless = λ h. accepted_none c.args.sheet.now said (sym copies ∙ h);
      applies_is = accepted_tells c.args.sheet.now said;
    }

pub returns : goal.returns
returns c = reading_prepares _ _ c.if-ws-lt-LEAST.false c.build.ensures
