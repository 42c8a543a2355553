use native.Mathlib.Omega.{arith}
use Rattle.model.specs.Operands.{terminal_places}
use Rattle.hir.specs.Words.{terminal_from}
use Rattle.hir.proofs.Widths.{terminal_rises}
use Rattle.operands.specs.declared.Section.TheVariants.{Terminals}
use Rattle.operands.specs.Phis.{PlacesPut}
use Rattle.operands.proofs.Passing.{taken, put_taken, put_left, put_as, terminal_passed}
use Rattle.operands.proofs.Pass.terminal.Goals as goal
use Rattle.operands.proofs.Pass.terminal.Goals.{then-eq, else-eq}

pub returns : goal.returns
returns c =
    let a = c.args in
    let t = terminal_from a.self.now.sheet.now a.from in
    let places = terminal_places a.self.now.expression t.what in
    let put : PlacesPut (taken Terminals a.self.now.section places) a.from t.next a.out.now c.if-eq.out =
    elim c.if-eq.branch [
      | then-eq w ↦ put_as (put_taken Terminals a.self.now.section c.eq.ensures w.if-eq.true w.put_terminal.ensures) w.out-is
      | else-eq w ↦ put_as (put_left Terminals a.self.now.section places c.eq.ensures w.if-eq.false (omega (arith, terminal_rises a.self.now.sheet.now a.from))) w.out-is
    ] in
    λ lists. terminal_passed _ _ _ put c.past_terminal.ensures
