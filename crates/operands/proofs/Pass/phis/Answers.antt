use Rattle.model.specs.Operands.{phis_marked}
use mathlib.Core.List.{[]}
use Rattle.hir.specs.Words.{phi_from}
use Rattle.hir.proofs.Widths.{several_rises}
use Rattle.copies.proofs.Passing.{phi_follows}
use Rattle.operands.specs.declared.Section.TheVariants.{Phis}
use Rattle.operands.specs.Ranges.{ranges_of}
use Rattle.operands.specs.Phis.{phis_in, PlacesPut}
use Rattle.operands.proofs.Passing.{phis-count, phis_inside, phis-below, taken, put_taken, put_left, put_as, phis_passed}
use Rattle.operands.proofs.Pass.phis.Goals as goal
use Rattle.operands.proofs.Pass.phis.Goals.{then-eq, else-eq}

pub list_at-list-requires : goal.list_at-list-requires
list_at-list-requires c = phis-count _ _ c.requires.1.inside

pub put_phis-requires-clause-list_in_bounds : goal.put_phis-requires-clause-list_in_bounds
put_phis-requires-clause-list_in_bounds c = phis_inside c.list_at-list.ensures c.requires.1

pub put_phis-requires-clause-every : goal.put_phis-requires-clause-every
put_phis-requires-clause-every c = (phis-below c.list_at-list.ensures c.requires.1, c.requires.1.ready.known.size)

pub start_phis-requires-clause-list_in_bounds : goal.start_phis-requires-clause-list_in_bounds
start_phis-requires-clause-list_in_bounds c = phis_inside c.list_at-list.ensures c.requires.1

pub start_phis-requires-clause-every : goal.start_phis-requires-clause-every
start_phis-requires-clause-every c = (phis-below c.list_at-list.ensures c.requires.1, c.requires.1.ready.known.size)

pub returns : goal.returns
returns c =
    let a = c.args in
    let l = c.list_at-list.result in
    let places = phis_marked (ranges_of a.ws.now) a.order.0 [] (phis_in a.self.now.sheet.now l).what in
    let put : PlacesPut (taken Phis a.self.now.section places) l.first (phis_in a.self.now.sheet.now l).next a.out.now c.if-eq.out =
    elim c.if-eq.branch [
      | then-eq w ↦ put_as (put_taken Phis a.self.now.section c.eq.ensures w.if-eq.true w.put_phis.ensures) w.out-is
      | else-eq w ↦ put_as (put_left Phis a.self.now.section places c.eq.ensures w.if-eq.false (several_rises l.count phi_from phi_follows a.self.now.sheet.now l.first)) w.out-is
    ] in
    λ lists. phis_passed c.list_at-list.ensures _ _ _ _ put c.start_phis.ensures
