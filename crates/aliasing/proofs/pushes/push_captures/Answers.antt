use borrow.Author.Tests.{not-true, not-false}
use Rattle.hir.specs.Mutations.{kind_bit}
use Rattle.workspace.specs.Rows.{rows_of}
use Rattle.writing.proofs.Writing.{wrote_none, wrote_as}
use Rattle.aliasing.proofs.PushLaws.{captures_open, captures_shut}
use Rattle.aliasing.proofs.pushes.push_captures.Goals as goal

pub returns-then-not-entry : goal.returns-then-not-entry
returns-then-not-entry c =
    let e = c.args.entry in
    wrote_as (wrote_none _ _) (captures_shut (rows_of c.args.ws.now) e.place.0 c.args.index e.transitive (kind_bit e.kind) (not-true _ c.if-not-entry.true))

pub returns : goal.returns
returns c =
    let e = c.args.entry in
    wrote_as c.push_list.ensures (captures_open (rows_of c.args.ws.now) e.place.0 c.args.index e.transitive (kind_bit e.kind) (not-false _ c.if-not-entry.false))
