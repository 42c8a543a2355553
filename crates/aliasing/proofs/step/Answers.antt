use borrow.Author.Tests.{not-true, not-false}
use mathlib.Core.Bool.{not}
use Prim.Native.Nat.{ℕ, ◌-◌}
use mathlib.Core.List.{List}
use mathlib.Core.Path.{ap, subst, ◌∙◌}
use Rattle.workspace.specs.Rows.{rows_of}
use Rattle.aliasing.specs.Pushes.{pushed_w}
use Rattle.writing.specs.Wrote.{Wrote}
use Rattle.aliasing.proofs.Bits.{tag_direction, byte_bit, tag_bit}
use Rattle.aliasing.proofs.Steps.{step_enters}
use Rattle.aliasing.proofs.step.Goals as goal

pub returns-then-not-enter : goal.returns-then-not-enter
returns-then-not-enter c =
    let a = c.args in
    let enters = step_enters a.m a.base a.ws.now a.top a.hand c.requires.ready c.requires.lt_top c.unpack-entry.ensures c.enter.ensures in
    enters.passed (not-true _ (ap not c.if-not-enter.true))

pub push_all-top-requires-clause-room : goal.push_all-top-requires-clause-room
push_all-top-requires-clause-room c =
    let a = c.args in
    let enters = step_enters a.m a.base a.ws.now a.top a.hand c.requires.ready c.requires.lt_top c.unpack-entry.ensures c.enter.ensures in
    (enters.accepted (not-false _ (ap not c.if-not-enter.false)) _ _ c.record_errors-hand.ensures _ c.accept.ensures).room

pub returns : goal.returns
returns c =
    let a = c.args in
    let enters = step_enters a.m a.base a.ws.now a.top a.hand c.requires.ready c.requires.lt_top c.unpack-entry.ensures c.enter.ensures in
    let e = c.unpack-entry.result in
    (enters.accepted (not-false _ (ap not c.if-not-enter.false)) _ _ c.record_errors-hand.ensures _ c.accept.ensures).stepped _ _
    (subst (λ (vs : List ℕ). Wrote vs c.accept.new.ws (a.top - 1) c.push_all-top.new.ws c.push_all-top.result)
    (λ j. pushed_w (rows_of c.accept.new.ws) e.place.0 (tag_direction e.direction j) a.m.index ((c.from-transitive.ensures ∙ byte_bit e.transitive) j) (tag_bit e.kind j))
    c.push_all-top.ensures)
