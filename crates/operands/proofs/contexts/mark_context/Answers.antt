use native.Mathlib.Omega.{arith}
use mathlib.Core.Path.{◌∙◌}
use Rattle.operands.proofs.Inner.{context_few}
use Rattle.operands.proofs.InnerMarks.{mark_kept, setting_inside, setting_turn, context_marks}
use Rattle.operands.proofs.contexts.mark_context.Goals as goal

pub place_at-p-requires : goal.place_at-p-requires
place_at-p-requires c =
    setting_inside c.loop-i.invariant c.loop-i-test.true c.context_of-list.ensures.inside

pub bounds-ws-first : goal.bounds-ws-first
bounds-ws-first c =
    omega (arith, context_few c.requires.known.1.0 c.requires.known.1.1 c.context_of-list.ensures, c.loop-i-test.true, c.loop-i.invariant.kept.same, c.requires.known.1.0.size, c.requires.known.1.0.count)

pub overflow_add-next : goal.overflow_add-next
overflow_add-next c =
    omega (arith, setting_inside c.loop-i.invariant c.loop-i-test.true c.context_of-list.ensures.inside)

pub loop-i-preserved : goal.loop-i-preserved
loop-i-preserved c =
    let few = context_few c.requires.known.1.0 c.requires.known.1.1 c.context_of-list.ensures in
    setting_turn c.loop-i.invariant c.loop-i-test.true (omega arith) (omega (arith, few, c.loop-i-test.true, c.requires.known.1.0.count, c.requires.known.1.1)) c.mark_of-mark.result c.place_at-p.ensures
    (c.mark_of-mark.ensures ∙ mark_kept c.loop-i.invariant.kept _ _ _ _) c.from.ensures

pub returns : goal.returns
returns c = context_marks c.context_of-list.ensures c.loop-i.invariant c.loop-i-test.false
