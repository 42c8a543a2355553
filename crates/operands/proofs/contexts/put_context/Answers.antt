use native.Mathlib.Omega.{arith}
use Rattle.operands.proofs.Inner.{context_few}
use Rattle.operands.proofs.InnerPut.{putting_inside, putting_turn, context_put}
use Rattle.operands.proofs.contexts.put_context.Goals as goal

pub place_at-requires : goal.place_at-requires
place_at-requires c =
    putting_inside c.loop-i.invariant c.loop-i-test.true c.context_of-list.ensures.inside

pub bounds-ws-first : goal.bounds-ws-first
bounds-ws-first c =
    omega (arith, context_few c.requires.known.1.0 c.requires.known.1.1 c.context_of-list.ensures, c.loop-i-test.true, c.requires.known.1.0.size, c.requires.known.1.0.count)

pub put_place-requires : goal.put_place-requires
put_place-requires c =
    omega (arith, c.loop-i.invariant.few, context_few c.requires.known.1.0 c.requires.known.1.1 c.context_of-list.ensures, c.loop-i-test.true, c.requires.most_inner_context_bound)

pub overflow_add-next : goal.overflow_add-next
overflow_add-next c =
    omega (arith, putting_inside c.loop-i.invariant c.loop-i-test.true c.context_of-list.ensures.inside)

pub loop-i-preserved : goal.loop-i-preserved
loop-i-preserved c =
    putting_turn c.loop-i.invariant c.loop-i-test.true c.given_by.result c.place_at.ensures c.given_by.ensures c.give.ensures c.put_place.ensures

pub returns : goal.returns
returns c =
    context_put c.requires.known.1.0 c.requires.known.1.1 c.context_of-list.ensures c.loop-i.invariant c.loop-i-test.false
