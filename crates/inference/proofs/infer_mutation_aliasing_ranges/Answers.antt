use native.Mathlib.Omega.{arith}
use mathlib.Core.Path.{refl}
use Rattle.std.proofs.Common.{rules}
use Rattle.inference.proofs.Ending.{refused_came}
use Rattle.inference.proofs.Calling.{ready_by, call_refused, call_ten, call_nine, call-answered}
use Rattle.inference.proofs.infer_mutation_aliasing_ranges.Goals as goal

pub returns-then-function : goal.returns-then-function
returns-then-function c =
    call_ten _ _ _ _ c.prepare.ensures c.in-Ok.is c.if-function.true (refused_came c.refuse-then-function.ensures.refused c.refuse-then-function.ensures.workspace c.refuse-then-function.ensures.answer)

pub put_answer-requires : goal.put_answer-requires
put_answer-requires c =
    let (s, (_, (_, (ready, _)))) = ready_by c.prepare.ensures c.in-Ok.is in
    record { prepared = (s, ready); most_answer_bound = omega (arith, c.new-out.ensures.at_start) }

pub returns-then-answer-length : goal.returns-then-answer-length
returns-then-answer-length c =
    call_nine _ _ _ _ c.prepare.ensures c.in-Ok.is c.if-function.false c.new-out.ensures.at_start c.new-out.ensures.items c.put_answer.ensures (search rules) c.if-answer-length.true (refused_came c.refuse-then-answer-length.ensures.refused c.refuse-then-answer-length.ensures.workspace c.refuse-then-answer-length.ensures.answer)

pub returns-in-Err : goal.returns-in-Err
returns-in-Err c = call_refused _ _ _ _ c.prepare.ensures c.in-Err.is (refused_came c.refuse.ensures.refused c.refuse.ensures.workspace c.refuse.ensures.answer)

pub returns-else-answer-length : goal.returns-else-answer-length
returns-else-answer-length c =
    call-answered _ _ _ _ c.prepare.ensures c.in-Ok.is c.if-function.false c.new-out.ensures.at_start c.new-out.ensures.items c.put_answer.ensures (search rules) c.if-answer-length.false refl c.clear_from.ensures c.clear_from-in-Ok.ensures
