use native.Mathlib.Omega.{arith}
use Rattle.copies.proofs.Errors.{functions_again, handed_room}
use Rattle.diagnostics.proofs.Diagnosing.{HandedPut, handed_put, handed_not, handed_as, count_least, section_few, diagnostics_put}
use Rattle.diagnostics.proofs.put_diagnostics.Goals as goal
use Rattle.diagnostics.proofs.put_diagnostics.Goals.{then-f, else-f, Joined-f}

-- what was handed over, whichever way the test of errors went
handed : (c : Joined-f) → HandedPut c.args.sheet.now c.args.lists.now c.args.ws.now c.args.f c.args.renders c.args.hand c.put_recorded.new.out c.if-f.ws c.if-f.out
handed c =
    let k = c.requires.describes.1 in
    let g = functions_again k.1.functions k.0.m in
    let low = c.requires.renders_le_most_renders.1.0 in
    elim c.if-f.branch [
      | then-f w ↦ handed_as (handed_put _ _ _ _ _ g low c.requires.indexed.size c.put_handed.ensures w.if-f.true c.requires.renders_le_most_renders.0 w.process_renders.ensures) w.ws-is w.out-is
      | else-f w ↦ handed_as (handed_not _ _ _ _ _ g low c.requires.indexed.size c.put_handed.ensures w.if-f.false) w.ws-is w.out-is
    ]

pub put_handed-requires-clause-functions : goal.put_handed-requires-clause-functions
put_handed-requires-clause-functions c = let k = c.requires.describes.1 in functions_again k.1.functions k.0.m

pub process_renders-requires-clause-functions : goal.process_renders-requires-clause-functions
process_renders-requires-clause-functions c = let k = c.requires.describes.1 in functions_again k.1.functions k.0.m

pub process_renders-requires-clause-renders_bound : goal.process_renders-requires-clause-renders_bound
process_renders-requires-clause-renders_bound c =
    let k = c.requires.describes.1 in
    let room = handed_room (functions_again k.1.functions k.0.m) c.args.hand (omega arith) c.put_handed.ensures in
    omega (arith, c.put_recorded.ensures.few, k.0.short, room)

pub overflow_sub-out : goal.overflow_sub-out
overflow_sub-out c =
    count_least c.requires.describes c.put.ensures c.put_recorded.ensures (handed (goal.at.overflow_sub-out c).Joined-f)

pub overflow_cast-out : goal.overflow_cast-out
overflow_cast-out c =
    omega (arith, section_few c.requires.describes c.put.ensures c.put_recorded.ensures (handed (goal.at.overflow_cast-out c).Joined-f))

pub returns : goal.returns
returns c =
    diagnostics_put c.requires.describes c.put.ensures c.put_recorded.ensures (handed (goal.at.returns c).Joined-f) c.patch.ensures
