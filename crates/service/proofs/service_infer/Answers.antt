use Rattle.std.proofs.Common.{arith}
use Rattle.service.proofs.ServingFor.{told-outside, told_inside}
use Rattle.service.proofs.service_infer.Goals as goal

pub returns-then-callers-position : goal.returns-then-callers-position
returns-then-callers-position c = told-outside c.args.callers.now c.args.position c.args.sheet.now c.args.workspace.now c.args.answer.now c.if-callers-position.true c.refuse_outside.ensures

pub returns : goal.returns
returns c = told_inside c.args.callers.now c.args.position c.args.sheet.now c.args.workspace.now c.args.answer.now (omega (arith, c.if-callers-position.false)) c.turn_from-turn.ensures
