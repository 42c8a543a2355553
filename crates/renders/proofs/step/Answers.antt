use native.Mathlib.Omega.{arith}
use mathlib.Core.Path.{sym, ◌∙◌}
use Rattle.renders.proofs.Steps.{step_seen, step_passed, step_room, step-rendered}
use Rattle.renders.proofs.step.Goals as goal

pub returns-then-ws-x-ne0 : goal.returns-then-ws-x-ne0
returns-then-ws-x-ne0 c =
    step_seen c.args.index c.args.ws.now c.args.top c.args.hand c.requires.ready c.requires.lt_top (omega (arith, c.if-ws-x-ne0.true))

pub returns-then-passes_by : goal.returns-then-passes_by
returns-then-passes_by c =
    step_passed c.args.index c.args.ws.now c.args.top c.args.hand c.requires.ready c.requires.lt_top (omega (arith, c.if-ws-x-ne0.false)) (sym c.passes_by.ensures ∙ c.if-passes_by.true)

pub push_origins-top-requires-clause-room : goal.push_origins-top-requires-clause-room
push_origins-top-requires-clause-room c =
    step_room c.args.index c.args.ws.now c.args.top c.args.hand c.requires.ready c.requires.lt_top (omega (arith, c.if-ws-x-ne0.false)) _ _ c.hand_over_function-hand.ensures

pub returns : goal.returns
returns c =
    step-rendered c.args.index c.args.ws.now c.args.top c.args.hand c.requires.ready c.requires.lt_top (omega (arith, c.if-ws-x-ne0.false)) _ _ c.hand_over_function-hand.ensures
    (sym c.passes_by.ensures ∙ c.if-passes_by.false) _ _ c.push_origins-top.ensures
