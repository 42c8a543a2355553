use mathlib.Core.Path.{refl, sym}
use Rattle.copies.proofs.Errors.{functions-length}
use Rattle.diagnostics.proofs.Rendering.{turn_functions, rendering_turn, rendering_end}
use Rattle.diagnostics.proofs.process_renders.Goals as goal

pub put_handed-requires-clause-functions : goal.put_handed-requires-clause-functions
put_handed-requires-clause-functions c =
    turn_functions c.loop-i.invariant c.render-taken.ensures c.requires.functions (sym (functions-length _ _ _))

pub loop-i-preserved : goal.loop-i-preserved
loop-i-preserved c =
    rendering_turn c.loop-i.invariant c.render-taken.ensures c.requires.functions (sym (functions-length _ _ _)) c.loop-i-test.true c.put_handed.ensures

pub returns : goal.returns
returns c = rendering_end c.loop-i.invariant c.loop-i-test.false refl
