use Prim.Native.Nat.{◌+◌}
use native.Mathlib.Omega.{arith}
use Rattle.std.proofs.Common.{◌∙◌}
use Rattle.workspace.specs.Layout.{SEEN}
use Rattle.building.proofs.Loops.{contains_part, none_in}
use Rattle.building.proofs.pending.has_come.Goals as goal

pub returns-then-count-eq0 : goal.returns-then-count-eq0
returns-then-count-eq0 c = none_in c.args.block.0 (SEEN + c.args.first) c.args.count c.args.ws.now (omega (arith, c.if-count-eq0.true))

pub returns : goal.returns
returns c = c.contains.ensures.value ∙ contains_part c.args.block.0 (SEEN + c.args.first) c.args.count c.args.ws.now
