use Prim.Native.Nat.{ℕ, ◌+◌}
use native.Mathlib.Omega.{arith}
use mathlib.Core.Bool.{not}
use mathlib.Core.Path.{ap, ◌∙◌}
use lib.Dec.{eqb}
use lib.Seq.{get_or-set_other}
use Rattle.workspace.specs.Graph.{MISSING}
use Rattle.workspace.specs.Layout.{SEEN, VALUE}
use Rattle.aliasing.proofs.Enters.{enters_seen, enters_marked}
use Rattle.aliasing.proofs.enter.Goals as goal

pub returns-then-level-ws : goal.returns-then-level-ws
returns-then-level-ws c = enters_seen _ _ _ c.if-level-ws.true

pub returns : goal.returns
returns c =
    let e = enters_marked c.args.ws.now c.args.x c.args.level c.if-level-ws.false in
    (e.0, ap (λ (v : ℕ). not (eqb v MISSING)) (get_or-set_other c.args.ws.now (SEEN + c.args.x) (VALUE + c.args.x) (c.args.level + 1) 0 (omega arith)) ∙ e.1)
