use Rattle.building.proofs.Loops.{others_start, others_turn}
use mathlib.Core.Path.{sym, ◌∙◌}
use Rattle.building.proofs.logs.others.Goals as goal

pub loop-i-init : goal.loop-i-init
loop-i-init c = others_start _ _ _ _

pub loop-i-preserved : goal.loop-i-preserved
loop-i-preserved c = others_turn _ _ _ _ _ 16 c.requires c.loop-i.invariant c.loop-i-test.true (sym c.if-holds.false ∙ c.holds.ensures)
