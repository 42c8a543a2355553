use mathlib.Core.Path.{refl, sym, ◌∙◌}
use Rattle.building.proofs.Loops.{leave_start, leave_keep, leave_drop, leave_end}
use Rattle.building.proofs.logs.leave.Goals.{then-owner-x, else-owner-x}
use Rattle.building.proofs.logs.leave.Goals as goal

pub loop-i-init : goal.loop-i-init
loop-i-init c = leave_start _ _ _ _ _ c.requires _ c.others-first.ensures

pub loop-i-preserved : goal.loop-i-preserved
loop-i-preserved c = elim c.if-owner-x.branch [
  | then-owner-x w ↦ rw (w.ws-is, w.left-is) (leave_keep _ _ _ _ _ _ _ _ c.loop-i.invariant c.loop-i-test.true _ refl (λ p. w.if-owner-x.true (c.owner.ensures ∙ p)))
  | else-owner-x w ↦ rw (w.ws-is, w.left-is) (leave_drop _ _ _ _ _ _ _ _ c.loop-i.invariant c.loop-i-test.true (sym c.owner.ensures ∙ w.if-owner-x.false))
]

pub returns : goal.returns
returns c = leave_end _ _ _ _ _ _ _ _ c.loop-i.invariant c.loop-i-test.false
