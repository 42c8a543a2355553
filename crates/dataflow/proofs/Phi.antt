-- A phi: its node, then its operands.
use Prim.Native.Nat.{ℕ, ◌+◌, ◌*◌, ◌≤◌}
use native.Mathlib.Omega.{arith}
use mathlib.Core.Path.{◌≡◌, ap, sym, ◌∙◌}
use mathlib.Core.List.{List}
use lib.ListN.{length}
use Rattle.model.specs.Limits.{place_width, operand_width}
use Rattle.model.specs.Sheet.{Operand}
use Rattle.model.specs.Reading.{Position}
use Rattle.model.specs.Building.{phi_node}
use Rattle.hir.specs.declared.at.Phi.{Phi}
use Rattle.hir.specs.Words.{Part, operand_at, phi_from}
use Rattle.hir.specs.Parts.{PhiAt}
use Rattle.hir.proofs.Widths.{Rises, several_wide, phi_rises}
use Rattle.building.specs.declared.Building.{Building}
use Rattle.building.specs.Built.{Sound, Holding, PhiFits, StepsOn}
use Rattle.building.proofs.Storing.{operands_are}
use Rattle.instructions.specs.Builds.{Ready, Builds}
use Rattle.dataflow.specs.Cost.{phi_cost}
use Rattle.dataflow.specs.Ranges.{PhiInRange}

pub rises : Rises phi_from
rises s c = omega (arith, phi_rises s c)

module _ (s : List ℕ) (c : Position) {ws : List ℕ} {b : Building} (w : Ready (phi_from s c) PhiInRange phi_cost s ws b) where
  pub phi_inside : c + place_width + 1 ≤ length s
  phi_inside = omega (arith, w.inside, phi_rises s c)

  -- it can be built
  pub phi_can : (Sound ws b × Holding s ws b) × PhiFits s c b
  unfolding phi_cost
  phi_can = ((w.sound, w.holding), record { inside = w.inside; range = w.range; indexes = omega (arith, w.fits.indexes) })

  module _ {p : Phi} (h : PhiAt s c p) where
    next_is : p.operands.first + p.operands.count * operand_width ≡ (phi_from s c).next
    unfolding phi_from
    next_is = sym (ap (λ (z : Part (List Operand)). z.next) (operands_are s c h) ∙ several_wide operand_width p.operands.count operand_at s p.operands.first)

    pub next_inside : p.operands.first + p.operands.count * operand_width ≤ length s
    next_inside = omega (arith, next_is, w.inside)

    pub phi_builds : {ws' : List ℕ} {r : Building} → StepsOn s (phi_node (phi_from s c).what) (length (phi_from s c).what.operands) 0 0 0 ws b ws' r
        → Builds (phi_from s c) phi_node phi_cost s ws b ws' r (p.operands.first + p.operands.count * operand_width)
    unfolding phi_cost
    phi_builds x = record { spends = x; next = next_is }
