use native.Mathlib.Omega.{arith}
use Rattle.hir.proofs.Widths.{phi_rises}
use Rattle.building.proofs.Storing.{count_is}
use Rattle.building.proofs.PhiSteps.{phi-below, fits_after, phi_alone, phi-step}
use Rattle.building.proofs.Building.phi.Goals as goal

pub phi_at-phi-requires : goal.phi_at-phi-requires
phi_at-phi-requires c = omega (arith, phi_rises c.args.s.now c.args.at, c.requires.phi_fits.inside)

pub create-requires-clause-place_lt_most_identifiers : goal.create-requires-clause-place_lt_most_identifiers
create-requires-clause-place_lt_most_identifiers c = (phi-below c.requires.phi_fits c.phi_at-phi.ensures, tt)

pub returns-else-count-ne0 : goal.returns-else-count-ne0
returns-else-count-ne0 c =
    phi_alone c.requires.phi_fits c.phi_at-phi.ensures (c.create.ensures c.args.s.now) c.if-count-ne0.false

pub operands-requires : goal.operands-requires
operands-requires c =
    record { sound = ((c.create.ensures c.args.s.now).sound, (c.create.ensures c.args.s.now).holding c.requires.sound.1); phi_fits = (fits_after c.requires.phi_fits c.phi_at-phi.ensures (c.create.ensures c.args.s.now), (count_is _ _ c.phi_at-phi.ensures, omega (arith, c.if-count-ne0.true))) }

pub returns-then-count-ne0 : goal.returns-then-count-ne0
returns-then-count-ne0 c =
    phi-step c.requires.phi_fits c.phi_at-phi.ensures (c.create.ensures c.args.s.now) c.operands.ensures
