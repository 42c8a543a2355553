use native.Mathlib.Omega.{arith}
use Rattle.dataflow.proofs.Phi.{phi_inside, phi_can, next_inside, phi_builds}
use Rattle.dataflow.proofs.phis.build_phi.Goals as goal

pub phi_at-requires : goal.phi_at-requires
phi_at-requires c = phi_inside _ _ c.requires

pub phi-requires : goal.phi-requires
phi-requires c =
    let both = phi_can _ _ c.requires in
    record { sound = both.0; phi_fits = both.1 }

pub overflow_add-result : goal.overflow_add-result
overflow_add-result c =
    omega (arith, next_inside c.args.s.now c.args.at c.requires c.phi_at.ensures)

pub returns : goal.returns
returns c =
    phi_builds _ _ c.requires c.phi_at.ensures c.phi.ensures
