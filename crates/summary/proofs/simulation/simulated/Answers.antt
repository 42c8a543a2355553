use Rattle.model.specs.Simulated.{simulation}
use Rattle.aliasing.specs.Says.{mode_says, mutation_says}
use mathlib.Core.Path.{refl}
use Rattle.summary.proofs.simulation.simulated.Goals as goal

pub returns : goal.returns
unfolding simulation mode_says mutation_says
returns c = (refl, refl)
