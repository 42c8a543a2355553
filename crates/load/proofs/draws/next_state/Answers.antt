use native.Mathlib.Omega.{arith}
use Rattle.model.specs.Load.{next_state}
use Rattle.load.proofs.draws.next_state.Goals as goal

pub returns : goal.returns
unfolding next_state
returns c = omega arith
