use Rattle.model.specs.Marks.{with_effect}
use mathlib.Core.Path.{refl}
use Rattle.operands.proofs.given.with_effect.Goals as goal

pub returns : goal.returns
unfolding with_effect
returns c = refl
