use Rattle.model.specs.Load.{draw_below}
use Rattle.load.proofs.draws.Generator.below.Goals as goal

pub returns : goal.returns
unfolding draw_below
returns c = rw c.next_state-self.ensures
