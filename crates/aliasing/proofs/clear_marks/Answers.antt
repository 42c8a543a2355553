use Rattle.aliasing.proofs.Begin.{unmarked}
use Rattle.aliasing.proofs.clear_marks.Goals as goal

pub returns : goal.returns
returns c = unmarked _ c.requires.size _ c.clear.ensures
