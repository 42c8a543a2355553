use mathlib.Core.Path.{sym, ◌∙◌}
use Rattle.workspace.proofs.Clearing.{cleared_all}
use Rattle.writing.proofs.Ending.{filled_refused}
use Rattle.load.proofs.refuse.Goals as goal

pub returns : goal.returns
returns c = filled_refused (c.fill.ensures.after (λ y e. e) ∙ sym (cleared_all _))
