use mathlib.Core.Path.{sym, ◌∙◌}
use Rattle.workspace.proofs.Clearing.{cleared_all}
use Rattle.inference.proofs.Ending.{refused_all}
use Rattle.dot.proofs.refuse.Goals as goal

pub returns : goal.returns
returns c = refused_all (c.fill.ensures.after (λ y e. e) ∙ sym (cleared_all _)) (c.fill-2.ensures.after (λ y e. e) ∙ sym (cleared_all _))
