use mathlib.Core.Path.{sym, ◌∙◌}
use Rattle.workspace.proofs.Clearing.{cleared_all}
use Rattle.service.proofs.Serving.{told_filled}
use Rattle.service.proofs.ServingFor.{load-outside, load_inside}
use Rattle.service.proofs.load_from.Goals as goal

pub returns-then-position-callers : goal.returns-then-position-callers
returns-then-position-callers c =
    load_inside _ _ _ _ _ _ c.if-position-callers.true (told_filled _ c.class_load.ensures c.from.ensures)

pub returns : goal.returns
returns c =
    load-outside _ _ _ _ _ _ c.if-position-callers.false (c.fill.ensures.after (λ y e. e) ∙ sym (cleared_all _)) c.from-2.ensures
