use Rattle.service.proofs.ServingFor.{of_outside, of_inside}
use Rattle.service.proofs.turn_for.Goals as goal

pub returns-then-callers-position : goal.returns-then-callers-position
returns-then-callers-position c =
    of_outside _ _ _ _ _ _ c.if-callers-position.true c.refuse_outside.ensures

pub returns : goal.returns
returns c =
    of_inside _ _ _ _ _ _ c.if-callers-position.false c.turn_from.ensures
