use Rattle.inference.proofs.Ending.{refused_came}
use Rattle.service.proofs.ServingFor.{outside_told}
use Rattle.service.proofs.refuse_outside.Goals as goal

pub returns : goal.returns
returns c =
    outside_told (refused_came c.refuse.ensures.refused c.refuse.ensures.workspace c.refuse.ensures.answer) c.from.ensures
