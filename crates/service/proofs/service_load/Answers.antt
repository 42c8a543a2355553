use Rattle.service.proofs.Serving.{told_filled}
use Rattle.service.proofs.service_load.Goals as goal

pub returns : goal.returns
returns c =
    told_filled _ c.class_load.ensures c.from.ensures
