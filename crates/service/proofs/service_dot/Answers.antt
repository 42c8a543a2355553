use Rattle.service.proofs.Serving.{told-drawn}
use Rattle.service.proofs.service_dot.Goals as goal

pub returns : goal.returns
returns c =
    told-drawn _ c.draw.ensures c.from.ensures
