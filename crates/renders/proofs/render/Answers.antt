use Rattle.renders.proofs.Walks.{start_ready, walked_is}
use Rattle.renders.proofs.render.Goals as goal

pub walk-requires : goal.walk-requires
walk-requires c =
    start_ready c.args.ws.now c.args.index c.args.start.0 c.requires.indexed c.requires.start_lt_most_identifiers _ c.clear.ensures

pub returns : goal.returns
returns c =
    walked_is c.args.ws.now c.args.index c.args.start.0 c.requires.indexed c.requires.start_lt_most_identifiers _ c.clear.ensures _ _ _ c.walk.ensures
