use Rattle.aliasing.proofs.Start.{started}
use Rattle.aliasing.proofs.mutate.Goals as goal

pub walk-requires : goal.walk-requires
walk-requires c =
    (started c.args.ws.now c.args.hand c.args.m c.requires.indexed c.requires.handing _ _ c.take_base-base.ensures _ c.pack.ensures).ready

pub returns : goal.returns
returns c =
    (started c.args.ws.now c.args.hand c.args.m c.requires.indexed c.requires.handing _ _ c.take_base-base.ensures _ c.pack.ensures).mutated _ _ _ c.walk.ensures
