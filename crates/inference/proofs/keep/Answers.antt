use Rattle.inference.proofs.Keeping.{keeps}
use Rattle.inference.proofs.keep.Goals as goal

pub returns : goal.returns
returns c =
    keeps c.args.ws.now c.args.n c.requires.0 c.requires.1 c.clear.new.ws c.clear.ensures c.clear-2.new.ws c.clear-2.ensures
