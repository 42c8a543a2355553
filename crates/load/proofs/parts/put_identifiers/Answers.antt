use Rattle.load.proofs.Putting.{identifiers_turn}
use Rattle.load.proofs.parts.put_identifiers.Goals as goal

pub loop-preserved : goal.loop-preserved
loop-preserved c = identifiers_turn _ _ c.loop.invariant c.loop-test.true c.put_identifier.ensures
