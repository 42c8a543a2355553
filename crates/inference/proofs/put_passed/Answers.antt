use Rattle.inference.proofs.Passing.{passed_put}
use Rattle.inference.proofs.put_passed.Goals as goal

pub returns : goal.returns
returns c = passed_put c.put_operands.ensures c.put_ranges.ensures
