use Rattle.operands.proofs.Giving.{word_given}
use Rattle.operands.proofs.given.given_by.Goals as goal

pub returns : goal.returns
returns c = word_given _ c.checked_sub.result c.map.result c.checked_sub.ensures c.map.ensures.cases
