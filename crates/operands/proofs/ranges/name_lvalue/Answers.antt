use Rattle.operands.proofs.RangeWords.{lvalue_named}
use Rattle.operands.proofs.ranges.name_lvalue.Goals as goal

pub returns : goal.returns
returns c = lvalue_named _ _ c.requires.0 c.set_unset.ensures c.set_unset-2.ensures
