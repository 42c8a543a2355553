use mathlib.Core.Path.{sym}
use Rattle.operands.proofs.RangeWords.{end_at_lem}
use Rattle.operands.proofs.ranges.end_of.Goals as goal

pub returns : goal.returns
returns c = sym (end_at_lem _ _ c.requires.0)
