use Rattle.summary.proofs.Marking.{mark_yes, mark_no}
use Rattle.summary.proofs.tracked.marked.Goals as goal

pub returns-then-has_record : goal.returns-then-has_record
returns-then-has_record c = mark_yes _ _ c.requires.0 c.has_record.ensures c.if-has_record.true

pub returns-else-has_record : goal.returns-else-has_record
returns-else-has_record c = mark_no _ _ c.requires.0 c.has_record.ensures c.if-has_record.false
