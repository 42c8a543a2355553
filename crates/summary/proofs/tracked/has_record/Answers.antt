use Rattle.summary.proofs.Held.{has_words}
use mathlib.Core.Path.{sym}
use Rattle.summary.proofs.tracked.has_record.Goals as goal

pub returns : goal.returns
returns c = sym (has_words _ _ c.requires.0)
