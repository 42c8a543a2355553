use mathlib.Core.Path.{ap, ◌∙◌}
use lib.ListN.{set}
use Rattle.aliasing.proofs.Writes.{raise_unset, raised_word}
use Rattle.aliasing.proofs.raise_end.Goals as goal

pub returns : goal.returns
returns c = ap (set _ _) c.max.ensures ∙ raised_word _ _ _

pub returns-then-is_unset : goal.returns-then-is_unset
returns-then-is_unset c = raise_unset _ _ _ _ c.is_unset.ensures c.if-is_unset.true
