use native.Mathlib.Omega.{arith}
use mathlib.Core.Path.{◌∙◌, sym, ap}
use Rattle.model.specs.Answer.{effect_words}
use Rattle.model.specs.Lists.{gather}
use Rattle.writing.proofs.Writing.{writes_as, writes_none}
use Rattle.summary.proofs.Collecting.{level_none, level_conditional, level_definite, one-effect}
use Rattle.summary.proofs.records.put_record.Goals.{in-1, in_default}
use Rattle.summary.proofs.records.put_record.Goals as goal

pub returns-in-0 : goal.returns-in-0
returns-in-0 c = writes_as (writes_none _) (sym (ap (gather effect_words) (level_none _ _ _ _ _ c.in-0.is)))

pub returns : goal.returns
returns c = elim c.match-level.branch [
  | in-1 w ↦ writes_as (rw w.kind-is at c.put_effect.ensures) (one-effect _ ∙ sym (ap (gather effect_words) (level_conditional _ _ _ _ _ w.in-1.is)))
  | in_default w ↦ writes_as (rw w.kind-is at c.put_effect.ensures) (one-effect _ ∙ sym (ap (gather effect_words) (level_definite c.args.level _ _ _ _ (omega arith))))
]
