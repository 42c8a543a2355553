use Rattle.copies.specs.declared.effect_lists.Section.TheVariants.{Diagnostics, Effects}
use native.Mathlib.Omega.{arith}
use mathlib.Core.Path.{ap}
use mathlib.Core.Bool.{not}
use Rattle.model.specs.Answer.{diagnostic_words}
use Rattle.writing.proofs.Writing.{writes_as}
use Rattle.copies.proofs.Blocks.{effect-taken, effect-left}
use Rattle.copies.proofs.effect_lists.copy_effect.Goals as goal

pub returns-then-not-takes : goal.returns-then-not-takes
returns-then-not-takes c =
    effect-left _ _ _ c.effect_at-e.ensures c.role_of.ensures c.takes.ensures (ap not c.if-not-takes.true) _

pub returns-in-Diagnostics : goal.returns-in-Diagnostics
returns-in-Diagnostics c =
    effect-taken _ _ _ c.effect_at-e.ensures c.role_of.ensures c.takes.ensures (ap not c.if-not-takes.false) Diagnostics c.in-Diagnostics.is
    (writes_as c.put_diagnostic.ensures (ap diagnostic_words c.diagnostic_of.ensures)) (omega arith)

pub returns-in-Effects : goal.returns-in-Effects
returns-in-Effects c =
    effect-taken _ _ _ c.effect_at-e.ensures c.role_of.ensures c.takes.ensures (ap not c.if-not-takes.false) Effects c.in-Effects.is c.put_effect.ensures (omega arith)
