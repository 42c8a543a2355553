use mathlib.Core.Path.{ap}
use Rattle.model.specs.Answer.{effect_words}
use Rattle.writing.proofs.Writing.{writes_as}
use Rattle.copies.proofs.Creates.{created}
use Rattle.copies.proofs.returns.put_create_returns.Goals as goal

pub returns : goal.returns
returns c =
    writes_as c.put_effect.ensures (ap effect_words (created _ _ _ _ c.from.ensures c.from-2.ensures c.value_kind-value.ensures c.type_at.ensures))
