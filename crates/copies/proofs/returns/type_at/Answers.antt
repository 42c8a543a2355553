use mathlib.Core.Path.{ap}
use Rattle.model.specs.Sheet.{Identifier}
use Rattle.copies.proofs.returns.type_at.Goals as goal

pub returns : goal.returns
returns c = ap (λ (i : Identifier). i.type) c.identifier_at.ensures
