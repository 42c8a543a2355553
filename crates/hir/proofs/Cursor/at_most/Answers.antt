use Rattle.std.proofs.Common.{rules, ℕ, leb}
use Rattle.model.specs.Reading.{at_most}
use Rattle.hir.proofs.Cursor.at_most.Goals as goal

pub returns : goal.returns
unfolding at_most
returns c = c.tested.ensures (λ (w : ℕ). leb w c.args.most) (λ w b h. search rules)
