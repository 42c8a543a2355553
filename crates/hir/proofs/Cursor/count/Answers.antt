use Rattle.std.proofs.Common.{rules, ℕ, leb}
use Rattle.model.specs.Reading.{count}
use Rattle.hir.proofs.Cursor.count.Goals as goal

pub returns : goal.returns
unfolding count
returns c = c.tested.ensures (λ (w : ℕ). leb w c.args.most) (λ w b h. search rules)
