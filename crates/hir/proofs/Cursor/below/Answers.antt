use Rattle.std.proofs.Common.{rules, ℕ, ltb}
use Rattle.model.specs.Reading.{below}
use Rattle.hir.proofs.Cursor.below.Goals as goal

pub returns : goal.returns
unfolding below
returns c = c.tested.ensures (λ (w : ℕ). ltb w c.args.limit) (λ w b h. search rules)
