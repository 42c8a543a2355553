use Rattle.std.proofs.Common.{rules, ℕ, eqb}
use Rattle.model.specs.Reading.{fixed}
use Rattle.hir.proofs.Cursor.fixed.Goals as goal

pub returns : goal.returns
unfolding fixed
returns c = c.tested.ensures (λ (w : ℕ). eqb w c.args.count) (λ w b h. search rules)
