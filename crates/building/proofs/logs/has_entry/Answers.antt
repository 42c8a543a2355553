use Rattle.std.proofs.Common.{rules, tests, Bool, ◌||◌, false, ℕ, ◌∙◌}
use Rattle.std.proofs.lemmas.Iterator.{YieldsList-from_slice}
use Rattle.std.proofs.lemmas.Iterator.Consumers.{fold_from_yields_List}
use Rattle.building.specs.Logs.{same_w}
use Rattle.building.proofs.Loops.{fold_part}
use Rattle.building.proofs.logs.has_entry.Goals as goal

pub returns : goal.returns
returns c =
    fold_from_yields_List _ (λ (b : Bool) (v : ℕ). b || same_w c.args.w v) false _ c.fold.ensures.ran (YieldsList-from_slice _ c.iter.ensures.rest)
    (λ a x b q k. (search (rules, tests), search (rules, tests)))
    ∙ fold_part (same_w c.args.w) 8707 c.args.n c.args.ws.now
