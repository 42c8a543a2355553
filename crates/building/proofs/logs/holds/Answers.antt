use Rattle.std.proofs.Common.{rules, tests, Bool, ◌||◌, false, ℕ, ◌∙◌}
use Rattle.std.proofs.lemmas.Iterator.{YieldsList-from_slice}
use Rattle.std.proofs.lemmas.Iterator.Consumers.{fold_from_yields_List}
use Rattle.workspace.specs.Numbers.{table_number}
use Rattle.building.specs.Logs.{owns_w}
use Rattle.building.proofs.Loops.{fold_part}
use Rattle.building.proofs.logs.holds.Goals as goal

pub returns : goal.returns
returns c =
    let mine = owns_w (table_number c.args.table) c.args.x in
    fold_from_yields_List _ (λ (b : Bool) (w : ℕ). b || mine w) false _ c.fold.ensures.ran (YieldsList-from_slice _ c.iter.ensures.rest)
    (λ a x b q k. (search (rules, tests), search (rules, tests)))
    ∙ fold_part mine c.args.at c.args.n c.args.ws.now
