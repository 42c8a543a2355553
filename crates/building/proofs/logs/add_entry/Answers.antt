use mathlib.Core.Path.{sym, ◌∙◌}
use Rattle.building.proofs.Writes.{entry_kept, entry_full, entry_stored}
use Rattle.building.proofs.logs.add_entry.Goals as goal

pub returns-then-has_entry : goal.returns-then-has_entry
returns-then-has_entry c =
    entry_kept _ _ _ c.requires.room c.requires.w_value (sym c.has_entry.ensures ∙ c.if-has_entry.true)

pub returns-then-h-ge-MOST_RELATIONS : goal.returns-then-h-ge-MOST_RELATIONS
returns-then-h-ge-MOST_RELATIONS c =
    entry_full _ _ _ c.requires.room c.requires.w_value (sym c.has_entry.ensures ∙ c.if-has_entry.false) c.if-h-ge-MOST_RELATIONS.true c.over.ensures

pub returns : goal.returns
returns c =
    entry_stored _ _ _ c.requires.room c.requires.w_value (sym c.has_entry.ensures ∙ c.if-has_entry.false) c.if-h-ge-MOST_RELATIONS.false c.max-h.ensures
