-- What the answers of the judging readers say.
use Rattle.std.specs.Prelude.{Result}
use Rattle.model.specs.Reading.{Result as Got}
use Rattle.hir.specs.Says.{says}
use Rattle.hir.specs.declared.Cursor.{Cursor}
use Rattle.hir.specs.declared.refusal.Refusal.{Refusal}
use Rattle.reading.specs.Judging.{Told, Tally, within}
use Rattle.reading.specs.declared.blocks.Totals.{Totals}

-- the totals as the definitions have them
abbrev pub totals_are : Totals → Told
totals_are t = record { mutations = t.mutations; renders = t.renders; diagnoses = t.diagnoses; applies = t.applies }

-- the same while none is over its limit
abbrev pub so_far : Totals → Tally
so_far t = within (totals_are t)

-- the totals so far with the next position, or the refusal's number
abbrev pub totals_says : Result (Totals × Cursor) Refusal → Got Tally
totals_says = says so_far
