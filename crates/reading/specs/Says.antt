-- What the answers of the code say.
use Rattle.std.specs.Prelude.{Result, Ok, Err}
use Rattle.model.specs.Reading.{Result as Got, got, refused}
use Rattle.hir.specs.Says.{says}
use Rattle.hir.specs.Refusals.{refusal_number}
use Rattle.hir.specs.declared.Cursor.{Cursor}
use Rattle.hir.specs.declared.refusal.Refusal.{Refusal}
use Rattle.reading.specs.TotalsSays.{totals_are}
use Rattle.reading.specs.Whole.{Heading as TheHeading, Judgement, refusal, acceptance}
use Rattle.reading.specs.declared.Heading.{Heading}
use Rattle.reading.specs.declared.blocks.Totals.{Totals}

-- the next position, or the refusal's number
abbrev pub cursor_says : Result Cursor Refusal → Got (Unit {0})
cursor_says (Ok c) = got tt c.at
cursor_says (Err k) = refused (refusal_number k)

-- both counts
abbrev pub heading_is : Heading → TheHeading
heading_is h = record { identifiers = h.identifiers; functions = h.functions }

-- both counts with the next position, or the refusal's number
abbrev pub heading_says : Result (Heading × Cursor) Refusal → Got TheHeading
heading_says = says heading_is

-- the refusal's number, or what is told of the sheet
abbrev pub verdict_says : Result Totals Refusal → Judgement
verdict_says (Ok t) = acceptance (totals_are t)
verdict_says (Err k) = refusal (refusal_number k)
