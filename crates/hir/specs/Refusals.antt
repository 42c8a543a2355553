-- The number that the documents give each refusal.
use Rattle.std.specs.Prelude.{ℕ}
use Rattle.hir.specs.declared.refusal.Refusal.{Refusal}
use Rattle.hir.specs.declared.refusal.Refusal.TheVariants.{ShortWorkspace, LongSheet, SheetEnds, Count, OutOfRange, UsedTwice, WordsFollow, Totals, ShortAnswer, Apply, OutsideRecords}

abbrev pub refusal_number : Refusal → ℕ
refusal_number ShortWorkspace = 1
refusal_number LongSheet = 2
refusal_number SheetEnds = 3
refusal_number Count = 4
refusal_number OutOfRange = 5
refusal_number UsedTwice = 6
refusal_number WordsFollow = 7
refusal_number Totals = 8
refusal_number ShortAnswer = 9
refusal_number Apply = 10
refusal_number OutsideRecords = 11
