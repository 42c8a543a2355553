-- The mission's demand 3 and the call: the ends that an accepted call leaves in the answer buffer are those of demand 3's run of all mutations, in sheet order, taken through the pass over operands (document 02, order 4).
use Rattle.std.specs.Prelude.{ℕ, ◌+◌, ◌*◌, ◌<◌, ◌≡◌, List, length, get_or}
use Rattle.model.specs.Lists.{each}
use Rattle.model.specs.Sheet.{Sheet}
use Rattle.model.specs.Building.{build}
use Rattle.model.specs.Runs.{after}
use Rattle.model.specs.Summary.{built}
use Rattle.model.specs.Call.{IsSheet}
use Rattle.model.specs.Demand3.{how, Demand3}
use Rattle.model.specs.EndsSet.{instructions_of, end_after}

-- where an identifier's end stands among the answer's words: the first section is "ranges (start, end)", after its count
abbrev pub end_at : ℕ → ℕ
end_at x = 2 * x + 2

-- the words are those of the sheet, demand 3 holds of all its mutations, and the buffer has the ends that their run leaves, as the instructions' lvalues and stores then set them
pub record CallEnds (ws buffer : List ℕ) : Type 0 where
  pub sheet : Sheet
  pub read : IsSheet ws sheet
  pub claim : Demand3 sheet (build sheet).mutations
  pub ends : (x : ℕ) → x < length sheet.identifiers
      → get_or buffer (end_at x) 0 ≡ each (end_after x) (instructions_of sheet.blocks) (get_or (after (how sheet) (build sheet).mutations (built sheet)).ends x 0)
