-- The predecessors' numbers of a phi, where they stand in the sheet: an operand takes four words, the number first.
use Rattle.std.specs.Prelude.{ℕ, zero, suc, ◌+◌, ◌*◌, ◌-◌, ◌/◌, ◌≡◌, List, [], ◌∷◌, get_or}
use Rattle.model.specs.Sheet.{BlockId}
use Rattle.model.specs.Reading.{Position}
use Rattle.model.specs.Limits.{operand_width}

-- whole operands stand from a position up to another
abbrev pub Whole : Position → Position → Type 0
Whole from to = to ≡ from + operand_width * ((to - from) / operand_width)

-- the numbers of so many operands, the last one first
unfoldable pub first_predecessors : List ℕ → Position → ℕ → List BlockId
first_predecessors ws from zero = []
first_predecessors ws from (suc k) = get_or ws (from + operand_width * k) 0 ∷ first_predecessors ws from k

-- those of the operands from a position up to another
unfoldable pub predecessors : List ℕ → Position → Position → List BlockId
predecessors ws from to = first_predecessors ws from ((to - from) / operand_width)
