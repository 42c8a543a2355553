-- Document 02, order 10, "Dropped relations give back their places": small sheets, and how many forward edges or entries building holds together at most, the larger number.
use Rattle.std.specs.Prelude.{ℕ, Bool, true, false, ◌&&◌, List, [], ◌∷◌, eqb}
use Rattle.model.specs.Sheet.{Sheet}
use Rattle.model.specs.Reading.{Result, got, refused}
use Rattle.model.specs.Building.{build}
use Rattle.model.specs.Call.{read}
use Rattle.model.specs.Small.{one, two, operand, phi, sheet, block}

-- a sheet and the number
pub record Holding : Type 0 where
  pub sheet : List ℕ
  pub held : ℕ

-- one instruction with these effects, on four identifiers of which 0 and 1 are parameters and 3 is returns; 2 has no node
abbrev of_effects : List (List ℕ) → ℕ → Holding
of_effects es k = record { sheet = sheet 4 (0 ∷ 1 ∷ []) 3 (block 0 [] es ∷ []); held = k }

-- blocks on the same
abbrev of_blocks : List (List ℕ) → ℕ → Holding
of_blocks bs k = record { sheet = sheet 4 (0 ∷ 1 ∷ []) 3 bs; held = k }

-- the table
unfoldable pub holdings : List Holding
holdings =
    -- the edges of all nodes together; a relation again is one more edge, and no entry
    of_effects (two 6 0 1 ∷ two 6 0 1 ∷ two 6 1 0 ∷ []) 3
    -- CreateFrom stores "its entry even if from has no node", and then no edge
    ∷ of_effects (two 10 2 0 ∷ two 10 2 1 ∷ []) 2
    -- "skipped if either node is missing"
    ∷ of_effects (two 6 0 2 ∷ two 5 2 1 ∷ []) 0
    -- "drops its own relations": the edge at 1 is given back each time
    ∷ of_effects (two 6 1 0 ∷ one 9 1 ∷ two 6 1 0 ∷ one 9 1 ∷ two 6 1 0 ∷ []) 1
    -- "others' relations to it stay": the edges at 0
    ∷ of_effects (two 6 0 1 ∷ one 9 1 ∷ two 6 0 1 ∷ one 9 1 ∷ []) 2
    -- what is dropped later was held
    ∷ of_effects (two 6 0 1 ∷ two 6 0 1 ∷ one 9 0 ∷ one 9 1 ∷ []) 2
    -- CreateFrom drops before it stores
    ∷ of_effects (two 6 1 0 ∷ two 6 1 0 ∷ two 10 0 1 ∷ []) 2
    -- a phi operand that waits for a block that never comes; one that waits for its own
    ∷ of_blocks (block 0 (phi 2 (operand 7 0 ∷ operand 8 1 ∷ []) ∷ []) [] ∷ []) 0
    ∷ of_blocks (block 0 (phi 2 (operand 7 0 ∷ operand 0 1 ∷ []) ∷ []) [] ∷ []) 1
    ∷ []

-- what building a sheet that was read holds
abbrev is_held : ℕ → Result Sheet → Bool
is_held k (got s c) = eqb (build s).held k
is_held k (refused n) = false

-- every sheet holds what its row says
unfoldable pub held_so : List Holding → Bool
held_so [] = true
held_so (h ∷ l) = is_held h.held (read h.sheet) && held_so l
