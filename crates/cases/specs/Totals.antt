-- Document 01, refusal 8, and document 02, order 7, its neighbours: calls that get them, as rows of model's table. They stand apart because they take long to compute.
use Rattle.std.specs.Prelude.{ℕ, ◌-◌, List, [], ◌∷◌, ◌++◌, length, replicate, take}
use Rattle.model.specs.Small.{one, sheet, block}
use Rattle.model.specs.Refusals.{Call, row}

-- one instruction with these effects, then 257 renders
abbrev many_renders : List (List ℕ) → List ℕ
many_renders es = sheet 1 [] 0 (block 0 [] (es ++ replicate 257 (one 17 0)) ∷ [])

-- "over 256 renders" is 8, before 7 and 9; order 4: before 10 too, if Apply is there
unfoldable pub totals : List Call
totals =
    row (many_renders (one 12 0 ∷ [])) 16384 0 8
    ∷ row (many_renders [] ++ (0 ∷ [])) 16384 0 8
    -- the kind word of the 257th render ends the sheet: 8; without it "the sheet ends where a word is due". Behind that word stand 7 words of its effect and 3 of the terminal
    ∷ row (take (length (many_renders []) - 10) (many_renders [])) 16384 0 8
    ∷ row (take (length (many_renders []) - 11) (many_renders [])) 16384 0 3
    ∷ []
