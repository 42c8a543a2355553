-- Document 02, order 2: class loads as a table, their words worked out from its sentences alone, and calls that are refused.
use Rattle.std.specs.Prelude.{ℕ, Bool, true, false, ◌&&◌, List, [], ◌∷◌, length, eqb}
use Rattle.model.specs.Call.{Outcome, refusal, accepted}
use Rattle.model.specs.Load.{load}
use Rattle.model.specs.Bench.{same}
use Rattle.model.specs.Small.{one, two, instruction, other, block_of, sheet}

-- what is said of a call
pub data LoadClaim : Type 0 where
  -- the words that it writes
  words : List ℕ → LoadClaim
  -- how many they are
  long : ℕ → LoadClaim
  -- the number that it is refused with
  refused_with : ℕ → LoadClaim

-- a call: seed, identifiers, effects and the length of the output
pub record LoadCase : Type 0 where
  pub seed : ℕ
  pub identifiers : ℕ
  pub effects : ℕ
  pub room : ℕ
  pub claim : LoadClaim

-- a row
abbrev row : ℕ → ℕ → ℕ → ℕ → LoadClaim → LoadCase
row s n m r c = record { seed = s; identifiers = n; effects = m; room = r; claim = c }

-- the sheet of n identifiers with parameter 0, these returns and instructions, and a terminal of this order
abbrev sheet_of : ℕ → ℕ → List (List ℕ) → ℕ → List ℕ
sheet_of n returns is o = sheet n (0 ∷ []) returns (block_of 0 [] is (other o) ∷ [])

-- the calls
unfoldable pub loads : List LoadCase
loads =
    -- word by word. From seed 0 the state is first 1,013,904,223: divided by 65,536 that is 15,470, and 8 modulo 9, which is kind 10
    row 0 2 1 43 (words (2 ∷ 0 ∷ 1 ∷ 2 ∷ 0 ∷ 0 ∷ 0 ∷ 0 ∷ 0 ∷ 0 ∷ 0 ∷ 1 ∷ 0 ∷ 0 ∷ 0 ∷ 0 ∷ 1 ∷ 1 ∷ 0 ∷ 0 ∷ 1 ∷ 0 ∷ 0 ∷ 1 ∷ 1 ∷ 0 ∷ 0 ∷ 0 ∷ 0 ∷ 0 ∷ 0 ∷ 1 ∷ 10 ∷ 0 ∷ 0 ∷ 0 ∷ 0 ∷ 0 ∷ 0 ∷ 0 ∷ 0 ∷ 2 ∷ 0 ∷ []))
    -- seed 1, and the largest
    ∷ row 1 2 1 43 (words (sheet_of 2 1 (instruction 1 (two 8 0 0 ∷ []) ∷ []) 2))
    ∷ row 4294967295 2 1 43 (words (sheet_of 2 1 (instruction 1 (one 2 1 ∷ []) ∷ []) 2))
    -- kinds of one and of two places, one after another: each of 1 to 8 and 10 is among these
    ∷ row 0 3 4 94 (words (sheet_of 3 2 (instruction 1 (two 10 1 2 ∷ []) ∷ instruction 2 (one 3 0 ∷ []) ∷ instruction 3 (two 8 2 2 ∷ []) ∷ instruction 4 (two 5 1 2 ∷ []) ∷ []) 5))
    ∷ row 2 3 4 94 (words (sheet_of 3 2 (instruction 1 (two 6 0 2 ∷ []) ∷ instruction 2 (one 4 0 ∷ []) ∷ instruction 3 (two 6 2 1 ∷ []) ∷ instruction 4 (two 5 1 2 ∷ []) ∷ []) 5))
    ∷ row 4 3 4 94 (words (sheet_of 3 2 (instruction 1 (one 3 0 ∷ []) ∷ instruction 2 (two 10 0 0 ∷ []) ∷ instruction 3 (one 2 2 ∷ []) ∷ instruction 4 (one 4 0 ∷ []) ∷ []) 5))
    ∷ row 5 3 4 94 (words (sheet_of 3 2 (instruction 1 (one 1 1 ∷ []) ∷ instruction 2 (one 1 2 ∷ []) ∷ instruction 3 (two 7 0 2 ∷ []) ∷ instruction 4 (two 8 2 1 ∷ []) ∷ []) 5))
    ∷ row 4294967295 3 4 94 (words (sheet_of 3 2 (instruction 1 (one 2 2 ∷ []) ∷ instruction 2 (two 7 0 1 ∷ []) ∷ instruction 3 (two 10 2 1 ∷ []) ∷ instruction 4 (two 10 1 2 ∷ []) ∷ []) 5))
    -- identifiers of more than eight bits
    ∷ row 3 512 3 1605 (words (sheet_of 512 511 (instruction 1 (two 5 249 424 ∷ []) ∷ instruction 2 (two 10 43 364 ∷ []) ∷ instruction 3 (one 3 372 ∷ []) ∷ []) 4))
    -- the bounds met: 21 words, three for each identifier and sixteen for each effect
    ∷ row 7 512 1 1573 (long 1573)
    ∷ row 7 2 512 8219 (long 8219)
    ∷ row 7 512 512 16384 (long 9749)
    -- "5 for arguments outside those bounds", also where the output is too short: each passed by one, and by what 16 bits would cut off
    ∷ row 7 1 1 0 (refused_with 5)
    ∷ row 7 2 0 0 (refused_with 5)
    ∷ row 7 1 1 16384 (refused_with 5)
    ∷ row 7 513 1 16384 (refused_with 5)
    ∷ row 7 65538 1 16384 (refused_with 5)
    ∷ row 7 4294967295 1 16384 (refused_with 5)
    ∷ row 7 2 0 16384 (refused_with 5)
    ∷ row 7 2 513 16384 (refused_with 5)
    ∷ row 7 2 65537 16384 (refused_with 5)
    ∷ row 7 2 4294967295 16384 (refused_with 5)
    -- "then 9 for a too short output"
    ∷ row 0 2 1 42 (refused_with 9)
    ∷ row 0 2 1 0 (refused_with 9)
    ∷ []

-- the call gave what is claimed
abbrev pub given_load : LoadClaim → Outcome → Bool
given_load (words ws) (accepted a) = same ws a
given_load (words ws) (refusal k) = false
given_load (long l) (accepted a) = eqb l (length a)
given_load (long l) (refusal k) = false
given_load (refused_with n) (accepted a) = false
given_load (refused_with n) (refusal k) = eqb n k

-- every row holds
unfoldable pub loads_right : List LoadCase → Bool
loads_right [] = true
loads_right (c ∷ l) = given_load c.claim (load c.seed c.identifiers c.effects c.room) && loads_right l
