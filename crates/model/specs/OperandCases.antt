-- Document 02, orders 4 and 5: the pass over operands. A row is a sheet and the outcome of the whole call, all ten sections.
-- A mark is a place's traits: 1 Freeze, 2 Read, 3 Capture, 5 ConditionallyMutate, 7 Store, and 8 more if reactive.
-- Left out: the limits of the new words (Boundaries), and where 10 stands among the refusals (Refusals).
use Rattle.std.specs.Prelude.{ℕ, Bool, true, false, ◌&&◌, List, [], ◌∷◌, ◌++◌, replicate, eqb}
use Rattle.model.specs.Bench.{same}
use Rattle.model.specs.Call.{Outcome, refusal, accepted, outcome}
use Rattle.model.specs.Small.{several, place, placed, effect, one, two, diagnosis, operand, phi_of, phi, plain, function, storing, instruction_of, unlisted_of, instruction, other_of, other, returning, throwing, block_of, flags, identifier, pair, function_of, whole_by, whole_of, sheet, range, answered, ten_of}

-- a sheet, and the outcome of a call on it
pub record OperandCase : Type 0 where
  pub sheet : List ℕ
  pub outcome : Outcome

-- a row
abbrev row : List ℕ → Outcome → OperandCase
row ws o = record { sheet = ws; outcome = o }

-- the same outcome
abbrev pub same_outcome : Outcome → Outcome → Bool
same_outcome (refusal k) (refusal l) = eqb k l
same_outcome (refusal k) (accepted b) = false
same_outcome (accepted a) (refusal l) = false
same_outcome (accepted a) (accepted b) = same a b

-- every row is answered as it says
unfoldable pub answered_so : List OperandCase → Bool
answered_so [] = true
answered_so (c ∷ l) = same_outcome (outcome c.sheet 16384 16384) c.outcome && answered_so l

-- n identifiers with unset ranges
abbrev unset : ℕ → List (List ℕ)
unset n = replicate n (identifier 0 0 0)

-- a sheet with these identifiers and inner functions, and one block with phis, instructions and a terminal: flags 0 and 1, no parameter, no context, returns 0
abbrev one_block : List (List ℕ) → List (List ℕ) → List (List ℕ) → List (List ℕ) → List ℕ → List ℕ
one_block ids fns phis is t = whole_by (flags 0 1) (several ids) (several fns) [] [] (place 0) (block_of 0 phis is t ∷ [])

-- an answer whose one effect is Create of 0: ranges, walks; phis, instructions, terminals, inner
abbrev gives : List (List ℕ) → List ℕ → List (List ℕ) → List (List ℕ) → List (List ℕ) → List (List ℕ) → Outcome
gives rs ws ps is ts ns = accepted (ten_of (answered rs [] [] [] (one 9 0 ∷ []) ws) ps is ts ns)

-- the smallest sheet known for each sentence that could be read in two ways; oracle/smallest has the same sheets, o01 to o30 and l01 to l06
unfoldable pub readings : List OperandCase
readings =
    -- Return with an operand count other than 0
    row
    (one_block (unset 1) [] [] (instruction 1 [] ∷ []) (1 ∷ 1 ∷ (place 0 ++ (0 ∷ 1 ∷ place 0))))
    (refusal 4)
    -- the count of MaybeThrow is a word of its own
    ∷ row
    (one_block (unset 1) [] [] (instruction 1 [] ∷ []) (2 ∷ 1 ∷ 0 ∷ []))
    (refusal 3)
    -- an inner function number that is not below their count
    ∷ row
    (one_block (unset 1) [] [] (instruction_of 1 (place 0) [] [] (function 0) [] ∷ []) (other 0))
    (refusal 5)
    -- context places of inner functions stand in their own section only
    ∷ row
    (one_block (unset 1) (function_of [] (placed 0 8 3 ∷ []) ∷ []) [] (instruction_of 5 (place 0) [] [] (function 0) (one 1 0 ∷ []) ∷ []) (other 0))
    (gives (range 5 6 ∷ []) (1 ∷ 1 ∷ []) [] (placed 0 7 0 ∷ []) [] (placed 0 15 3 ∷ []))
    -- the sections count places
    ∷ row
    (one_block (unset 1) [] (phi 0 (operand 7 0 ∷ []) ∷ []) (instruction_of 5 (place 0) (place 0 ∷ []) (place 0 ∷ []) plain [] ∷ []) (other 0))
    (gives (range 5 6 ∷ []) (1 ∷ []) (placed 0 7 0 ∷ placed 0 2 0 ∷ []) (placed 0 5 0 ∷ placed 0 5 0 ∷ placed 0 2 0 ∷ []) [] [])
    -- a place in both lists is marked by each list's rule
    ∷ row
    (one_block (unset 2) [] [] (instruction_of 5 (placed 0 8 1) (placed 1 8 2 ∷ []) (placed 1 0 3 ∷ placed 0 0 4 ∷ []) (storing 0) [] ∷ []) (other 0))
    (gives (range 5 6 ∷ range 5 6 ∷ []) (1 ∷ []) [] (placed 0 13 1 ∷ placed 1 13 2 ∷ placed 1 2 3 ∷ placed 0 2 4 ∷ []) [] [])
    -- a phi looks at the end as it stands when the pass comes to its block
    ∷ row
    (sheet 3 [] 0 (block_of 0 [] (instruction_of 9 (place 1) [] [] plain [] ∷ []) (other 0) ∷ block_of 1 (phi 1 (operand 0 0 ∷ []) ∷ phi 2 (operand 0 0 ∷ []) ∷ []) (instruction_of 5 (place 2) [] [] plain [] ∷ []) (other 0) ∷ []))
    (gives (range 0 0 ∷ range 9 10 ∷ range 5 6 ∷ []) (3 ∷ []) (placed 1 7 0 ∷ placed 0 3 0 ∷ placed 2 7 0 ∷ placed 0 2 0 ∷ []) (placed 1 5 0 ∷ placed 2 5 0 ∷ []) [] [])
    -- a block without instructions: its terminal's order; an end equal to it is not after it
    ∷ row
    (one_block (identifier 0 0 0 ∷ identifier 0 3 0 ∷ []) [] (phi 1 (operand 0 0 ∷ []) ∷ []) [] (other 3))
    (gives (range 0 0 ∷ range 0 3 ∷ []) (2 ∷ []) (placed 1 7 0 ∷ placed 0 2 0 ∷ []) [] [] [])
    -- a phi start of 0 is still unset
    ∷ row
    (one_block (identifier 0 0 0 ∷ identifier 0 9 0 ∷ []) [] (phi 1 (operand 7 0 ∷ []) ∷ []) (instruction 1 [] ∷ instruction_of 4 (place 0) [] (place 1 ∷ []) plain [] ∷ []) (other 0))
    (gives (range 1 2 ∷ range 4 9 ∷ []) (1 ∷ []) (placed 1 7 0 ∷ placed 0 3 0 ∷ []) (placed 0 5 0 ∷ placed 0 5 0 ∷ placed 1 2 0 ∷ []) [] [])
    -- "A phi start one below order 0 is 0"
    ∷ row
    (one_block (identifier 1 0 0 ∷ identifier 0 9 0 ∷ []) [] (phi 1 (operand 7 0 ∷ []) ∷ []) (instruction 0 [] ∷ []) (other 0))
    (gives (range 1 1 ∷ range 0 9 ∷ []) (1 ∷ []) (placed 1 7 0 ∷ placed 0 3 0 ∷ []) (placed 0 5 0 ∷ []) [] [])
    -- two phis of one identifier: only the first is marked
    ∷ row
    (one_block (unset 2) [] (phi_of (placed 1 0 1) (operand 7 0 ∷ []) ∷ phi_of (placed 1 0 2) (operand 8 0 ∷ []) ∷ []) (instruction 5 [] ∷ []) (other 0))
    (gives (range 5 6 ∷ range 0 0 ∷ []) (1 ∷ []) (placed 1 7 1 ∷ placed 0 2 0 ∷ placed 1 0 2 ∷ place 0 ∷ []) (placed 0 5 0 ∷ []) [] [])
    -- marks look at ends after the instruction's lvalues were set
    ∷ row
    (one_block (unset 2) [] [] (instruction_of 5 (place 1) [] (place 0 ∷ place 1 ∷ []) plain (two 6 0 1 ∷ []) ∷ []) (other 0))
    (gives (range 0 0 ∷ range 5 6 ∷ []) (1 ∷ []) [] (placed 1 7 0 ∷ placed 0 3 0 ∷ placed 1 7 0 ∷ []) [] [])
    -- the last effect on an identifier wins
    ∷ row
    (whole_of (flags 0 1) (several (identifier 0 0 0 ∷ identifier 0 1 0 ∷ [])) [] [] [] (place 1) (block_of 0 [] (instruction_of 5 (place 0) [] (place 0 ∷ place 1 ∷ []) plain (one 1 0 ∷ two 6 0 1 ∷ []) ∷ []) (other 0) ∷ []))
    (accepted (ten_of (answered (range 5 6 ∷ range 0 1 ∷ []) [] [] [] (one 9 1 ∷ []) (1 ∷ 1 ∷ [])) [] (placed 0 2 0 ∷ placed 0 2 0 ∷ placed 1 7 0 ∷ []) [] []))
    -- Freeze marks; ImmutableCapture, Create and Render do not
    ∷ row
    (sheet 2 [] 1 (block_of 0 [] (instruction_of 5 (place 1) [] (place 0 ∷ place 1 ∷ []) plain (effect 0 (place 0) (place 0) 1 ∷ two 11 0 1 ∷ one 9 1 ∷ one 17 0 ∷ []) ∷ []) (other 0) ∷ []))
    (accepted (ten_of (answered (range 0 0 ∷ range 5 6 ∷ []) [] [] [] (one 17 0 ∷ one 9 1 ∷ []) (1 ∷ [])) [] (placed 1 5 0 ∷ placed 0 1 0 ∷ placed 1 2 0 ∷ []) [] []))
    -- a mark keeps the reactive bit
    ∷ row
    (one_block (unset 1) [] [] (instruction_of 5 (placed 0 15 1) [] (placed 0 8 2 ∷ []) plain [] ∷ []) (other 0))
    (gives (range 5 6 ∷ []) (1 ∷ []) [] (placed 0 13 1 ∷ placed 0 10 2 ∷ []) [] [])
    -- a context place that no effect names is Read
    ∷ row
    (one_block (unset 1) (function_of [] (placed 0 15 3 ∷ []) ∷ []) [] (instruction_of 5 (place 0) [] [] (function 0) [] ∷ []) (other 0))
    (gives (range 5 6 ∷ []) (1 ∷ []) [] (placed 0 5 0 ∷ []) [] (placed 0 10 3 ∷ []))
    -- StoreContext moves an end equal to the order, after the operands' starts
    ∷ row
    (one_block (identifier 0 0 0 ∷ identifier 0 0 0 ∷ identifier 0 5 0 ∷ []) [] [] (instruction_of 5 (place 0) (place 1 ∷ []) (place 1 ∷ place 2 ∷ []) (storing 2) [] ∷ []) (other 0))
    (gives (range 5 6 ∷ range 5 6 ∷ range 0 6 ∷ []) (1 ∷ []) [] (placed 0 5 0 ∷ placed 1 5 0 ∷ placed 1 2 0 ∷ placed 2 2 0 ∷ []) [] [])
    -- and an end that is not 0
    ∷ row
    (one_block (identifier 0 0 0 ∷ identifier 0 4 0 ∷ []) [] [] (instruction_of 5 (place 0) [] [] (storing 1) [] ∷ []) (other 0))
    (gives (range 5 6 ∷ range 0 6 ∷ []) (1 ∷ []) [] (placed 0 5 0 ∷ []) [] [])
    -- the first lvalue sets the end
    ∷ row
    (one_block (unset 2) [] [] (instruction_of 2 (place 1) [] [] plain [] ∷ instruction_of 9 (place 1) [] [] plain [] ∷ []) (other 0))
    (gives (range 0 0 ∷ range 2 3 ∷ []) (1 ∷ []) [] (placed 1 5 0 ∷ placed 1 5 0 ∷ []) [] [])
    -- the lvalue place is one of the lvalues
    ∷ row
    (one_block (unset 2) [] [] (instruction_of 5 (place 1) (place 0 ∷ []) [] plain [] ∷ []) (other 0))
    (gives (range 5 6 ∷ range 5 6 ∷ []) (1 ∷ []) [] (placed 1 5 0 ∷ placed 0 5 0 ∷ []) [] [])
    -- Apply in a terminal does nothing
    ∷ row
    (one_block (unset 1) [] [] (instruction 1 [] ∷ []) (throwing 1 (one 12 0 ∷ [])))
    (gives (range 1 2 ∷ []) (1 ∷ []) [] (placed 0 5 0 ∷ []) [] [])
    -- 7 before 10
    ∷ row
    (one_block (unset 1) [] [] (instruction 1 (one 12 0 ∷ []) ∷ []) (other 0) ++ (0 ∷ []))
    (refusal 7)
    -- Return's value is Read in a function expression
    ∷ row
    (whole_of (flags 1 0) (several (unset 1)) [] [] [] (place 0) (block_of 0 [] (instruction 1 [] ∷ []) (returning 1 (placed 0 8 2) []) ∷ []))
    (gives (range 1 2 ∷ []) (3 ∷ []) [] (placed 0 5 0 ∷ []) (placed 0 10 2 ∷ []) [])
    -- lvalue place 0 is identifier 0; Return's value is Freeze
    ∷ row
    (whole_of (flags 0 1) (several (unset 3)) [] (placed 0 0 5 ∷ []) [] (place 2) (block_of 0 [] (instruction 1 (one 9 1 ∷ two 5 0 1 ∷ []) ∷ instruction 2 (one 3 1 ∷ []) ∷ []) (returning 3 (place 1) []) ∷ []))
    (accepted (ten_of (answered (range 1 3 ∷ range 0 3 ∷ range 0 0 ∷ []) (placed 0 3 5 ∷ []) [] [] (one 3 0 ∷ one 9 2 ∷ effect 6 (placed 0 3 5) (place 2) 0 ∷ []) (3 ∷ 5 ∷ 5 ∷ [])) [] (placed 0 3 0 ∷ placed 0 5 0 ∷ []) (placed 1 1 0 ∷ []) []))
    -- the order of the sections
    ∷ row
    (one_block (unset 1) (function_of [] (place 0 ∷ []) ∷ []) [] (instruction 5 [] ∷ []) (other_of 6 (place 0 ∷ [])))
    (gives (range 5 6 ∷ []) (1 ∷ []) [] (placed 0 5 0 ∷ []) (placed 0 2 0 ∷ []) (place 0 ∷ []))
    -- order, lvalue, value lvalues, operands, value, effects
    ∷ row
    (one_block (unset 1) [] [] (instruction_of 5 (place 0) (place 0 ∷ []) (place 0 ∷ []) (storing 0) (one 3 0 ∷ []) ∷ []) (other 0))
    (gives (range 5 6 ∷ []) (1 ∷ 1 ∷ []) [] (placed 0 5 0 ∷ placed 0 5 0 ∷ placed 0 5 0 ∷ []) [] [])
    -- order 5: a terminal's list is never absent
    ∷ row
    (one_block (unset 1) [] [] (instruction 1 [] ∷ []) (2 ∷ 1 ∷ 4294967295 ∷ 0 ∷ []))
    (refusal 4)
    -- without a list lvalues have their ranges and marks, operands are Read; no start is set, nothing is stored
    ∷ row
    (one_block (identifier 0 9 0 ∷ unset 3) [] [] (unlisted_of 5 (place 1) (place 2 ∷ []) (placed 0 15 1 ∷ place 3 ∷ []) (storing 3) ∷ []) (other 0))
    (gives (range 0 9 ∷ range 5 6 ∷ range 5 6 ∷ range 0 0 ∷ []) (1 ∷ []) [] (placed 1 5 0 ∷ placed 2 5 0 ∷ placed 0 10 1 ∷ placed 3 2 0 ∷ []) [] [])
    -- context places stay as they are
    ∷ row
    (one_block (unset 1) (function_of [] (placed 0 15 3 ∷ []) ∷ []) [] (unlisted_of 5 (place 0) [] [] (function 0) ∷ []) (other 0))
    (gives (range 5 6 ∷ []) (1 ∷ []) [] (placed 0 5 0 ∷ []) [] (placed 0 15 3 ∷ []))
    -- its order is the block's first order all the same
    ∷ row
    (one_block (identifier 1 1 0 ∷ identifier 0 6 0 ∷ []) [] (phi 1 (operand 7 0 ∷ []) ∷ []) (unlisted_of 5 (place 0) [] [] plain ∷ []) (other 0))
    (gives (range 1 1 ∷ range 4 6 ∷ []) (1 ∷ []) (placed 1 7 0 ∷ placed 0 3 0 ∷ []) (placed 0 5 0 ∷ []) [] [])
    -- any other count above 1,024 is 4
    ∷ row
    (one_block (unset 1) [] [] ((1 ∷ (place 0 ++ (0 ∷ 0 ∷ 0 ∷ 4294967294 ∷ []))) ∷ []) (other 0))
    (refusal 4)
    -- an empty list is not an absent one
    ∷ row
    (one_block (identifier 0 0 0 ∷ identifier 0 9 0 ∷ []) [] [] (instruction_of 5 (place 0) [] (place 1 ∷ []) plain [] ∷ []) (other 0))
    (gives (range 5 6 ∷ range 5 9 ∷ []) (1 ∷ []) [] (placed 0 5 0 ∷ placed 1 2 0 ∷ []) [] [])
    ∷ []

-- an instruction with lvalue 1, operand 0 and one effect on 0, by its kind
abbrev acts : ℕ → List ℕ
acts k = one_block (unset 2) [] [] (instruction_of 5 (place 1) [] (place 0 ∷ []) plain (one k 0 ∷ []) ∷ []) (other 0)

-- the same with an effect from 0 into 1
abbrev flows : ℕ → List ℕ
flows k = one_block (unset 2) [] [] (instruction_of 5 (place 1) [] (place 0 ∷ []) plain (two k 0 1 ∷ []) ∷ []) (other 0)

-- what those sheets do not show
unfoldable pub operand_cases : List OperandCase
operand_cases =
    -- an empty list: the starts of operands are set, and the store is made; a mark keeps the reactive bit
    row
    (one_block (identifier 0 9 0 ∷ identifier 0 0 0 ∷ identifier 0 0 0 ∷ identifier 0 0 0 ∷ []) [] [] (instruction_of 5 (place 1) (place 2 ∷ []) (placed 0 15 1 ∷ place 3 ∷ []) (storing 3) [] ∷ []) (other 0))
    (gives (range 5 9 ∷ range 5 6 ∷ range 5 6 ∷ range 0 6 ∷ []) (1 ∷ []) [] (placed 1 5 0 ∷ placed 2 5 0 ∷ placed 0 10 1 ∷ placed 3 2 0 ∷ []) [] [])
    -- a mutated phi starts one below the first order
    ∷ row
    (one_block (identifier 1 1 0 ∷ identifier 0 6 0 ∷ []) [] (phi 1 (operand 7 0 ∷ []) ∷ []) (instruction 5 [] ∷ []) (other 0))
    (gives (range 1 1 ∷ range 4 6 ∷ []) (1 ∷ []) (placed 1 7 0 ∷ placed 0 3 0 ∷ []) (placed 0 5 0 ∷ []) [] [])
    -- an operand that ends later starts at the order
    ∷ row
    (one_block (identifier 0 0 0 ∷ identifier 0 9 0 ∷ []) [] [] (instruction_of 5 (place 0) [] (place 1 ∷ []) plain [] ∷ []) (other 0))
    (gives (range 5 6 ∷ range 5 9 ∷ []) (1 ∷ []) [] (placed 0 5 0 ∷ placed 1 2 0 ∷ []) [] [])
    -- the first order is the first instruction's, not the least
    ∷ row
    (one_block (identifier 0 0 0 ∷ identifier 0 4 0 ∷ []) [] (phi 1 (operand 7 0 ∷ []) ∷ []) (instruction 5 [] ∷ instruction 2 [] ∷ []) (other 0))
    (gives (range 5 6 ∷ range 0 4 ∷ []) (1 ∷ []) (placed 1 7 0 ∷ placed 0 2 0 ∷ []) (placed 0 5 0 ∷ placed 0 5 0 ∷ []) [] [])
    -- a phi and its operands keep reactive bit and span
    ∷ row
    (one_block (identifier 0 0 0 ∷ identifier 0 9 0 ∷ []) [] (phi_of (placed 1 12 3) ((7 ∷ placed 0 8 4) ∷ []) ∷ []) [] (other 5))
    (gives (range 0 0 ∷ range 4 9 ∷ []) (1 ∷ []) (placed 1 15 3 ∷ placed 0 11 4 ∷ []) [] [] [])
    -- a start that is set stays
    ∷ row
    (one_block (identifier 7 0 0 ∷ []) [] [] (instruction_of 5 (place 0) [] (place 0 ∷ []) plain [] ∷ []) (other 0))
    (gives (range 7 6 ∷ []) (1 ∷ []) [] (placed 0 5 0 ∷ placed 0 2 0 ∷ []) [] [])
    -- a mark is for value lvalues too
    ∷ row
    (one_block (unset 2) [] [] (instruction_of 5 (place 0) (place 1 ∷ []) [] plain (two 6 1 0 ∷ []) ∷ []) (other 0))
    (gives (range 5 6 ∷ range 5 6 ∷ []) (1 ∷ []) [] (placed 0 7 0 ∷ placed 1 3 0 ∷ []) [] [])
    -- from and into are one: into comes after from
    ∷ row
    (one_block (unset 1) [] [] (instruction 5 (two 7 0 0 ∷ []) ∷ []) (other 0))
    (gives (range 5 6 ∷ []) (3 ∷ []) [] (placed 0 7 0 ∷ []) [] [])
    -- an end equal to the order: from is Read
    ∷ row
    (one_block (unset 2) [] [] (instruction_of 5 (place 1) [] [] plain [] ∷ instruction_of 6 (place 0) [] (place 0 ∷ []) plain (two 8 0 1 ∷ []) ∷ []) (other 0))
    (gives (range 6 7 ∷ range 5 6 ∷ []) (3 ∷ []) [] (placed 1 5 0 ∷ placed 0 2 0 ∷ placed 0 2 0 ∷ []) [] [])
    -- a mark looks at the end that an earlier instruction stored; orders may fall
    ∷ row
    (one_block (unset 3) [] [] (instruction_of 5 (place 2) [] [] (storing 1) [] ∷ instruction_of 3 (place 2) [] (place 0 ∷ place 1 ∷ []) plain (two 6 0 1 ∷ []) ∷ []) (other 0))
    (gives (range 0 0 ∷ range 3 6 ∷ range 5 6 ∷ []) (1 ∷ []) [] (placed 2 5 0 ∷ placed 2 5 0 ∷ placed 0 3 0 ∷ placed 1 7 0 ∷ []) [] [])
    -- an instruction's own store comes after its marks
    ∷ row
    (one_block (unset 3) [] [] (instruction_of 5 (place 2) [] (place 0 ∷ place 1 ∷ []) (storing 1) (two 6 0 1 ∷ []) ∷ []) (other 0))
    (gives (range 0 0 ∷ range 0 6 ∷ range 5 6 ∷ []) (1 ∷ []) [] (placed 2 5 0 ∷ placed 0 2 0 ∷ placed 1 7 0 ∷ []) [] [])
    -- an end of 0 is moved by a store, and no start is set
    ∷ row
    (one_block (unset 2) [] [] (instruction_of 5 (place 0) [] [] (storing 1) [] ∷ []) (other 0))
    (gives (range 5 6 ∷ range 0 6 ∷ []) (1 ∷ []) [] (placed 0 5 0 ∷ []) [] [])
    -- a store of a lower order leaves the end
    ∷ row
    (one_block (unset 1) [] [] (instruction 5 [] ∷ instruction_of 2 (place 0) [] [] (storing 0) [] ∷ []) (other 0))
    (gives (range 5 6 ∷ []) (1 ∷ []) [] (placed 0 5 0 ∷ placed 0 5 0 ∷ []) [] [])
    -- no mark is left for the next instruction
    ∷ row
    (one_block (unset 2) [] [] (instruction_of 5 (place 1) [] (place 0 ∷ []) plain (one 0 0 ∷ []) ∷ instruction_of 6 (place 1) [] (place 0 ∷ []) plain [] ∷ []) (other 0))
    (gives (range 0 0 ∷ range 5 6 ∷ []) (1 ∷ []) [] (placed 1 5 0 ∷ placed 0 1 0 ∷ placed 1 5 0 ∷ placed 0 2 0 ∷ []) [] [])
    -- all context places of that function, by identifier; none of another; its diagnostics before them
    ∷ row
    (one_block (unset 3) (function_of [] (place 0 ∷ []) ∷ function_of (pair 3 4 ∷ []) (placed 0 0 1 ∷ placed 1 0 2 ∷ placed 0 8 3 ∷ []) ∷ []) [] (instruction_of 5 (place 2) [] [] (function 1) (one 1 0 ∷ []) ∷ []) (other 0))
    (gives (range 5 6 ∷ range 0 0 ∷ range 5 6 ∷ []) (1 ∷ 1 ∷ []) [] (placed 2 5 0 ∷ []) [] (place 0 ∷ placed 0 7 1 ∷ placed 1 2 2 ∷ placed 0 15 3 ∷ []))
    -- two instructions make one inner function: the marks of the last stay
    ∷ row
    (one_block (unset 2) (function_of [] (place 0 ∷ []) ∷ []) [] (instruction_of 5 (place 1) [] [] (function 0) (two 6 0 1 ∷ []) ∷ instruction_of 6 (place 1) [] [] (function 0) [] ∷ []) (other 0))
    (gives (range 0 0 ∷ range 5 6 ∷ []) (1 ∷ []) [] (placed 1 7 0 ∷ placed 1 5 0 ∷ []) [] (placed 0 2 0 ∷ []))
    -- a context place starts as an operand does
    ∷ row
    (one_block (identifier 0 9 0 ∷ identifier 0 0 0 ∷ []) (function_of [] (place 0 ∷ []) ∷ []) [] (instruction_of 5 (place 1) [] [] (function 0) [] ∷ []) (other 0))
    (gives (range 5 9 ∷ range 5 6 ∷ []) (1 ∷ []) [] (placed 1 5 0 ∷ []) [] (placed 0 2 0 ∷ []))
    -- lists that no value carries: no operand has the stored identifier; value 1 beside lists
    ∷ row
    (one_block (unset 2) (function_of [] (place 1 ∷ []) ∷ []) [] (instruction_of 4 (place 0) (place 1 ∷ []) [] (storing 1) [] ∷ instruction_of 6 (place 0) (place 1 ∷ []) (placed 1 9 7 ∷ []) (function 0) [] ∷ []) (other 0))
    (gives (range 4 5 ∷ range 4 5 ∷ []) (1 ∷ []) [] (placed 0 5 0 ∷ placed 1 5 0 ∷ placed 0 5 0 ∷ placed 1 5 0 ∷ placed 1 10 7 ∷ []) [] (placed 1 2 0 ∷ []))
    -- a terminal's operands are Read, and set no start
    ∷ row
    (one_block (identifier 0 0 0 ∷ identifier 0 9 0 ∷ []) [] [] [] (other_of 5 (placed 1 15 4 ∷ place 0 ∷ [])))
    (gives (range 0 0 ∷ range 0 9 ∷ []) (1 ∷ []) [] [] (placed 1 10 4 ∷ placed 0 2 0 ∷ []) [])
    -- a terminal's effects mark nothing
    ∷ row
    (one_block (unset 1) [] [] [] (returning 5 (placed 0 12 3) (one 0 0 ∷ [])))
    (gives (range 0 0 ∷ []) (3 ∷ []) [] [] (placed 0 9 3 ∷ []) [])
    -- a row for each kind: Freeze; the mutations
    ∷ row
    (acts 0)
    (gives (range 0 0 ∷ range 5 6 ∷ []) (1 ∷ []) [] (placed 1 5 0 ∷ placed 0 1 0 ∷ []) [] [])
    ∷ row
    (acts 1)
    (gives (range 5 6 ∷ range 5 6 ∷ []) (1 ∷ 1 ∷ []) [] (placed 1 5 0 ∷ placed 0 7 0 ∷ []) [] [])
    ∷ row
    (acts 2)
    (gives (range 5 6 ∷ range 5 6 ∷ []) (1 ∷ 1 ∷ []) [] (placed 1 5 0 ∷ placed 0 5 0 ∷ []) [] [])
    ∷ row
    (acts 3)
    (gives (range 5 6 ∷ range 5 6 ∷ []) (1 ∷ 1 ∷ []) [] (placed 1 5 0 ∷ placed 0 5 0 ∷ []) [] [])
    ∷ row
    (acts 4)
    (gives (range 5 6 ∷ range 5 6 ∷ []) (1 ∷ 1 ∷ []) [] (placed 1 5 0 ∷ placed 0 5 0 ∷ []) [] [])
    -- relations: Capture, and Store
    ∷ row
    (flows 5)
    (gives (range 0 0 ∷ range 5 6 ∷ []) (1 ∷ []) [] (placed 1 7 0 ∷ placed 0 3 0 ∷ []) [] [])
    ∷ row
    (flows 6)
    (gives (range 0 0 ∷ range 5 6 ∷ []) (1 ∷ []) [] (placed 1 7 0 ∷ placed 0 3 0 ∷ []) [] [])
    ∷ row
    (flows 7)
    (gives (range 0 0 ∷ range 5 6 ∷ []) (1 ∷ []) [] (placed 1 7 0 ∷ placed 0 3 0 ∷ []) [] [])
    ∷ row
    (flows 8)
    (gives (range 0 0 ∷ range 5 6 ∷ []) (3 ∷ []) [] (placed 1 7 0 ∷ placed 0 3 0 ∷ []) [] [])
    ∷ row
    (flows 10)
    (gives (range 0 0 ∷ range 5 6 ∷ []) (3 ∷ []) [] (placed 1 7 0 ∷ placed 0 3 0 ∷ []) [] [])
    -- the others mark nothing
    ∷ row
    (flows 11)
    (gives (range 0 0 ∷ range 5 6 ∷ []) (1 ∷ []) [] (placed 1 5 0 ∷ placed 0 2 0 ∷ []) [] [])
    ∷ row
    (acts 9)
    (gives (range 0 0 ∷ range 5 6 ∷ []) (1 ∷ []) [] (placed 1 5 0 ∷ placed 0 2 0 ∷ []) [] [])
    ∷ row
    (acts 17)
    (accepted (ten_of (answered (range 0 0 ∷ range 5 6 ∷ []) [] [] [] (one 17 0 ∷ one 9 0 ∷ []) (1 ∷ [])) [] (placed 1 5 0 ∷ placed 0 2 0 ∷ []) [] []))
    ∷ row
    (one_block (unset 2) (function_of [] [] ∷ []) [] (instruction_of 5 (place 1) [] (place 0 ∷ []) plain (one 13 0 ∷ diagnosis 14 0 6 7 ∷ diagnosis 15 0 6 7 ∷ diagnosis 16 0 6 7 ∷ []) ∷ []) (other 0))
    (accepted (ten_of (answered (range 0 0 ∷ range 5 6 ∷ []) [] [] (pair 6 7 ∷ pair 6 7 ∷ pair 6 7 ∷ []) (diagnosis 14 0 6 7 ∷ diagnosis 15 0 6 7 ∷ diagnosis 16 0 6 7 ∷ one 9 0 ∷ []) (1 ∷ [])) [] (placed 1 5 0 ∷ placed 0 2 0 ∷ []) [] []))
    ∷ []
