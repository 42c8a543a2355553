-- Document 01, "Answers and refusals", and document 02, order 4: for each refusal a call that gets it, and the order of two that could both be given.
-- Left out: 8 and its neighbours, which stand in crate `cases`.
use Rattle.std.specs.Prelude.{ℕ, ◌-◌, Bool, true, false, ◌&&◌, List, [], ◌∷◌, ◌++◌, length, replicate, take, eqb}
use Rattle.std.proofs.Math.Option.{Option, none, some}
use Rattle.model.specs.Call.{Outcome, refusal, accepted}
use Rattle.model.specs.Service.{Served, call}
use Rattle.model.specs.Small.{place, one, operand, phi, returning, throwing, block_of, block, sheet}
use Rattle.model.specs.Table.{case1, call1, case2}

-- a call, by its sheet and the lengths of workspace and answer buffer, and the number that it is refused with; 0 if it is accepted
pub record Call : Type 0 where
  pub sheet : List ℕ
  pub workspace : ℕ
  pub room : ℕ
  pub number : ℕ

-- a row
abbrev pub row : List ℕ → ℕ → ℕ → ℕ → Call
row ws w r k = record { sheet = ws; workspace = w; room = r; number = k }

-- "a phi names one predecessor twice": refused at that number, before the place after it, which is outside its range
abbrev pub predecessor_twice : List ℕ
predecessor_twice = sheet 1 [] 0 (block 0 (phi 0 (operand 7 0 ∷ operand 7 1 ∷ []) ∷ []) [] ∷ [])

-- two phis that name the same predecessor: no refusal
abbrev pub predecessor_of_two : List ℕ
predecessor_of_two = sheet 1 [] 0 (block 0 (phi 0 (operand 7 0 ∷ []) ∷ phi 0 (operand 7 0 ∷ []) ∷ []) [] ∷ [])

-- "Apply among an instruction's effects": after another effect, in the second block
abbrev pub applied : List ℕ
applied = sheet 1 [] 0 (block 0 [] [] ∷ block 1 [] (one 9 0 ∷ one 12 0 ∷ []) ∷ [])

-- Apply in a block's terminal
abbrev pub applied_at_end : List ℕ → List ℕ
applied_at_end t = sheet 1 [] 0 (block_of 0 [] [] t ∷ [])

-- the calls
unfoldable pub calls : List Call
calls =
    row case1 16383 16384 1
    ∷ row case1 16384 16384 0
    -- 16,384 words are not "more than 16,384": the first of them "differs from a fixed count"
    ∷ row (replicate 16384 0) 16384 16384 4
    ∷ row (replicate 16385 0) 16384 16384 2
    ∷ row [] 16384 16384 3
    ∷ row (3 ∷ []) 16384 16384 4
    ∷ row (2 ∷ 2 ∷ []) 16384 16384 5
    ∷ row (sheet 1 [] 0 (block 7 [] [] ∷ block 7 [] [] ∷ [])) 16384 16384 6
    ∷ row predecessor_twice 16384 16384 6
    ∷ row predecessor_of_two 16384 16384 0
    ∷ row (case2 ++ (0 ∷ [])) 16384 16384 7
    -- "One answer word short: 9"
    ∷ row case1 16384 (length call1) 0
    ∷ row case1 16384 (length call1 - 1) 9
    -- document 02, order 4: 10; in a terminal Apply does nothing
    ∷ row applied 16384 16384 10
    ∷ row (applied_at_end (throwing 1 (one 12 0 ∷ []))) 16384 16384 0
    ∷ row (applied_at_end (returning 1 (place 0) (one 12 0 ∷ []))) 16384 16384 0
    -- 10 "before 9", and after 1, 3 and 7
    ∷ row applied 16384 0 10
    ∷ row applied 16383 0 1
    ∷ row (take (length applied - 1) applied) 16384 0 3
    ∷ row (applied ++ (0 ∷ [])) 16384 0 7
    -- 1 before 2; 2 before 3; the first faulty word before a later one of a lower number
    ∷ row (replicate 16385 0) 16383 16384 1
    ∷ row (replicate 16385 2) 16384 16384 2
    ∷ row (2 ∷ 2 ∷ 0 ∷ 513 ∷ []) 16384 16384 5
    ∷ []

-- what a call gave when the next serial was 7: "A refusal returns its number", "the state is unchanged"; "An accepted call takes it"
abbrev pub given : ℕ → Outcome → Option ℕ → ℕ → Bool
given k (refusal n) none next = eqb n k && eqb next 7
given k (refusal n) (some i) next = false
given k (accepted a) none next = false
given k (accepted a) (some i) next = eqb 0 k && (eqb i 7 && eqb next 8)

-- every call is answered as its row says
unfoldable pub refused_so : List Call → Bool
refused_so [] = true
refused_so (c ∷ l) = served (call (record { next = 7 }) c.sheet c.workspace c.room) && refused_so l
  where
    served : Served → Bool
    served a = given c.number a.outcome a.serial a.caller.next
