-- Every call is accepted, or refused with one of the numbers, a drawing from 1 to 9; the words of a sheet are refused with 3 to 6 alone, but for its totals; and 0 is told of accepted calls alone.
use Prim.Native.Nat.{ℕ, ◌≤◌}
use native.Mathlib.Omega.{arith}
use mathlib.Core.Path.{◌≡◌, refl}
use mathlib.Core.Bool.{Bool, true, false}
use mathlib.Core.Logic.{◌⊎◌, inl, inr}
use mathlib.Core.List.{List}
use lib.ListN.{length}
use lib.Dec.{ltb}
use Rattle.model.specs.Limits.{least_workspace, most_sheet, most_relations, last_of_sheet, last_of_drawing}
use Rattle.model.specs.Lists.{pick}
use Rattle.model.specs.Sheet.{Sheet}
use Rattle.model.specs.Reading.{Position, Result, got, refused}
use Rattle.model.specs.Sections.{sheet}
use Rattle.model.specs.Counting.{counted_sheet}
use Rattle.model.specs.Building.{build}
use Rattle.model.specs.Answer.{answer, answer_words}
use Rattle.model.specs.Call.{applies, Outcome, refusal, accepted, ended, read, fits, answered, holds, admit, outcome, number_of}
use Rattle.model.specs.Dot.{dot, drawn, draw}
use Rattle.model.specs.Numbers.{FromReading, Numbered}
use Rattle.model.proofs.CountedSheet.{counted_refused}
use Rattle.model.proofs.Refusing.{sheet_refuses}

pub reading_numbers : (ws : List ℕ) (c : Position) (k : ℕ) → sheet ws c ≡ refused k → FromReading k
reading_numbers ws c k e = sheet_refuses FromReading (omega arith, omega arith) (omega arith, omega arith) (omega arith, omega arith) (omega arith, omega arith) ws c k e

-- what was read, or a refusal from 1 to 8
abbrev NumberedRead : Result Sheet → Type 0
NumberedRead (got s c) = Unit {0}
NumberedRead (refused k) = (1 ≤ k) × (k ≤ 8)

sheet_numbered : (ws : List ℕ) (r : Result Sheet) → counted_sheet ws 0 ≡ r → NumberedRead r
sheet_numbered ws (got s c) e = tt
sheet_numbered ws (refused k) e = go (counted_refused ws 0 k e)
  where
    go : (sheet ws 0 ≡ refused k) ⊎ (k ≡ 8) → (1 ≤ k) × (k ≤ 8)
    go (inl f) = let h : FromReading k = reading_numbers ws 0 k f in (omega (arith, h.0), omega (arith, h.1))
    go (inr f) = (omega (arith, f), omega (arith, f))

ended_numbered : (r : Result Sheet) (l : ℕ) → NumberedRead r → NumberedRead (ended r l)
unfolding ended
ended_numbered (got s c) l h = go (ltb c l)
  where
    go : (b : Bool) → NumberedRead (pick b (refused 7) (got s c))
    go true = (omega arith, omega arith)
    go false = tt
ended_numbered (refused k) l h = h

read_numbered : (ws : List ℕ) → NumberedRead (read ws)
unfolding read
read_numbered ws = go (ltb most_sheet (length ws))
  where
    go : (b : Bool) → NumberedRead (pick b (refused 2) (ended (counted_sheet ws 0) (length ws)))
    go true = (omega arith, omega arith)
    go false = ended_numbered (counted_sheet ws 0) (length ws) (sheet_numbered ws (counted_sheet ws 0) refl)

answered_numbered : (room : ℕ) (r : Result Sheet) → NumberedRead r → Numbered last_of_sheet (answered room r)
unfolding answered fits
answered_numbered room (got s c) h = go (applies s) (ltb room (length (answer_words (answer s))))
  where
    go : (a b : Bool) → Numbered last_of_sheet (pick a (refusal 10) (pick b (refusal 9) (accepted (answer_words (answer s)))))
    go true b = (omega arith, omega arith)
    go false true = (omega arith, omega arith)
    go false false = tt
answered_numbered room (refused k) h = (h.0, omega (arith, h.1))

holds_numbered : (r : Result Sheet) → NumberedRead r → NumberedRead (holds r)
unfolding holds
holds_numbered (refused k) h = h
holds_numbered (got s c) h = go (ltb most_relations (build s).held)
  where
    go : (b : Bool) → NumberedRead (pick b (refused 8) (got s c))
    go true = (omega arith, omega arith)
    go false = tt

admit_numbered : (ws : List ℕ) (workspace : ℕ) → NumberedRead (admit ws workspace)
unfolding admit
admit_numbered ws workspace = go (ltb workspace least_workspace)
  where
    go : (b : Bool) → NumberedRead (pick b (refused 1) (holds (read ws)))
    go true = (omega arith, omega arith)
    go false = holds_numbered (read ws) (read_numbered ws)

-- for all words and lengths
pub outcome_numbered : (ws : List ℕ) (workspace room : ℕ) → Numbered last_of_sheet (outcome ws workspace room)
unfolding outcome
outcome_numbered ws workspace room = answered_numbered room (admit ws workspace) (admit_numbered ws workspace)

drawn_numbered : (room : ℕ) (r : Result Sheet) → NumberedRead r → Numbered last_of_drawing (drawn room r)
unfolding drawn fits
drawn_numbered room (got s c) h = go (ltb room (length (dot (build s).graph)))
  where
    go : (b : Bool) → Numbered last_of_drawing (pick b (refusal 9) (accepted (dot (build s).graph)))
    go true = (omega arith, omega arith)
    go false = tt
drawn_numbered room (refused k) h = (h.0, omega (arith, h.1))

-- a drawing is refused from 1 to 9 alone
pub draw_numbered : (ws : List ℕ) (workspace room : ℕ) → Numbered last_of_drawing (draw ws workspace room)
unfolding draw
draw_numbered ws workspace room = drawn_numbered room (admit ws workspace) (admit_numbered ws workspace)

-- a call of which 0 is told was accepted
pub zero_accepted : (last : ℕ) (o : Outcome) → Numbered last o → number_of o ≡ 0 → (a : List ℕ) × (o ≡ accepted a)
zero_accepted last (refusal k) h e = absurd (omega (arith, h.0, e))
zero_accepted last (accepted a) h e = (a, refl)
