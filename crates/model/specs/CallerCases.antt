-- Document 02, order 9: calls for callers as a table: the records' next serials, the position, the call, and what comes of it.
use Rattle.std.specs.Prelude.{ℕ, Bool, true, false, ◌&&◌, List, [], ◌∷◌, map, replicate, eqb}
use Rattle.std.proofs.Math.Option.{Option, none, some}
use Rattle.model.specs.Call.{Outcome, refusal, accepted}
use Rattle.model.specs.Service.{Caller}
use Rattle.model.specs.Callers.{ServedFor, call_for}
use Rattle.model.specs.Bench.{same}
use Rattle.model.specs.Table.{case2}

-- a row: the records before, by their next serials; position, sheet, workspace and room; the refusal, 0 for none, the serial, and the records after
pub record CallerCase : Type 0 where
  pub before : List ℕ
  pub position : ℕ
  pub sheet : List ℕ
  pub workspace : ℕ
  pub room : ℕ
  pub number : ℕ
  pub serial : ℕ
  pub left : List ℕ

-- records with these next serials
abbrev pub callers_with : List ℕ → List Caller
callers_with = map (λ (n : ℕ). record { next = n })

-- the rows
unfoldable pub caller_cases : List CallerCase
caller_cases =
    -- no record is lent: every position is outside
    record { before = []; position = 0; sheet = case2; workspace = 16384; room = 16384; number = 11; serial = 0; left = [] }
    -- one record
    ∷ record { before = 0 ∷ []; position = 0; sheet = case2; workspace = 16384; room = 16384; number = 0; serial = 0; left = 1 ∷ [] }
    ∷ record { before = 0 ∷ []; position = 1; sheet = case2; workspace = 16384; room = 16384; number = 11; serial = 0; left = 0 ∷ [] }
    -- the first, one between, the last, one past; every other record is as it was
    ∷ record { before = 5 ∷ 7 ∷ 9 ∷ []; position = 0; sheet = case2; workspace = 16384; room = 16384; number = 0; serial = 5; left = 6 ∷ 7 ∷ 9 ∷ [] }
    ∷ record { before = 5 ∷ 7 ∷ 9 ∷ []; position = 1; sheet = case2; workspace = 16384; room = 16384; number = 0; serial = 7; left = 5 ∷ 8 ∷ 9 ∷ [] }
    ∷ record { before = 5 ∷ 7 ∷ 9 ∷ []; position = 2; sheet = case2; workspace = 16384; room = 16384; number = 0; serial = 9; left = 5 ∷ 7 ∷ 10 ∷ [] }
    ∷ record { before = 5 ∷ 7 ∷ 9 ∷ []; position = 3; sheet = case2; workspace = 16384; room = 16384; number = 11; serial = 0; left = 5 ∷ 7 ∷ 9 ∷ [] }
    -- the largest position
    ∷ record { before = 5 ∷ 7 ∷ 9 ∷ []; position = 18446744073709551615; sheet = case2; workspace = 16384; room = 16384; number = 11; serial = 0; left = 5 ∷ 7 ∷ 9 ∷ [] }
    -- "wrap as before": one wraps, the others stay
    ∷ record { before = 5 ∷ 4294967295 ∷ 9 ∷ []; position = 1; sheet = case2; workspace = 16384; room = 16384; number = 0; serial = 4294967295; left = 5 ∷ 0 ∷ 9 ∷ [] }
    -- 11 before 1, 2, 3 and 9; inside the records these
    ∷ record { before = 5 ∷ []; position = 1; sheet = case2; workspace = 16383; room = 16384; number = 11; serial = 0; left = 5 ∷ [] }
    ∷ record { before = 5 ∷ []; position = 0; sheet = case2; workspace = 16383; room = 16384; number = 1; serial = 0; left = 5 ∷ [] }
    ∷ record { before = 5 ∷ []; position = 1; sheet = replicate 16385 0; workspace = 16384; room = 16384; number = 11; serial = 0; left = 5 ∷ [] }
    ∷ record { before = 5 ∷ []; position = 0; sheet = replicate 16385 0; workspace = 16384; room = 16384; number = 2; serial = 0; left = 5 ∷ [] }
    ∷ record { before = 5 ∷ []; position = 1; sheet = []; workspace = 16384; room = 16384; number = 11; serial = 0; left = 5 ∷ [] }
    ∷ record { before = 5 ∷ []; position = 0; sheet = []; workspace = 16384; room = 16384; number = 3; serial = 0; left = 5 ∷ [] }
    ∷ record { before = 5 ∷ []; position = 1; sheet = case2; workspace = 16384; room = 0; number = 11; serial = 0; left = 5 ∷ [] }
    ∷ record { before = 5 ∷ []; position = 0; sheet = case2; workspace = 16384; room = 0; number = 9; serial = 0; left = 5 ∷ [] }
    ∷ []

-- the outcome has this number, and the serial is told if it is accepted
abbrev pub told : ℕ → ℕ → Outcome → Option ℕ → Bool
told k n (refusal j) none = eqb j k
told k n (refusal j) (some i) = false
told k n (accepted a) none = false
told k n (accepted a) (some i) = eqb 0 k && eqb i n

-- every row is answered as it says
unfoldable pub called_so : List CallerCase → Bool
called_so [] = true
called_so (c ∷ l) = served (call_for (callers_with c.before) c.position c.sheet c.workspace c.room) && called_so l
  where
    served : ServedFor → Bool
    served t = told c.number c.serial t.outcome t.serial && same (map (λ (a : Caller). a.next) t.callers) c.left
