-- Document 02, order 9: "A caller's serials count its own accepted calls and wrap as before; what others do, refused or accepted, changes none of its answers, serials or its record."
-- A claim about every list of calls, by several callers, one after another on any records.
use Rattle.std.specs.Prelude.{ℕ, zero, suc, ◌+◌, ◌%◌, ◌≤◌, ◌<◌, ◌≡◌, List, [], ◌∷◌, length, get_or, eqb}
use Rattle.std.proofs.Math.Option.{Option, none, some}
use Rattle.model.specs.Limits.{last_serial}
use Rattle.model.specs.Lists.{pick}
use Rattle.model.specs.Call.{Outcome}
use Rattle.model.specs.Service.{Caller, new_caller, taken}
use Rattle.model.specs.Callers.{ServedFor, call_for}

-- a call: its caller's position, its sheet, and how many words are lent
pub record Ask : Type 0 where
  pub position : ℕ
  pub sheet : List ℕ
  pub workspace : ℕ
  pub room : ℕ

-- what it gives on these records
abbrev pub asked : List Caller → Ask → ServedFor
asked cs q = call_for cs q.position q.sheet q.workspace q.room

-- what its caller is told: both buffers are as the outcome says (Call `answer_after`, `workspace_after`)
pub record Told : Type 0 where
  pub outcome : Outcome
  pub serial : Option ℕ

-- of a call's result, what concerns its caller
abbrev pub told_of : ServedFor → Told
told_of t = record { outcome = t.outcome; serial = t.serial }

-- the records after all calls
unfoldable pub after_calls : List Caller → List Ask → List Caller
after_calls cs [] = cs
after_calls cs (q ∷ qs) = after_calls (asked cs q).callers qs

-- what the caller at position i is told, call by call
unfoldable pub told_to : ℕ → List Caller → List Ask → List Told
told_to i cs [] = []
told_to i cs (q ∷ qs) = pick (eqb q.position i) (told_of (asked cs q) ∷ told_to i (asked cs q).callers qs) (told_to i (asked cs q).callers qs)

-- the list "with all other callers' calls taken out"
unfoldable pub calls_of : ℕ → List Ask → List Ask
calls_of i [] = []
calls_of i (q ∷ qs) = pick (eqb q.position i) (q ∷ calls_of i qs) (calls_of i qs)

-- a serial in front, if there is one
abbrev pub with_serial : Option ℕ → List ℕ → List ℕ
with_serial none l = l
with_serial (some n) l = n ∷ l

-- the serials among what was told, in order
unfoldable pub serials_in : List Told → List ℕ
serials_in [] = []
serials_in (t ∷ l) = with_serial t.serial (serials_in l)

-- so many serials, one after another, from the record's on
unfoldable pub count_from : ℕ → Caller → List ℕ
count_from zero c = []
count_from (suc k) c = c.next ∷ count_from k (taken c)

pub record Isolation (i : ℕ) (cs : List Caller) (qs : List Ask) : Type 0 where
  -- "what others do, refused or accepted, changes none of its answers, serials"
  pub told : told_to i cs qs ≡ told_to i cs (calls_of i qs)
  -- "or its record"
  pub left : i < length cs → get_or (after_calls cs qs) i new_caller ≡ get_or (after_calls cs (calls_of i qs)) i new_caller
  -- the same on other records, as many or more or fewer, that have this caller's record
  pub elsewhere : (ds : List Caller) → i < length cs → i < length ds → get_or cs i new_caller ≡ get_or ds i new_caller → told_to i cs qs ≡ told_to i ds (calls_of i qs)
  -- "A caller's serials count its own accepted calls and wrap as before"
  pub serials : i < length cs → serials_in (told_to i cs qs) ≡ count_from (length (serials_in (told_to i cs qs))) (get_or cs i new_caller)
  -- the j-th of them, from 0, is j above the first, "after 4,294,967,295 the next serial is 0"
  pub wraps : i < length cs → (get_or cs i new_caller).next ≤ last_serial → (j : ℕ) → j < length (serials_in (told_to i cs qs))
      → get_or (serials_in (told_to i cs qs)) j 0 ≡ ((get_or cs i new_caller).next + j) % suc last_serial
  -- no record comes or goes
  pub many : length (after_calls cs qs) ≡ length cs
