-- Document 02, order 9, "A serial for each caller": "the host lends one record for each caller, and a call that may take a serial names its caller by position, from 0".
use Rattle.std.specs.Prelude.{ℕ, Bool, List, length, get_or, set, leb}
use Rattle.std.proofs.Math.Option.{Option, none}
use Rattle.model.specs.Lists.{pick}
use Rattle.model.specs.Call.{Outcome, refusal}
use Rattle.model.specs.Load.{load}
use Rattle.model.specs.Service.{Caller, new_caller, Served, call}

-- "the caller's position is outside the records": always, if none is lent
unfoldable pub outside : ℕ → ℕ → Bool
outside callers i = leb callers i

-- what a call for a caller gives: its outcome, the serial of an accepted call, and all records afterwards
pub record ServedFor : Type 0 where
  pub outcome : Outcome
  pub serial : Option ℕ
  pub callers : List Caller

-- 11, "with every record unchanged"
abbrev pub refused_outside : List Caller → ServedFor
refused_outside cs = record { outcome = refusal 11; serial = none; callers = cs }

-- the named record is replaced, and no other
abbrev pub replaces : List Caller → ℕ → Served → ServedFor
replaces cs i t = record { outcome = t.outcome; serial = t.serial; callers = set cs i t.caller }

-- "11 .. before 1"; then the call of the named caller
unfoldable pub call_for : List Caller → ℕ → List ℕ → ℕ → ℕ → ServedFor
call_for cs i sheet workspace room = pick (outside (length cs) i) (refused_outside cs) (replaces cs i (call (get_or cs i new_caller) sheet workspace room))

-- "for order 2's sheets too": a class load for one of so many callers, which takes no serial and so leaves every record
unfoldable pub load_for : ℕ → ℕ → ℕ → ℕ → ℕ → ℕ → Outcome
load_for callers i seed n m room = pick (outside callers i) (refusal 11) (load seed n m room)
