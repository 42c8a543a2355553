-- What a call of the service promises: reply, records and both buffers at exit are those of document 01's call for a caller (document 02, order 9).
use Rattle.std.specs.Prelude.{◌≡◌, ℕ, List, map, length}
use Rattle.std.proofs.Math.Option.{Option, none, some}
use Rattle.model.specs.Lists.{pick}
use Rattle.model.specs.Call.{refusal, length_of, number_of, answer_after, workspace_after}
use Rattle.model.specs.Service.{Caller as TheCaller, Served as TheServed, serves, call}
use Rattle.model.specs.Callers.{ServedFor as TheServedFor, outside, call_for}
use Rattle.service.specs.declared.Caller.{Caller}
use Rattle.service.specs.declared.Reply.{Reply}

-- a serial as a word, 0 for none
abbrev pub serial_word : Option ℕ → ℕ
serial_word none = 0
serial_word (some n) = n

-- the record with this next serial
abbrev pub caller_with : ℕ → TheCaller
caller_with n = record { next = n }

-- a lent record
abbrev pub caller_says : Caller → TheCaller
caller_says c = caller_with c.next

-- what the call `t` of one caller is told to the host as
pub record Tells (t : TheServed) (ws ans : List ℕ) (r : Reply) (next : ℕ) (ws' ans' : List ℕ) : Type 0 where
  pub refusal : r.refusal ≡ number_of t.outcome
  pub serial : r.serial ≡ serial_word t.serial
  pub long : r.length ≡ length_of t.outcome
  pub state : next ≡ t.caller.next
  pub answer : ans' ≡ answer_after (length ans) t.outcome
  pub workspace : ws' ≡ workspace_after (length ws)

-- a call of a caller whose next serial is `serial`
abbrev pub Served : ℕ → List ℕ → List ℕ → List ℕ → Reply → ℕ → List ℕ → List ℕ → Type 0
Served serial sheet ws ans r next ws' ans' = Tells (call (caller_with serial) sheet (length ws) (length ans)) ws ans r next ws' ans'

-- a call of a caller outside the records, whatever its serial
abbrev pub Outside : List ℕ → List ℕ → Reply → List ℕ → List ℕ → Type 0
Outside ws ans r ws' ans' = (serial : ℕ) → Tells (serves (caller_with serial) (refusal 11)) ws ans r serial ws' ans'

-- a call for one of so many callers, whose next serial is `serial`
abbrev pub ServedOf : ℕ → ℕ → ℕ → List ℕ → List ℕ → List ℕ → Reply → ℕ → List ℕ → List ℕ → Type 0
ServedOf callers i serial sheet ws ans r next ws' ans' =
    Tells (pick (outside callers i) (serves (caller_with serial) (refusal 11)) (call (caller_with serial) sheet (length ws) (length ans))) ws ans r next ws' ans'

-- what the call `t` for a caller is told to the host as; the records are those of `t`, so every other one is as it was
pub record TellsFor (t : TheServedFor) (ws ans : List ℕ) (r : Reply) (callers' : List Caller) (ws' ans' : List ℕ) : Type 0 where
  pub refusal : r.refusal ≡ number_of t.outcome
  pub serial : r.serial ≡ serial_word t.serial
  pub long : r.length ≡ length_of t.outcome
  pub callers : map caller_says callers' ≡ t.callers
  pub answer : ans' ≡ answer_after (length ans) t.outcome
  pub workspace : ws' ≡ workspace_after (length ws)

-- a call for the caller at position i
abbrev pub ServedFor : List Caller → ℕ → List ℕ → List ℕ → List ℕ → Reply → List Caller → List ℕ → List ℕ → Type 0
ServedFor callers i sheet ws ans r callers' ws' ans' = TellsFor (call_for (map caller_says callers) i sheet (length ws) (length ans)) ws ans r callers' ws' ans'
