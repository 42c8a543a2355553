-- What a class load promises the host: reply and output are those of document 02, order 2. And what is said of any call that fills one buffer and takes no serial.
use Rattle.std.specs.Prelude.{◌≡◌, ℕ, List, length, Result, Ok, Err}
use Rattle.model.specs.Call.{Outcome, length_of, number_of, answer_after}
use Rattle.model.specs.Load.{load}
use Rattle.model.specs.Callers.{load_for}
use Rattle.hir.specs.declared.refusal.Refusal.{Refusal}
use Rattle.hir.specs.Refusals.{refusal_number}
use Rattle.service.specs.declared.Reply.{Reply}

-- what a call that came to `o` and filled one buffer is told to the host as: "It returns the sheet's length and no serial"
pub record TellsFilled (o : Outcome) (buffer : List ℕ) (r : Reply) (buffer' : List ℕ) : Type 0 where
  pub refusal : r.refusal ≡ number_of o
  pub serial : r.serial ≡ 0
  pub long : r.length ≡ length_of o
  pub words : buffer' ≡ answer_after (length buffer) o

-- the reply to such a call
abbrev pub reply_of : Result ℕ Refusal → Reply
reply_of (Err k) = record { refusal = refusal_number k; serial = 0; length = 0 }
reply_of (Ok n) = record { refusal = 0; serial = 0; length = n }

-- a class load
abbrev pub Loaded : ℕ → ℕ → ℕ → List ℕ → Reply → List ℕ → Type 0
Loaded seed n m sheet r sheet' = TellsFilled (load seed n m (length sheet)) sheet r sheet'

-- a class load for the caller at position i, of so many
abbrev pub LoadedFor : ℕ → ℕ → ℕ → ℕ → ℕ → List ℕ → Reply → List ℕ → Type 0
LoadedFor callers i seed n m sheet r sheet' = TellsFilled (load_for callers i seed n m (length sheet)) sheet r sheet'
