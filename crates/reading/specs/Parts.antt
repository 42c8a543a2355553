-- Parts one after another: what is known of each, and so of all.
use Rattle.std.specs.Prelude.{ℕ, zero, suc, ◌≡◌, List, Result, Ok, Err, MatchResult}
use Rattle.model.specs.Reading.{Read}
use Rattle.hir.specs.declared.Cursor.{Cursor}
use Rattle.hir.specs.declared.refusal.Refusal.{Refusal}
use Rattle.reading.specs.Says.{cursor_says}

-- so many parts, each read from what the one before left; the first refusal decides
abbrev pub Times : {P : Type 0} → (P → Result P Refusal → Type 0) → ℕ → P → Result P Refusal → Type 0
Times part zero p r = r ≡ Ok p
Times {P} part (suc k) p r = (v : Result P Refusal) × part p v × MatchResult v (λ q. Times part k q r) (λ e. r ≡ Err e)

-- a part of which nothing goes on is read so
abbrev pub IsPart : (Cursor → Result Cursor Refusal → Type 0) → Read (Unit {0}) → List ℕ → Type 0
IsPart part f ws = (c : Cursor) (r : Result Cursor Refusal) → part c r → cursor_says r ≡ f ws c.at
