-- Words written into the answer buffer, or bytes into a text, from a position on, as far as there is room.
use Rattle.std.specs.Prelude.{ℕ, ◌+◌, ◌≡◌, List, length, set}
use Rattle.std.proofs.lemmas.List.Edits.{sets}
use Rattle.writing.specs.declared.Writer.{Writer}

-- no answer is nearly so long: a bound that keeps sums of positions from wrapping
abbrev pub farthest : ℕ
farthest = 1099511627776

-- vs written from `at` on, and where the next word goes. (`sets` leaves a list alone beyond its end.)
pub record Wrote {A : Type 0} (vs : List A) (answer : List A) (at : ℕ) (answer' : List A) (r : ℕ) : Type 0 where
  pub words : answer' ≡ sets answer at vs
  pub next : r ≡ at + length vs

-- a writer at another position
abbrev pub moved : {A : Type 0} → Writer A → ℕ → Writer A
moved o at = record { buffer = o.buffer; at = at }

-- the same by a writer, which keeps its buffer
pub record Writes {A : Type 0} (vs : List A) (o o' : Writer A) : Type 0 where
  pub wrote : Wrote vs o.buffer.now o.at o'.buffer.now o'.at
  pub same : o'.buffer.ghost_name ≡ o.buffer.ghost_name

-- an item that was written before, replaced
pub record Patches {A : Type 0} (at : ℕ) (v : A) (o o' : Writer A) : Type 0 where
  pub items : o'.buffer.now ≡ set o.buffer.now at v
  pub stays : o'.at ≡ o.at
  pub same : o'.buffer.ghost_name ≡ o.buffer.ghost_name
