-- What copying a part of the sheet into the answer promises. The sheet was accepted before, so the part is the one that stands there.
use Rattle.std.specs.Prelude.{ℕ, ◌+◌, ◌≤◌, ◌≡◌, List}
use Rattle.model.specs.Reading.{Position}
use Rattle.hir.specs.Words.{Standing}
use Rattle.writing.specs.declared.Writer.{Writer}
use Rattle.writing.specs.Wrote.{Writes}

-- the words w of the part f at c were written, `next` is the position after the part, and at most as many words were written as were read
pub record Copies {A : Type 0} (f : Standing A) (w : A → List ℕ) (sheet : List ℕ) (c : Position) (o o' : Writer ℕ) (next : ℕ) : Type 0 where
  pub wrote : Writes (w (f sheet c).what) o o'
  pub after : next ≡ (f sheet c).next
  pub few : o'.at + c ≤ o.at + next
