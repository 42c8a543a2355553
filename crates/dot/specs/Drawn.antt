-- What a drawing promises: its result, every byte lent and the workspace at exit are those of document 02, order 6.
use Rattle.std.specs.Prelude.{List, ℕ, Result, length}
use Rattle.model.specs.Dot.{draw}
use Rattle.hir.specs.declared.refusal.Refusal.{Refusal}
use Rattle.inference.specs.Outcome.{Came}

-- the drawing
abbrev pub Drawn : List ℕ → List ℕ → List ℕ → Result ℕ Refusal → List ℕ → List ℕ → Type 0
Drawn sheet ws text r ws' text' = Came (draw sheet (length ws) (length text)) ws text r ws' text'
