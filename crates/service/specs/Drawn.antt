-- What a drawing promises the host: reply, every byte lent and the workspace are those of document 02, order 6.
use Rattle.std.specs.Prelude.{◌≡◌, ℕ, List, length}
use Rattle.model.specs.Call.{workspace_after}
use Rattle.model.specs.Dot.{draw}
use Rattle.service.specs.declared.Reply.{Reply}
use Rattle.service.specs.Loaded.{TellsFilled}

-- a drawing
pub record Drawn (sheet ws text : List ℕ) (r : Reply) (ws' text' : List ℕ) : Type 0 where
  pub told : TellsFilled (draw sheet (length ws) (length text)) text r text'
  pub workspace : ws' ≡ workspace_after (length ws)
