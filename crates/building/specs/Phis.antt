-- The phis that have operands, one word for each: where it stands in the sheet, and its first operand's index. The operands are read from the sheet: those whose predecessors have not come wait.
use Rattle.std.specs.Prelude.{ℕ, suc, ◌+◌, ◌*◌, ◌/◌, ◌%◌, ◌≤◌, Bool, not, List, [], ◌∷◌, ◌++◌, ◌≡◌, length, eqb}
use Rattle.std.proofs.Math.Seq.{slice}
use Rattle.model.specs.Limits.{most_identifiers, most_sheet, most_index}
use Rattle.model.specs.Lists.{keep, each, gather, among}
use Rattle.model.specs.Sheet.{IdentifierId, BlockId, Operand}
use Rattle.model.specs.Reading.{Position}
use Rattle.model.specs.Ranges.{PhiBelow}
use Rattle.model.specs.Graph.{Graph, into_aliases, relate}
use Rattle.model.specs.Built.{Waiting}
use Rattle.hir.specs.Words.{phi_from}
use Rattle.workspace.specs.Layout.{SEEN, PHIS}
use Rattle.workspace.specs.Rows.{Kept}
use Rattle.building.specs.declared.Held.{Held}
use Rattle.building.specs.Logs.{any_p}
use Rattle.building.specs.Held.{Builds}

-- ---- a phi's operands
-- an operand as it waits
abbrev pub waiting_at : IdentifierId → ℕ → Operand → Waiting
waiting_at into i o = record { predecessor = o.predecessor; index = i; origin = o.place.identifier; into = into }

-- each takes the next index
unfoldable pub indexed : IdentifierId → ℕ → List Operand → List Waiting
indexed into i [] = []
indexed into i (o ∷ l) = waiting_at into i o ∷ indexed into (suc i) l

-- those of the phi that stands at c
abbrev pub operands_from : List ℕ → Position → ℕ → List Waiting
operands_from s c i = indexed (phi_from s c).what.place.identifier i (phi_from s c).what.operands

-- a phi's word
abbrev pub phi_word : Position → ℕ → ℕ
phi_word c i = c + most_sheet * i

-- the operands of its phi
unfoldable pub operands_of : List ℕ → ℕ → List Waiting
operands_of s w = operands_from s (w % most_sheet) (w / most_sheet)

-- there are no more: each has an operand, and that has an index
abbrev pub most_phis : ℕ
most_phis = most_index

-- the words of the first n phis
abbrev pub phis_of : List ℕ → ℕ → List ℕ
phis_of ws n = slice PHIS (PHIS + n) ws

-- the operands that wait: their predecessors have not come
unfoldable pub waiting_of : List ℕ → List ℕ → List BlockId → List Waiting
waiting_of s phis come = keep (λ (w : Waiting). not (among w.predecessor come)) (gather (operands_of s) phis)

-- the phi at c stands in the sheet, its identifiers are in range, and so are the indexes from i on
pub record Stands (s : List ℕ) (c : Position) (i : ℕ) : Type 0 where
  pub inside : (phi_from s c).next ≤ length s
  pub range : PhiBelow most_identifiers (phi_from s c).what
  pub indexes : i + length (phi_from s c).what.operands ≤ most_index

-- so does the phi of a word
abbrev pub Known : List ℕ → ℕ → Type 0
Known s w = Stands s (w % most_sheet) (w / most_sheet)

-- ---- storing them
-- is the operand's predecessor one of n blocks that came, from number `first` on?
abbrev pub from : ℕ → ℕ → List ℕ → Waiting → Bool
from first n ws w = any_p (eqb w.predecessor) (slice (SEEN + first) (SEEN + first + n) ws)

-- the operands that pass the test are stored, in order
unfoldable pub stored : (Waiting → Bool) → List Waiting → Graph → Graph
stored test l = each (λ (w : Waiting). relate into_aliases w.index w.origin w.into) (keep test l)

abbrev pub Stores : (Waiting → Bool) → List Waiting → List ℕ → Held → List ℕ → Held → Type 0
Stores test l ws h ws' r = Builds (stored test l) ws h ws' r

-- one phi more
pub record PushesPhi (c : Position) (i : ℕ) (ws : List ℕ) (n : ℕ) (ws' : List ℕ) : Type 0 where
  pub phis : phis_of ws' (n + 1) ≡ phis_of ws n ++ (phi_word c i ∷ [])
  pub kept : Kept (PHIS + n) (PHIS + n + 1) ws ws'
