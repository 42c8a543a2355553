-- The ranges in the words while the pass over operands runs: starts and ends, a word for each identifier.
use Rattle.std.specs.Prelude.{ℕ, ◌+◌, ◌*◌, ◌≡◌, List, get_or}
use Rattle.std.proofs.Math.Seq.{slice}
use Rattle.model.specs.Limits.{most_identifiers}
use Rattle.model.specs.Answer.{Range}
use Rattle.model.specs.Operands.{Ranges}
use Rattle.workspace.specs.Layout.{STARTS, ENDS, CONTEXTS}
use Rattle.workspace.specs.Rows.{Kept}
use Rattle.workspace.specs.Graph.{tab}

-- the ranges
unfoldable pub ranges_of : List ℕ → Ranges
ranges_of ws = record { starts = slice STARTS ENDS ws; ends = slice ENDS CONTEXTS ws }

-- the ranges went through f, and no other word changed
pub record Ranged (f : Ranges → Ranges) (ws ws' : List ℕ) : Type 0 where
  pub ranges : ranges_of ws' ≡ f (ranges_of ws)
  pub kept : Kept STARTS CONTEXTS ws ws'

-- the range of identifier x
abbrev pub range_at : Ranges → ℕ → Range
range_at r x = record { start = get_or r.starts x 0; end = get_or r.ends x 0 }

-- the ranges of the first `count` identifiers
unfoldable pub first_ranges : ℕ → Ranges → List Range
first_ranges count r = tab count (range_at r)

-- "ranges (start, end)"
abbrev pub range_width : ℕ
range_width = 2

-- the words of the section: its count, and the ranges
abbrev pub most_ranges : ℕ
most_ranges = 1 + range_width * most_identifiers
