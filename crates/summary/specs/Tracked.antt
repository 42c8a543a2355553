-- The tracked places with the marks of those that have a record.
use Rattle.std.specs.Prelude.{ℕ, ◌+◌, ◌*◌, List, map, ◌≡◌}
use Rattle.model.specs.State.{State}
use Rattle.model.specs.Summary.{marked}
use Rattle.workspace.specs.Layout.{TRACKED}
use Rattle.workspace.specs.Rows.{Kept}
use Rattle.workspace.specs.Tracked.{tracked_of}
use Rattle.summary.specs.Records.{Holds}

-- the first `count` places have their marks
pub record Marks (ws : List ℕ) (count : ℕ) (ws' : List ℕ) : Type 0 where
  pub places : (t : State) → Holds ws t → tracked_of ws' count ≡ map (marked t) (tracked_of ws count)
  pub kept : Kept TRACKED (TRACKED + 2 * count) ws ws'
