-- The mission's demand 3, said of the words that `process_mutations` leaves.
use Rattle.std.specs.Prelude.{ℕ, ◌<◌, List, ◌≡◌, length, get_or}
use Rattle.model.specs.Sheet.{Sheet}
use Rattle.model.specs.Mutation.{Mutation}
use Rattle.model.specs.Runs.{walks_of, after, largest_end}
use Rattle.model.specs.Summary.{built}
use Rattle.model.specs.Demand3.{how, Demand3}
use Rattle.aliasing.specs.State.{nodes_of, ends_of}

-- the claim about the listed mutations, and that the ends in the words are those which it speaks of
pub record EndsOf (s : Sheet) (ms : List Mutation) (ws : List ℕ) : Type 0 where
  pub claim : Demand3 s ms
  pub ends : ends_of (nodes_of ws) ≡ (after (how s) ms (built s)).ends
  pub each : (x : ℕ) → x < length s.identifiers → get_or (ends_of (nodes_of ws)) x 0 ≡ largest_end ms (walks_of (how s) ms (built s)) x (get_or (built s).ends x 0)
