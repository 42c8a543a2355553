-- What the functions of the render walk write and promise, by the render walk of document 01.
-- A queue entry is the identifier; the words of SEEN are 0, or 1 where the identifier was taken.
use Rattle.std.specs.Prelude.{ℕ, ◌+◌, ◌*◌, ◌%◌, ◌≤◌, ◌<◌, Bool, true, not, ◌≡◌, length, eqb}
use mathlib.Core.List.{List, [], ◌++◌, map, reverse_aux}
use Rattle.std.proofs.Math.Seq.{slice}
use Rattle.model.specs.Limits.{most_identifiers}
use Rattle.model.specs.Lists.{pick, one_if, tally}
use Rattle.model.specs.Mutation.{RenderOf}
use Rattle.model.specs.Size.{entries}
use Rattle.model.specs.Renders.{RenderWalk, render_step, render_run, render_walk}
use Rattle.workspace.specs.Graph.{ALIASES, CAPTURES, MISSING}
use Rattle.workspace.specs.Layout.{LEAST, QUEUE, HANDED, MUTATIONS}
use Rattle.workspace.specs.Rows.{rows_of, row_b, Good}
use Rattle.aliasing.specs.Pushes.{entries_w}
use Rattle.aliasing.specs.State.{nodes_of, seen_of, state_of}
use Rattle.aliasing.specs.Potential.{phi}
use Rattle.aliasing.specs.Walks.{Aside}

-- whether the walk passes by a node, by the words of its value and of its record: it is missing, or has a record
abbrev pub passes_w : ℕ → ℕ → Bool
passes_w v w = pick (eqb v MISSING) true (not (eqb (w % 16) 0))

-- what a node pushes: created-from, aliases, captures
unfoldable pub origins_w : List ℕ → ℕ → ℕ → List ℕ
origins_w g x index = entries_w index 0 0 (row_b g (4 * x)) ++ (entries_w index 0 0 (row_b g (4 * x + ALIASES)) ++ entries_w index 0 0 (row_b g (4 * x + CAPTURES)))

-- the queue by its words, of which the last was pushed last
unfoldable pub places_of : List ℕ → List ℕ
places_of l = reverse_aux (map (λ (w : ℕ). w % 512) l) []

-- a word of SEEN
abbrev pub taken : ℕ → Bool
taken w = not (eqb w 0)

-- the words hold the render walk w, its count aside
pub record Shows (ws : List ℕ) (top hand : ℕ) (w : RenderWalk) : Type 0 where
  pub queue : places_of (slice QUEUE top ws) ≡ w.queue
  pub seen : map taken (seen_of ws) ≡ w.seen
  pub state : state_of ws hand ≡ w.state

-- how many identifiers were not taken
unfoldable pub unseen : List ℕ → ℕ
unseen l = tally (λ (w : ℕ). one_if (eqb w 0)) l

-- what the walk needs at each entry: room in the queue, and room for one function of each identifier not taken
pub record Ready (ws : List ℕ) (top hand : ℕ) : Type 0 where
  pub size : LEAST ≤ length ws
  pub low : QUEUE ≤ top
  pub good : Good (rows_of ws)
  pub fits : top + phi (seen_of ws) (rows_of ws) most_identifiers ≤ HANDED
  pub from : HANDED ≤ hand
  pub room : hand + unseen (seen_of ws) ≤ MUTATIONS

-- what the walk leaves as it was: the fields of the nodes, the graph, and what lies behind the functions handed over
pub record Unmoved (ws ws' : List ℕ) : Type 0 where
  pub nodes : nodes_of ws' ≡ nodes_of ws
  pub aside : Aside ws ws'

-- one entry was taken
pub record Stepped (index : ℕ) (ws : List ℕ) (top hand : ℕ) (ws' : List ℕ) (top' hand' : ℕ) : Type 0 where
  pub follows : (w : RenderWalk) → Shows ws top hand w → Shows ws' top' hand' (render_step index w.queue w)
  pub ready : Ready ws' top' hand'
  pub falls : top' + phi (seen_of ws') (rows_of ws') most_identifiers < top + phi (seen_of ws) (rows_of ws) most_identifiers
  pub unmoved : Unmoved ws ws'

-- all entries were taken, `count` of them
pub record Walked (index : ℕ) (ws : List ℕ) (top hand : ℕ) (ws' : List ℕ) (count hand' : ℕ) : Type 0 where
  pub follows : (w : RenderWalk) → Shows ws top hand w → Shows ws' QUEUE hand' (render_run index count w)
  pub counts : (w : RenderWalk) → Shows ws top hand w → (render_run index count w).taken ≡ w.taken + count
  pub ready : Ready ws' QUEUE hand'
  pub unmoved : Unmoved ws ws'

-- the render of an identifier
abbrev pub render_at : ℕ → ℕ → RenderOf
render_at index start = record { index = index; identifier = start }

-- a render walk, the definition's in state and count; no function was handed over before it
pub record Rendered (index start : ℕ) (ws ws' : List ℕ) (count hand : ℕ) : Type 0 where
  pub state : state_of ws' hand ≡ (render_walk (render_at index start) (state_of ws HANDED)).state
  pub counts : count ≡ (render_walk (render_at index start) (state_of ws HANDED)).taken
  pub few : count ≤ 1 + entries (state_of ws HANDED).graph
  pub from : HANDED ≤ hand
  pub room : hand ≤ MUTATIONS
  pub unmoved : Unmoved ws ws'
