-- What the functions of the walk promise, by the walk of document 01.
use Rattle.std.specs.Prelude.{ℕ, ◌+◌, ◌-◌, ◌*◌, ◌≤◌, ◌<◌, List, ◌≡◌, length, get_or, drop}
use Rattle.std.proofs.Math.Seq.{slice}
use Rattle.model.specs.Limits.{most_identifiers}
use Rattle.model.specs.Size.{edges, entries}
use Rattle.model.specs.Walks.{Walk, step, run, mutate}
use Rattle.workspace.specs.Layout.{LEAST, SEEN, BASE, VALUE, QUEUE, HANDED, MUTATIONS}
use Rattle.workspace.specs.Rows.{rows_of, Good, Kept}
use Rattle.aliasing.specs.Items.{queue_of}
use Rattle.aliasing.specs.Says.{mode_says, mutation_says}
use Rattle.aliasing.specs.State.{seen_of, levels, NoneAbove, state_of, Handing}
use Rattle.aliasing.specs.Potential.{phi}
use Rattle.aliasing.specs.declared.mutation.Mutation.{Mutation}

-- marks are cleared before a walk would count from a higher base
abbrev pub most_base : ℕ
most_base = 4096

-- the words hold the walk w, its accepted entries and its count aside: the queue up to `top`, the levels from `base` on, the state
pub record Shows (base : ℕ) (ws : List ℕ) (top hand : ℕ) (w : Walk) : Type 0 where
  pub queue : queue_of (slice QUEUE top ws) ≡ w.queue
  pub seen : levels base (seen_of ws) ≡ w.seen
  pub state : state_of ws hand ≡ w.state

-- what a walk needs at each entry
pub record Ready (base : ℕ) (ws : List ℕ) (top hand : ℕ) : Type 0 where
  pub size : LEAST ≤ length ws
  pub low : QUEUE ≤ top
  pub good : Good (rows_of ws)
  pub fits : top + phi (levels base (seen_of ws)) (rows_of ws) most_identifiers ≤ HANDED
  pub few : base ≤ most_base
  pub next : get_or ws BASE 0 ≡ base + 2
  pub handing : Handing ws hand

-- what no part of a walk changes: the graph, and what lies behind the functions handed over
pub record Aside (ws ws' : List ℕ) : Type 0 where
  pub graph : rows_of ws' ≡ rows_of ws
  pub behind : drop MUTATIONS ws' ≡ drop MUTATIONS ws
  pub same : length ws' ≡ length ws

-- one entry was taken
pub record Stepped (m : Mutation) (base : ℕ) (ws : List ℕ) (top hand : ℕ) (ws' : List ℕ) (top' hand' : ℕ) : Type 0 where
  pub follows : (w : Walk) → Shows base ws top hand w → Shows base ws' top' hand' (step (mode_says m) (mutation_says m) w.queue w)
  pub ready : Ready base ws' top' hand'
  pub falls : top' + phi (levels base (seen_of ws')) (rows_of ws') most_identifiers < top + phi (levels base (seen_of ws)) (rows_of ws) most_identifiers
  pub aside : Aside ws ws'

-- all entries were taken, `count` of them
pub record Walked (m : Mutation) (base : ℕ) (ws : List ℕ) (top hand : ℕ) (ws' : List ℕ) (count hand' : ℕ) : Type 0 where
  pub follows : (w : Walk) → Shows base ws top hand w → Shows base ws' QUEUE hand' (run (mode_says m) (mutation_says m) count w)
  pub counts : (w : Walk) → Shows base ws top hand w → (run (mode_says m) (mutation_says m) count w).taken ≡ w.taken + count
  pub few : QUEUE + count ≤ top + phi (levels base (seen_of ws)) (rows_of ws) most_identifiers
  pub ready : Ready base ws' QUEUE hand'
  pub aside : Aside ws ws'

-- no identifier is marked, and levels count from 0
pub record Unmarked (ws ws' : List ℕ) : Type 0 where
  pub base : get_or ws' BASE 0 ≡ 0
  pub marks : NoneAbove 0 ws'
  pub kept : Kept SEEN VALUE ws ws'

-- a walk's levels count from `base`, where no mark is above, and the next walk's from 2 higher
pub record BaseTaken (ws ws' : List ℕ) (base : ℕ) : Type 0 where
  pub few : base ≤ most_base
  pub next : get_or ws' BASE 0 ≡ base + 2
  pub marks : NoneAbove base ws'
  pub kept : Kept SEEN VALUE ws ws'

-- the walk of one mutation, the definition's in state and count
pub record Mutated (m : Mutation) (ws : List ℕ) (hand : ℕ) (ws' : List ℕ) (count hand' : ℕ) : Type 0 where
  pub state : state_of ws' hand' ≡ (mutate (mode_says m) (mutation_says m) (state_of ws hand)).state
  pub counts : count ≡ (mutate (mode_says m) (mutation_says m) (state_of ws hand)).taken
  pub few : count ≤ 1 + 2 * (edges (state_of ws hand).graph + entries (state_of ws hand).graph)
  -- so many as the queue has words
  pub most : count ≤ HANDED - QUEUE
  pub handing : Handing ws' hand'
  pub aside : Aside ws ws'
