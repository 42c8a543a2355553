-- What an accepted node pushes, as words of the queue: document 01, "Walks", rules 1 to 4.
-- A queue entry is identifier + 512 * transitive + 1024 * forwards + 2048 * definite.
use Rattle.std.specs.Prelude.{ℕ, ◌+◌, ◌-◌, ◌*◌, ◌/◌, ◌%◌, ◌≤◌, Bool, false, List, [], ◌∷◌, ◌++◌, length, ltb, eqb}
use Rattle.model.specs.Lists.{pick}
use Rattle.workspace.specs.Graph.{ALIASES, MAYBE, CAPTURES, PHI}
use Rattle.workspace.specs.Layout.{LEAST, QUEUE, HANDED}
use Rattle.workspace.specs.Rows.{rows_of, value, fb, bb, row_f, row_b, Good}

-- an entry of the queue
abbrev pub entry_w : ℕ → ℕ → ℕ → ℕ → ℕ
entry_w x transitive direction kind = x + 512 * transitive + 1024 * direction + 2048 * kind

-- the kind along a forward edge: over a maybe-alias it is Conditional
unfoldable pub edge_level : ℕ → ℕ → ℕ
edge_level w kind = pick (eqb (w / 512 % 4) MAYBE) 0 kind

-- the entry along a forward edge
abbrev pub forward_e : ℕ → ℕ → ℕ → ℕ
forward_e transitive kind w = entry_w (w % 512) transitive 1 (edge_level w kind)

-- 1. forward edges, stopping at the first index not below
unfoldable pub forward_w : ℕ → ℕ → ℕ → List ℕ → List ℕ
forward_w index transitive kind [] = []
forward_w index transitive kind (w ∷ row) = pick (ltb (w / 2048) index) (forward_e transitive kind w ∷ forward_w index transitive kind row) []

-- 2, 3, 4: the entries of one list with an index below
unfoldable pub entries_w : ℕ → ℕ → ℕ → List ℕ → List ℕ
entries_w index transitive kind [] = []
entries_w index transitive kind (w ∷ row) =
    pick (ltb (w / 2048) index) (entry_w (w % 512) transitive 0 kind ∷ entries_w index transitive kind row) (entries_w index transitive kind row)

-- a phi arrived at forwards
abbrev pub blocked_w : ℕ → ℕ → Bool
blocked_w v direction = pick (eqb direction 1) (eqb v PHI) false

-- 3. aliases, then maybe-aliases
unfoldable pub aliases_w : List ℕ → ℕ → ℕ → ℕ → ℕ → ℕ → List ℕ
aliases_w g x direction index transitive kind =
    pick (blocked_w (value g x) direction) []
    (entries_w index transitive kind (row_b g (4 * x + ALIASES)) ++ entries_w index transitive 0 (row_b g (4 * x + MAYBE)))

-- 4. captures
unfoldable pub captures_w : List ℕ → ℕ → ℕ → ℕ → ℕ → List ℕ
captures_w g x index transitive kind = pick (eqb transitive 1) (entries_w index transitive kind (row_b g (4 * x + CAPTURES))) []

-- all that x pushes
unfoldable pub pushed_w : List ℕ → ℕ → ℕ → ℕ → ℕ → ℕ → List ℕ
pushed_w g x direction index transitive kind =
    forward_w index transitive kind (row_f g x)
    ++ (entries_w index 1 kind (row_b g (4 * x)) ++ (aliases_w g x direction index transitive kind ++ captures_w g x index transitive kind))

-- the words that row k can push
abbrev pub words_b : List ℕ → ℕ → ℕ
words_b g k = bb g (k + 1) - bb g k

-- the words that the forward edges of x can push
abbrev pub words_f : List ℕ → ℕ → ℕ
words_f g x = fb g (x + 1) - fb g x

-- the words that x can push
abbrev pub deg : List ℕ → ℕ → ℕ
deg g x = words_f g x + (bb g (4 * x + 4) - bb g (4 * x))

-- room in the queue for `need` entries more
pub record Room (ws : List ℕ) (top need : ℕ) : Type 0 where
  pub size : LEAST ≤ length ws
  pub low : QUEUE ≤ top
  pub good : Good (rows_of ws)
  pub room : top + need ≤ HANDED
