-- The ways that entering an identifier ends.
use Prim.Native.Nat.{ℕ, ◌+◌, ◌≤◌, ◌<◌}
use mathlib.Core.Bool.{Bool, false, not}
use mathlib.Core.List.{List}
use mathlib.Core.Path.{◌≡◌}
use lib.ListN.{get_or, set}
use lib.Dec.{eqb}
use borrow.Author.Tests.{lt-ltb, le-ltb}
use Rattle.workspace.specs.Graph.{MISSING}
use Rattle.workspace.specs.Layout.{SEEN, VALUE}
use Rattle.aliasing.specs.Accepts.{fresh_w, enter_w, enters_w}

module _ (ws : List ℕ) (x level : ℕ) where
  -- the words and the answer
  abbrev pub Enters : List ℕ → Bool → Type 0
  Enters ws₁ r = (ws₁ ≡ enter_w ws x level) × (r ≡ enters_w ws x level)

  pub enters_seen : level < get_or ws (SEEN + x) 0 → Enters ws false
  unfolding enter_w enters_w fresh_w
  enters_seen h = (rw (lt-ltb level (get_or ws (SEEN + x) 0) h), rw (lt-ltb level (get_or ws (SEEN + x) 0) h))

  pub enters_marked : get_or ws (SEEN + x) 0 ≤ level → Enters (set ws (SEEN + x) (level + 1)) (not (eqb (get_or ws (VALUE + x) 0) MISSING))
  unfolding enter_w enters_w fresh_w
  enters_marked h = (rw (le-ltb level (get_or ws (SEEN + x) 0) h), rw (le-ltb level (get_or ws (SEEN + x) 0) h))
