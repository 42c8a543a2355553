-- The parts of the workspace after writes elsewhere.
use Prim.Native.Nat.{ℕ, ◌+◌, ◌≤◌, ◌<◌}
use native.Mathlib.Omega.{arith}
use mathlib.Core.List.{List}
use mathlib.Core.Path.{◌≡◌, refl}
use lib.ListN.{length, get_or, set}
use lib.Seq.{slice, length-slice, length-take-le}
use Rattle.model.specs.Limits.{most_identifiers}
use Rattle.workspace.specs.Layout.{LEAST, SEEN, BASE, VALUE, QUEUE}
use Rattle.workspace.specs.Rows.{rows_of, Kept}
use Rattle.workspace.proofs.Parts.{slice_at, slice_take, slice_drop, slice_set_in, take_less, drop-word, kept_none, kept_set, kept_at}
use Rattle.aliasing.specs.declared.mutation.Mutation.{Mutation}
use Rattle.aliasing.specs.State.{nodes_of, seen_of}
use Rattle.aliasing.specs.Accepts.{accept_w}
use Rattle.aliasing.proofs.Writes.{local_accept}

module _ {b e : ℕ} {ws ws' : List ℕ} (k : Kept b e ws ws') where
  pub slice_below : (f t : ℕ) → t ≤ b → slice f t ws' ≡ slice f t ws
  slice_below f t h = slice_take b f t ws' ws h k.low

  pub slice_above : (f t : ℕ) → e ≤ f → f ≤ t → slice f t ws' ≡ slice f t ws
  slice_above f t h q = slice_drop e f t ws' ws h q k.high

  pub nodes_below : SEEN ≤ b → nodes_of ws' ≡ nodes_of ws
  unfolding nodes_of
  nodes_below h = take_less SEEN b ws' ws h k.low

  pub seen_below : BASE ≤ b → seen_of ws' ≡ seen_of ws
  unfolding seen_of
  seen_below h = slice_below SEEN BASE h

  pub seen_above : e ≤ SEEN → seen_of ws' ≡ seen_of ws
  unfolding seen_of
  seen_above h = slice_above SEEN BASE h (omega arith)

  pub rows_below : QUEUE ≤ b → rows_of ws' ≡ rows_of ws
  unfolding rows_of
  rows_below h = slice_below VALUE QUEUE h

  pub rows_above : e ≤ VALUE → rows_of ws' ≡ rows_of ws
  unfolding rows_of
  rows_above h = slice_above VALUE QUEUE h (omega arith)

  pub base_below : BASE < b → get_or ws' BASE 0 ≡ get_or ws BASE 0
  base_below h = kept_at k BASE h

  pub base_above : e ≤ BASE → get_or ws' BASE 0 ≡ get_or ws BASE 0
  base_above h = drop-word e BASE ws ws' h k.high

-- ---- a level
pub mark_kept : (ws : List ℕ) (x l : ℕ) → x < most_identifiers → Kept SEEN BASE ws (set ws (SEEN + x) l)
mark_kept ws x l h = kept_set (kept_none SEEN BASE ws) (SEEN + x) l (omega arith) (omega arith)

pub mark_seen : (ws : List ℕ) (x l : ℕ) → x < most_identifiers → seen_of (set ws (SEEN + x) l) ≡ set (seen_of ws) x l
unfolding seen_of
mark_seen ws x l h = slice_set_in SEEN BASE x ws l (omega arith)

pub seen_at : (ws : List ℕ) (x : ℕ) → x < most_identifiers → get_or (seen_of ws) x 0 ≡ get_or ws (SEEN + x) 0
unfolding seen_of
seen_at ws x h = slice_at SEEN BASE x ws (omega arith)

pub seen_length : (ws : List ℕ) → LEAST ≤ length ws → length (seen_of ws) ≡ most_identifiers
unfolding seen_of
seen_length ws h = length-slice SEEN BASE ws (omega arith)

-- ---- an accepted node
pub accept_kept : (ws : List ℕ) (x t k : ℕ) (m : Mutation) → x < most_identifiers → Kept 0 SEEN ws (accept_w ws x t k m)
accept_kept ws x t k m h = record { low = refl; high = (local_accept x t k m h).post ws; same = (local_accept x t k m h).len ws }

pub accept_nodes : (ws : List ℕ) (x t k : ℕ) (m : Mutation) → x < most_identifiers → nodes_of (accept_w ws x t k m) ≡ accept_w (nodes_of ws) x t k m
unfolding nodes_of
accept_nodes ws x t k m h = (local_accept x t k m h).pre ws

pub nodes_length : (ws : List ℕ) → LEAST ≤ length ws → length (nodes_of ws) ≡ SEEN
unfolding nodes_of
nodes_length ws h = length-take-le SEEN ws (omega arith)
