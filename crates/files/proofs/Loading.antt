-- Words loaded into a buffer one after another: the first ones are the file's, the others are as before.
use Prim.Native.Nat.{ℕ, ◌+◌, ◌<◌}
use native.Mathlib.Nat.{zero-add}
use native.Mathlib.Numerals.{add-one}
use native.Mathlib.Omega.{arith}
use mathlib.Core.Path.{◌≡◌}
use mathlib.Core.List.{List, ◌++◌}
use lib.ListN.{length, take, drop, set, get_or}
use lib.Seq.{paste-suc}

-- one more word
pub load_one : (ws vs vs' : List ℕ) (i w : ℕ) → i < length vs → i < length ws → vs' ≡ take i ws ++ drop i vs → w ≡ get_or ws i 0 → set vs' i w ≡ take (i + 1) ws ++ drop (i + 1) vs
load_one ws vs vs' i w room there before read =
    let r : 0 + i < length vs = omega arith in
    rw (before, read) (simp add-one (simp zero-add at (paste-suc vs 0 ws i 0 r there)))
