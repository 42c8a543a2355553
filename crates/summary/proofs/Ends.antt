-- The ends are the words from END on.
use Prim.Native.Nat.{ℕ, ◌+◌, ◌≤◌, ◌<◌}
use native.Mathlib.Omega.{arith}
use mathlib.Core.Path.{◌≡◌, sym, ◌∙◌}
use mathlib.Core.List.{List}
use lib.ListN.{length}
use lib.Seq.{slice, ext_get_or, length-slice}
use Rattle.model.specs.Limits.{most_identifiers}
use Rattle.workspace.specs.Layout.{LEAST, END, SEEN}
use Rattle.workspace.specs.Graph.{tab}
use Rattle.workspace.proofs.Parts.{slice_at}
use Rattle.workspace.proofs.Tables.{tab-length, tab_at}
use Rattle.aliasing.specs.State.{nodes_of, end_at, ends_of}
use Rattle.summary.proofs.Held.{node-word}

pub ends_words : (ws : List ℕ) → LEAST ≤ length ws → ends_of (nodes_of ws) ≡ slice END SEEN ws
unfolding ends_of
ends_words ws h =
    ext_get_or 0 (tab most_identifiers (end_at (nodes_of ws))) (slice END SEEN ws) (omega (arith, tab-length most_identifiers (end_at (nodes_of ws)), length-slice END SEEN ws (omega (arith, h))))
    (λ i k.
    let l : i < most_identifiers = omega (arith, k, tab-length most_identifiers (end_at (nodes_of ws))) in
    tab_at most_identifiers (end_at (nodes_of ws)) i 0 l ∙ node-word ws (END + i) (omega (arith, l)) ∙ sym (slice_at END SEEN i ws (omega (arith, l))))
