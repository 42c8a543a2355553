-- What stands in the workspace is in the words from FUNCTIONS on.
use Prim.Native.Nat.{ℕ, ◌+◌}
use native.Mathlib.Omega.{arith}
use mathlib.Core.Path.{◌≡◌, ◌∙◌}
use mathlib.Core.List.{List}
use lib.ListN.{length, drop}
use Rattle.model.specs.Sheet.{Sheet}
use Rattle.workspace.specs.Layout.{FUNCTIONS, TRACKED}
use Rattle.workspace.proofs.Parts.{drop_more, drop-word}
use Rattle.workspace.proofs.Places.{tracked_kept}
use Rattle.copies.proofs.Errors.{functions_kept}
use Rattle.dataflow.specs.Function.{Stands}

-- so it stays if those words stay
pub stands_kept : (s : Sheet) (lists : List ℕ) {ws ws' : List ℕ} → drop FUNCTIONS ws' ≡ drop FUNCTIONS ws → length ws' ≡ length ws → Stands s lists ws → Stands s lists ws'
stands_kept s lists {ws} {ws'} e n h = record {
  size = omega (arith, n, h.size);
  functions = functions_kept (λ k l. drop-word FUNCTIONS (FUNCTIONS + k) ws ws' (omega arith) e) h.functions;
  tracked = tracked_kept ws ws' (length s.params + length s.context + 1) (drop_more FUNCTIONS TRACKED ws' ws (omega arith) e) ∙ h.tracked;
}
