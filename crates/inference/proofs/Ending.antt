-- What is left in both buffers at the end of a call.
use Prim.Native.Nat.{ℕ, ◌≤◌}
use mathlib.Core.Path.{◌≡◌, refl, sym, subst, ap, ◌∙◌}
use mathlib.Core.List.{List}
use lib.ListN.{length}
use Rattle.model.specs.Call.{Outcome as TheOutcome, refusal, fits, answer_after, workspace_after}
use Rattle.workspace.specs.Sort.{cleared_from}
use Rattle.workspace.proofs.Clearing.{cleared_all}
use Rattle.std.specs.Prelude.{Result, Ok, Err}
use Rattle.hir.specs.declared.refusal.Refusal.{Refusal}
use Rattle.hir.specs.Refusals.{refusal_number}
use Rattle.writing.specs.declared.Writer.{Writer}
use Rattle.writing.specs.Wrote.{Writes}
use Rattle.writing.specs.Outcome.{Filled}
use Rattle.writing.proofs.Ending.{filled_refused, filled_fitting}
use Rattle.inference.specs.Outcome.{Came}

pub came_as : {o o' : TheOutcome} {ws ans : List ℕ} {r : Result ℕ Refusal} {ws' ans' : List ℕ} → o ≡ o' → Came o ws ans r ws' ans' → Came o' ws ans r ws' ans'
came_as {o} {o'} {ws} {ans} {r} {ws'} {ans'} e c = subst (λ (x : TheOutcome). Came x ws ans r ws' ans') e c

-- of the buffers before, the lengths alone matter
pub came_long : {o : TheOutcome} {ws ans ws₁ ans₁ : List ℕ} {r : Result ℕ Refusal} {ws' ans' : List ℕ} → length ws₁ ≡ length ws → length ans₁ ≡ length ans → Came o ws₁ ans₁ r ws' ans' → Came o ws ans r ws' ans'
came_long {o} p q c = record { returned = c.returned; answer = c.answer ∙ ap (λ (n : ℕ). answer_after n o) q; workspace = c.workspace ∙ ap workspace_after p }

-- the answer buffer was filled, and the workspace, some of whose words had changed, is cleared
came_filled : {o : TheOutcome} {ws ans : List ℕ} {r : Result ℕ Refusal} {ws' ans' : List ℕ} (ws₁ : List ℕ) → Filled o ans r ans' → length ws₁ ≡ length ws → ws' ≡ cleared_from 0 ws₁ → Came o ws ans r ws' ans'
unfolding workspace_after
came_filled ws₁ f same e = record { returned = f.returned; answer = f.words; workspace = e ∙ cleared_all ws₁ ∙ ap workspace_after same }

pub refused_all : {k : Refusal} {ws ans ws' ans' : List ℕ} → ws' ≡ cleared_from 0 ws → ans' ≡ cleared_from 0 ans → Came (refusal (refusal_number k)) ws ans (Err k) ws' ans'
refused_all {ws = ws} p q = came_filled ws (filled_refused q) refl p

-- by a call of `refuse`
pub refused_came : {k : Refusal} {ws ans : List ℕ} {r : Result ℕ Refusal} {ws' ans' : List ℕ} → r ≡ Err k → ws' ≡ cleared_from 0 ws → ans' ≡ cleared_from 0 ans → Came (refusal (refusal_number k)) ws ans r ws' ans'
refused_came {k} {ws} {ans} {r} {ws'} {ans'} e p q = subst (λ (x : Result ℕ Refusal). Came (refusal (refusal_number k)) ws ans x ws' ans') (sym e) (refused_all p q)

-- an answer that fits
pub answered_all : {vs : List ℕ} {o o' : Writer ℕ} (w : Writes vs o o') → o.at ≡ 0 → {ws ws₂ ans₂ : List ℕ} (ws₁ : List ℕ) → o'.at ≤ length o'.buffer.now → length ws₁ ≡ length ws → ws₂ ≡ cleared_from 0 ws₁ → ans₂ ≡ cleared_from o'.at o'.buffer.now
    → Came (fits (length o.buffer.now) vs) ws o.buffer.now (Ok o'.at) ws₂ ans₂
answered_all w z ws₁ h same p q = came_filled ws₁ (filled_fitting w z h q) same p
