-- What a drawing comes to, by what was prepared.
use Prim.Native.Nat.{ℕ, ◌≤◌, ◌<◌}
use mathlib.Core.Path.{◌≡◌, refl, sym, ap, subst, ◌∙◌}
use mathlib.Core.List.{List}
use lib.ListN.{length}
use Rattle.model.specs.Sheet.{Sheet}
use Rattle.model.specs.Reading.{Position, got}
use Rattle.model.specs.Graph.{Graph}
use Rattle.model.specs.State.{State}
use Rattle.model.specs.Building.{build}
use Rattle.model.specs.Summary.{built}
use Rattle.model.specs.Call.{refusal, fits, admit}
use Rattle.model.specs.Dot.{dot, drawn, draw}
use Rattle.workspace.specs.Rows.{rows_of, Indexed}
use Rattle.workspace.specs.Graph.{graph_of_rows}
use Rattle.workspace.specs.Sort.{cleared_from}
use Rattle.std.specs.Prelude.{Result, Ok, Err}
use Rattle.building.specs.declared.Building.{Building}
use Rattle.hir.specs.declared.refusal.Refusal.{Refusal}
use Rattle.hir.specs.Refusals.{refusal_number}
use Rattle.aliasing.specs.State.{state_of}
use Rattle.dataflow.specs.declared.function.HirFunction.{HirFunction}
use Rattle.dataflow.specs.declared.function.Read.{Read}
use Rattle.writing.specs.declared.Writer.{Writer}
use Rattle.writing.specs.Wrote.{Writes}
use Rattle.writing.proofs.Ending.{room, too_long}
use Rattle.inference.specs.Outcome.{Came}
use Rattle.inference.specs.Whole.{Prepared, Prepares}
use Rattle.inference.proofs.Calling.{refused_by, ready_by}
use Rattle.inference.proofs.Ending.{came_as, came_long, answered_all}
use Rattle.dot.specs.Drawn.{Drawn}

-- the graph in the rows is the one that was built
graph_is : {s : Sheet} {sheet lists ws : List ℕ} {f : HirFunction} {b : Building} → Prepared s sheet lists ws f b → graph_of_rows (rows_of ws) ≡ (build s).graph
unfolding state_of built
graph_is p = ap (λ (t : State). t.graph) p.state

-- the rows of what was built are in order
pub draw-indexed : {sheet ws ws₁ : List ℕ} {p : Result Read Refusal} → Prepares (admit sheet (length ws)) sheet ws ws₁ p → {x : Read} → p ≡ Ok x → Indexed ws₁
draw-indexed h e = let (_, (_, (_, (ready, _)))) = ready_by h e in ready.indexed

module _ (sheet ws text ws₁ : List ℕ) {p : Result Read Refusal} (h : Prepares (admit sheet (length ws)) sheet ws ws₁ p) {r : Result ℕ Refusal} {ws' text' : List ℕ} where
  pub draw_refused : {k : Refusal} → p ≡ Err k → Came (refusal (refusal_number k)) ws₁ text r ws' text' → Drawn sheet ws text r ws' text'
  unfolding draw drawn
  draw_refused e c = let q = refused_by h e in came_as (sym (ap (drawn (length text)) q.0)) (came_long q.1 refl c)

  module _ {x : Read} (e : p ≡ Ok x) where
    module _ {b : List ℕ} {o o₁ : Writer ℕ} (start : o.at ≡ 0) (items : o.buffer.now ≡ text) (put : Writes (dot (graph_of_rows (rows_of ws₁))) o o₁) (left : b ≡ o₁.buffer.now) where
      -- the outcome is the text of the sheet's graph, if it fits
      draw-fits : {s : Sheet} {c : Position} → Prepared s sheet sheet ws₁ x.function x.building → admit sheet (length ws) ≡ got s c → Came (fits (length o.buffer.now) (dot (graph_of_rows (rows_of ws₁)))) ws o.buffer.now r ws' text' → Drawn sheet ws text r ws' text'
      unfolding draw drawn
      draw-fits ready q c =
          came_as (ap (λ (g : Graph). fits (length text) (dot g)) (graph_is ready) ∙ sym (ap (drawn (length text)) q))
          (subst (λ (l : List ℕ). Came (fits (length l) (dot (graph_of_rows (rows_of ws₁)))) ws l r ws' text') items c)

      pub draw_nine : length b < o₁.at → Came (refusal 9) ws₁ b r ws' text' → Drawn sheet ws text r ws' text'
      draw_nine k c = let (_, (_, (q, (ready, same)))) = ready_by h e in draw-fits ready q (came_as (too_long put start (rw (sym left) k)) (came_long same (ap (λ (l : List ℕ). length l) left ∙ room put start) c))

      pub draw_accepted : o₁.at ≤ length b → r ≡ Ok o₁.at → ws' ≡ cleared_from 0 ws₁ → text' ≡ cleared_from o₁.at b → Drawn sheet ws text r ws' text'
      draw_accepted k is u v =
          let (_, (_, (q, (ready, same)))) = ready_by h e in
          draw-fits ready q
          (subst (λ (y : Result ℕ Refusal). Came (fits (length o.buffer.now) (dot (graph_of_rows (rows_of ws₁)))) ws o.buffer.now y ws' text') (sym is)
          (answered_all put start ws₁ (rw (sym left) k) same u (v ∙ ap (cleared_from o₁.at) left)))
