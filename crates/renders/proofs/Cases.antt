-- What a step of document 01's render walk does, by what is known of the entry; how steps add up; and that a walk at rest is the whole walk.
use Prim.Native.Nat.{ℕ, suc, ◌+◌}
use native.Mathlib.Nat.{add_comm}
use mathlib.Core.Bool.{Bool, true, false}
use mathlib.Core.List.{List, [], ◌∷◌}
use mathlib.Core.Option.{Option, none, some}
use mathlib.Core.Logic.{◌⊎◌, inl, inr}
use mathlib.Core.Path.{◌≡◌, refl, sym, ap, subst, ◌∙◌}
use lib.ListN.{get_or}
use Rattle.model.specs.Graph.{Node, node_at}
use Rattle.model.specs.Mutation.{RenderOf}
use Rattle.model.specs.Size.{enough}
use Rattle.model.specs.State.{State, no_record, has_record}
use Rattle.model.specs.Renders.{RenderWalk, pass_by, render_node, render_visit, render_step, render_run, render_start, render_walk}
use Rattle.model.proofs.RenderBound.{render_ends_lem, run_rest, run_add}

-- the entry is skipped
abbrev pub skip_by : List ℕ → RenderWalk → RenderWalk
skip_by q w = record { queue = q; seen = w.seen; taken = suc w.taken; state = w.state }

module _ (i : ℕ) (w : RenderWalk) (x : ℕ) (q : List ℕ) (is : w.queue ≡ x ∷ q) where
  pub step_skips : get_or w.seen x false ≡ true → render_step i w.queue w ≡ skip_by q w
  unfolding render_step render_visit
  step_skips h =
      subst (λ (l : List ℕ). render_step i l w ≡ skip_by q w) (sym is)
      (ap (λ (b : Bool). render_visit i b (has_record (get_or w.state.records x no_record)) (node_at w.state.graph x) x q w) h)

  passes : (b : Bool) (o : Option Node) → (o ≡ none) ⊎ (b ≡ true) → render_visit i false b o x q w ≡ pass_by x q w
  unfolding render_visit
  passes b o (inl e) = ap (λ (n : Option Node). render_visit i false b n x q w) e
  passes b none (inr e) = refl
  passes b (some n) (inr e) = ap (λ (c : Bool). render_visit i false c (some n) x q w) e

  pub step_passes : get_or w.seen x false ≡ false → (node_at w.state.graph x ≡ none) ⊎ (has_record (get_or w.state.records x no_record) ≡ true) → render_step i w.queue w ≡ pass_by x q w
  unfolding render_step
  step_passes h o =
      subst (λ (l : List ℕ). render_step i l w ≡ pass_by x q w) (sym is)
      (ap (λ (b : Bool). render_visit i b (has_record (get_or w.state.records x no_record)) (node_at w.state.graph x) x q w) h
      ∙ passes (has_record (get_or w.state.records x no_record)) (node_at w.state.graph x) o)

  pub step-renders : (n : Node) → get_or w.seen x false ≡ false → node_at w.state.graph x ≡ some n → has_record (get_or w.state.records x no_record) ≡ false → render_step i w.queue w ≡ render_node i n x q w
  unfolding render_step render_visit
  step-renders n h o r =
      subst (λ (l : List ℕ). render_step i l w ≡ render_node i n x q w) (sym is)
      (ap (λ (b : Bool). render_visit i b (has_record (get_or w.state.records x no_record)) (node_at w.state.graph x) x q w) h
      ∙ ap (λ (b : Bool). render_visit i false b (node_at w.state.graph x) x q w) r ∙ ap (λ (n : Option Node). render_visit i false false n x q w) o)

visit-taken : (i : ℕ) (c b : Bool) (o : Option Node) (x : ℕ) (q : List ℕ) (w : RenderWalk) → (render_visit i c b o x q w).taken ≡ suc w.taken
unfolding render_visit
visit-taken i true b o x q w = refl
visit-taken i false b none x q w = refl
visit-taken i false true (some n) x q w = refl
visit-taken i false false (some n) x q w = refl

-- a step counts its entry
pub step-taken : (i : ℕ) (w : RenderWalk) (x : ℕ) (q : List ℕ) → w.queue ≡ x ∷ q → (render_step i w.queue w).taken ≡ suc w.taken
unfolding render_step
step-taken i w x q is =
    subst (λ (l : List ℕ). (render_step i l w).taken ≡ suc w.taken) (sym is)
    (visit-taken i (get_or w.seen x false) (has_record (get_or w.state.records x no_record)) (node_at w.state.graph x) x q w)

-- ---- steps in a row
pub run_next : (i n : ℕ) (w : RenderWalk) → render_run i (n + 1) w ≡ render_step i (render_run i n w).queue (render_run i n w)
unfolding render_run
run_next i n w = run_add i n 1 w

-- however many steps, a walk at rest is the whole walk
pub at_rest : (r : RenderOf) (s : State) (n : ℕ) → (render_run r.index n (render_start r s)).queue ≡ [] → render_run r.index n (render_start r s) ≡ render_walk r s
unfolding render_walk
at_rest r s n h =
    let a : ℕ = enough s.graph in
    sym (run_rest r.index a (render_run r.index n (render_start r s)) h) ∙ sym (run_add r.index n a (render_start r s))
    ∙ ap (λ (f : ℕ). render_run r.index f (render_start r s)) (add_comm n a)
    ∙ run_add r.index a n (render_start r s) ∙ run_rest r.index n (render_run r.index a (render_start r s)) (render_ends_lem r s)
