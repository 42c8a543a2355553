-- Renders one after another. None moves what the next one starts from, so each hands over what it would hand over first.
use Prim.Native.Nat.{ℕ, ◌+◌, ◌-◌, ◌*◌, ◌/◌, ◌%◌, ◌≤◌, ◌<◌}
use native.Mathlib.Omega.{arith}
use mathlib.Core.Path.{◌≡◌, refl, sym, ap, ◌∙◌}
use mathlib.Core.List.{List, [], ◌++◌}
use lib.ListN.{length, get_or, drop}
use lib.Seq.{slice, slice_empty}
use Rattle.model.specs.Lists.{gather}
use Rattle.model.specs.Sheet.{InnerFunction}
use Rattle.model.specs.Mutation.{RenderOf}
use Rattle.model.specs.State.{State}
use Rattle.model.specs.Renders.{render_walk}
use Rattle.model.specs.Runs.{rendered}
use Rattle.model.specs.Answer.{function_errors, diagnostic_words}
use Rattle.model.proofs.Handed.{with_handed}
use Rattle.model.proofs.Rendering.{hands_over, rendered_handed}
use Rattle.workspace.specs.Layout.{HANDED, MUTATIONS, RENDERS, FUNCTIONS}
use Rattle.workspace.specs.Rows.{rows_of, Indexed}
use Rattle.workspace.specs.Graph.{tab, graph_of_rows}
use Rattle.workspace.specs.Pending.{render_of, render_at, renders_of}
use Rattle.workspace.proofs.Parts.{drop-word}
use Rattle.aliasing.specs.State.{nodes_of, records_of, ends_of, state_of}
use Rattle.aliasing.proofs.Walks.{aside_none, aside_then, indexed-after}
use Rattle.renders.specs.Renders.{Unmoved, Rendered}
use Rattle.writing.specs.declared.Writer.{Writer}
use Rattle.writing.specs.Wrote.{Writes}
use Rattle.writing.proofs.Writing.{writes_as}
use Rattle.copies.specs.Functions.{functions_of, Functions}
use Rattle.copies.proofs.Errors.{functions_are, functions_again, functions_kept, handed_room}
use Rattle.model.proofs.Gathers.{gather_gather}
use Rattle.copies.proofs.Loops.{Leaves, table_turn, table_end}
use Rattle.diagnostics.specs.Diagnosed.{most_handed, RendersPut}

pub unmoved_none : (ws : List ℕ) → Unmoved ws ws
unmoved_none ws = record { nodes = refl; aside = aside_none ws }

pub unmoved_then : {ws₁ ws₂ ws₃ : List ℕ} → Unmoved ws₁ ws₂ → Unmoved ws₂ ws₃ → Unmoved ws₁ ws₃
unmoved_then a b = record { nodes = b.nodes ∙ a.nodes; aside = aside_then a.aside b.aside }

-- ---- what stays
-- the places of the inner functions lie behind what a render writes
functions_stay : {lists ws ws' : List ℕ} {fs : List InnerFunction} → Unmoved ws ws' → Functions lists ws fs → Functions lists ws' fs
functions_stay {ws = ws} {ws'} u g = functions_kept (λ k h. drop-word MUTATIONS (FUNCTIONS + k) ws ws' (omega arith) u.aside.behind) g

-- the render that is read there is the one of the start
word_kept : (ws ws' : List ℕ) (i : ℕ) → Unmoved ws ws' → get_or ws' (RENDERS + i) 0 ≡ get_or ws (RENDERS + i) 0
word_kept ws ws' i u = drop-word MUTATIONS (RENDERS + i) ws ws' (omega arith) u.aside.behind

-- nothing is handed over yet at HANDED
pub state_bare : (ws : List ℕ) (hand : ℕ) → state_of ws HANDED ≡ with_handed [] (state_of ws hand)
unfolding state_of
state_bare ws hand = ap (λ (l : List ℕ). with_handed l (state_of ws hand)) (slice_empty HANDED ws)

-- the state that a render starts from
state_kept : (ws ws' : List ℕ) → Unmoved ws ws' → state_of ws' HANDED ≡ state_of ws HANDED
unfolding state_of
state_kept ws ws' u =
    state_bare ws' HANDED
    ∙ ap (λ (g : List ℕ). record { graph = graph_of_rows g; records = records_of (nodes_of ws'); ends = ends_of (nodes_of ws'); handed = [] }) u.aside.graph
    ∙ ap (λ (n : List ℕ). record { graph = graph_of_rows (rows_of ws); records = records_of n; ends = ends_of n; handed = [] }) u.nodes
    ∙ sym (state_bare ws HANDED)

-- ---- what is handed over
pub handed_words : (ws : List ℕ) (hand : ℕ) → slice HANDED hand ws ≡ (state_of ws hand).handed
unfolding state_of
handed_words ws hand = refl

-- by all renders, one after another
pub rendered-words : (rs : List RenderOf) (ws : List ℕ) → (rendered rs (state_of ws HANDED)).handed ≡ gather (hands_over (state_of ws HANDED)) rs
rendered-words rs ws =
    rendered_handed rs (state_of ws HANDED)
    ∙ ap (λ (l : List ℕ). l ++ gather (hands_over (state_of ws HANDED)) rs) (sym (handed_words ws HANDED) ∙ slice_empty HANDED ws)

-- by one
render_words_lem : (ws ws' : List ℕ) (w : ℕ) {count hand : ℕ} → Rendered (w / 512) (w % 512) ws ws' count hand
    → slice HANDED hand ws' ≡ hands_over (state_of ws HANDED) (render_of w)
unfolding render_of
render_words_lem ws ws' w {count} {hand} r =
    handed_words ws' hand ∙ ap (λ (s : State). s.handed) r.state ∙ ap (λ (s : State). (render_walk (render_of w) s).state.handed) (state_bare ws HANDED)

-- ---- the loop
-- the diagnostics of the functions that one render hands over, in words
abbrev pub render_words : State → List InnerFunction → RenderOf → List ℕ
render_words t fs r = gather diagnostic_words (gather (function_errors fs) (hands_over t r))

-- from render i on
pub record Rendering (fs : List InnerFunction) (ws₀ : List ℕ) (n : ℕ) (o₀ : Writer ℕ) (ws : List ℕ) (o : Writer ℕ) (i : ℕ) : Type 0 where
  pub leaves : Leaves (gather (render_words (state_of ws₀ HANDED) fs) (tab n (render_at ws₀))) (gather (render_words (state_of ws₀ HANDED) fs) (drop i (tab n (render_at ws₀)))) o₀ o
  pub few : o.at + most_handed * (n - i) ≤ o₀.at + most_handed * n
  pub unmoved : Unmoved ws₀ ws
  pub indexed : Indexed ws

module _ {fs : List InnerFunction} {ws₀ : List ℕ} {n : ℕ} {o₀ : Writer ℕ} {ws : List ℕ} {o : Writer ℕ} {i : ℕ} (v : Rendering fs ws₀ n o₀ ws o i) where
  module _ {ws' : List ℕ} {count hand : ℕ} (r : Rendered (get_or ws (RENDERS + i) 0 / 512) (get_or ws (RENDERS + i) 0 % 512) ws ws' count hand) where
    -- what this render hands over, by the state and the words of the start
    turn_words : slice HANDED hand ws' ≡ hands_over (state_of ws₀ HANDED) (render_at ws₀ i)
    unfolding render_at
    turn_words =
        render_words_lem ws ws' (get_or ws (RENDERS + i) 0) r
        ∙ ap (λ (s : State). hands_over s (render_of (get_or ws (RENDERS + i) 0))) (state_kept ws₀ ws v.unmoved)
        ∙ ap (λ (w : ℕ). hands_over (state_of ws₀ HANDED) (render_of w)) (word_kept ws₀ ws i v.unmoved)

    turn_unmoved : Unmoved ws₀ ws'
    turn_unmoved = unmoved_then v.unmoved r.unmoved

    module _ {lists : List ℕ} (g : Functions lists ws₀ fs) {m : ℕ} (q : m ≡ length fs) where
      -- the functions stand where they stood
      pub turn_functions : Functions lists ws' (functions_of lists ws' m)
      turn_functions = functions_again (functions_stay turn_unmoved g) q

      pub rendering_turn : i < n → {o' : Writer ℕ} → Writes (gather diagnostic_words (gather (function_errors (functions_of lists ws' m)) (slice HANDED hand ws'))) o o' → Rendering fs ws₀ n o₀ ws' o' (i + 1)
      rendering_turn h p =
          let same : functions_of lists ws' m ≡ fs = functions_are (functions_stay turn_unmoved g) q in
          let indexed = indexed-after v.indexed r.unmoved.aside.graph r.unmoved.aside.same in
          record {
            leaves =
                table_turn (render_words (state_of ws₀ HANDED) fs) n (render_at ws₀) i v.leaves h
                (writes_as p
                (ap (λ (l : List InnerFunction). gather diagnostic_words (gather (function_errors l) (slice HANDED hand ws'))) same
                ∙ ap (λ (l : List ℕ). gather diagnostic_words (gather (function_errors fs) l)) turn_words));
            few = omega (arith, v.few, handed_room turn_functions hand (omega (arith, r.room, indexed.size)) p, r.room, h);
            unmoved = turn_unmoved;
            indexed = indexed;
          }

  pub rendering_end : n ≤ i → {lists : List ℕ} {m : ℕ} → functions_of lists ws₀ m ≡ fs → RendersPut lists ws₀ m n o₀ ws o
  unfolding renders_of
  rendering_end h {lists} {m} q = record {
    wrote =
        let t : State = state_of ws₀ HANDED in
        let rs : List RenderOf = tab n (render_at ws₀) in
        writes_as (table_end (render_words t fs) n (render_at ws₀) i v.leaves h)
        (sym (gather_gather diagnostic_words (λ (r : RenderOf). gather (function_errors fs) (hands_over t r)) rs)
        ∙ ap (gather diagnostic_words) (sym (gather_gather (function_errors fs) (hands_over t) rs) ∙ ap (gather (function_errors fs)) (sym (rendered-words rs ws₀)))
        ∙ ap (λ (l : List InnerFunction). gather diagnostic_words (gather (function_errors l) (rendered rs t).handed)) (sym q));
    few = omega (arith, v.few);
    unmoved = v.unmoved;
  }
