-- The sections from params to walks, one after another.
use Prim.Native.Nat.{ℕ, ◌+◌, ◌-◌, ◌*◌, ◌<◌}
use native.Mathlib.Omega.{arith}
use mathlib.Core.Path.{◌≡◌, refl, sym, ap, ◌∙◌}
use mathlib.Core.List.{List, [], ◌∷◌, ◌++◌, map, append_assoc, map-append}
use lib.ListN.{length, get_or}
use lib.Seq.{slice, slice_empty}
use Rattle.model.specs.Limits.{most_mutations}
use Rattle.model.specs.Lists.{list_if}
use Rattle.model.specs.Sheet.{Place, Sheet}
use Rattle.model.specs.Mutation.{Mutation, RenderOf}
use Rattle.model.specs.State.{State, real}
use Rattle.model.specs.Walks.{Walk}
use Rattle.model.specs.Renders.{render_walk}
use Rattle.model.specs.Runs.{walks_of, after, rendered}
use Rattle.model.specs.Building.{build}
use Rattle.model.specs.Summary.{errors, built, real_walks, after_real, after_renders, marked}
use Rattle.model.specs.Simulated.{simulate}
use Rattle.model.specs.Answer.{place_words, diagnostic_words, effect_words, count_words, section, diagnosed, summary, answer, middle_words}
use Rattle.model.proofs.Quiet.{quiet}
use Rattle.model.proofs.Handed.{with_handed}
use Rattle.model.proofs.Rendering.{render_leaves}
use Rattle.workspace.specs.Layout.{HANDED, MUTATIONS, RENDERS, FUNCTIONS, SIMULATED}
use Rattle.workspace.specs.Rows.{Indexed}
use Rattle.workspace.specs.Graph.{graph_of_rows}
use Rattle.workspace.specs.Pending.{mutations_of, renders_of}
use Rattle.workspace.proofs.Parts.{drop_more, drop-word, slice_at}
use Rattle.workspace.proofs.Pending.{renders_kept}
use Rattle.workspace.proofs.Tables.{tab-same}
use Rattle.building.specs.declared.Building.{Building}
use Rattle.aliasing.specs.State.{records_of, ends_of, state_of}
use Rattle.aliasing.specs.Pending.{taken_of, Processed}
use Rattle.aliasing.proofs.Walks.{indexed-after}
use Rattle.renders.specs.Renders.{Unmoved}
use Rattle.writing.specs.declared.Writer.{Writer}
use Rattle.writing.specs.Wrote.{Writes}
use Rattle.writing.proofs.Writing.{writes_then, writes_as}
use Rattle.summary.specs.Records.{Holds}
use Rattle.workspace.specs.Tracked.{tracked_from}
use Rattle.summary.specs.Sections.{Marked, simulated_of}
use Rattle.summary.proofs.Whole.{params_tracked, context_tracked}
use Rattle.summary.proofs.Rooms.{marked_next}
use Rattle.copies.specs.Functions.{Functions}
use Rattle.copies.proofs.Errors.{functions_kept}
use Rattle.dataflow.specs.declared.function.HirFunction.{HirFunction}
use Rattle.dataflow.specs.Function.{Stands}
use Rattle.dataflow.proofs.Standing.{stands_kept}
use Rattle.inference.specs.Whole.{Prepared, TrackedPut}

-- ---- params, context
module _ {ws : List ℕ} {f : HirFunction} {o o₁ o₂ : Writer ℕ} where
  pub tracked_put : Marked ws 0 f.params o o₁ → Marked ws f.params f.context o₁ o₂ → TrackedPut ws f o o₂
  tracked_put p c = record {
    wrote = λ s sheet t d st h.
        let e : tracked_from ws 0 f.params ≡ s.params = ap (λ (k : ℕ). tracked_from ws 0 k) d.params ∙ params_tracked s ws st in
        let g : tracked_from ws f.params f.context ≡ s.context =
        ap (λ (k : ℕ). tracked_from ws k f.context) d.params ∙ ap (λ (k : ℕ). tracked_from ws (length s.params) k) d.context ∙ context_tracked s ws st in
        writes_then (writes_as (p t h) (ap (λ (q : List Place). section place_words (map (marked t) q)) e)) (writes_as (c t h) (ap (λ (q : List Place). section place_words (map (marked t) q)) g));
    few = omega (arith, marked_next ws 0 f.params p, marked_next ws f.params f.context c, f.params_few, f.context_few);
  }

-- ---- after the real mutations
rendered_leaves : (rs : List RenderOf) (t : State) → with_handed [] (rendered rs t) ≡ with_handed [] t
unfolding rendered
rendered_leaves [] t = refl
rendered_leaves (r ∷ rs) t = rendered_leaves rs (render_walk r t).state ∙ render_leaves r t

module _ {s : Sheet} {sheet lists ws : List ℕ} {f : HirFunction} {b : Building} (p : Prepared s sheet lists ws f b) {ws₁ : List ℕ} {hand : ℕ} (m : Processed f.errors ws b.mutations ws₁ hand) where
  pub real_state : state_of ws₁ hand ≡ after_real s
  unfolding after_real
  real_state =
      m.state ∙ ap (λ (t : State). after (real f.errors) (mutations_of ws b.mutations) t) p.state
      ∙ ap (λ (l : List Mutation). after (real f.errors) l (built s)) p.mutations
      ∙ ap (λ (e : _). after (real e) (build s).mutations (built s)) p.describes.errors

  pub real_counts : taken_of ws₁ b.mutations ≡ map (λ (w : Walk). w.taken) (real_walks s)
  unfolding real_walks
  real_counts =
      m.counts ∙ ap (λ (t : State). map (λ (w : Walk). w.taken) (walks_of (real f.errors) (mutations_of ws b.mutations) t)) p.state
      ∙ ap (λ (l : List Mutation). map (λ (w : Walk). w.taken) (walks_of (real f.errors) l (built s))) p.mutations
      ∙ ap (λ (e : _). map (λ (w : Walk). w.taken) (walks_of (real e) (build s).mutations (built s))) p.describes.errors

  pub real_indexed : Indexed ws₁
  real_indexed = indexed-after p.indexed m.graph m.same

  pub real_stands : Stands s lists ws₁
  real_stands = stands_kept s lists (drop_more RENDERS FUNCTIONS ws₁ ws (omega arith) m.behind) m.same p.stands

  pub real_renders : renders_of ws₁ b.renders ≡ (build s).renders
  real_renders = renders_kept ws ws₁ b.renders m.behind ∙ p.renders

  -- renders make no record
  pub real_holds : Holds ws₁ (after_renders s)
  unfolding state_of
  real_holds = (quiet s).render_records ∙ sym (ap (λ (t : State). t.records) real_state)

  -- ---- after the diagnostics
  module _ {ws₂ : List ℕ} (u : Unmoved ws₁ ws₂) where
    pub next_indexed : Indexed ws₂
    next_indexed = indexed-after real_indexed u.aside.graph u.aside.same

    pub next_stands : Stands s lists ws₂
    next_stands = stands_kept s lists (drop_more MUTATIONS FUNCTIONS ws₂ ws₁ (omega arith) u.aside.behind) u.aside.same real_stands

    same_state : state_of ws₂ HANDED ≡ with_handed [] (state_of ws₁ hand)
    unfolding state_of
    same_state = λ j. record {
      graph = graph_of_rows (u.aside.graph j);
      records = records_of (u.nodes j);
      ends = ends_of (u.nodes j);
      handed = slice_empty HANDED ws₂ j;
    }

    pub next_state_lem : state_of ws₂ HANDED ≡ with_handed [] (after_renders s)
    unfolding after_renders
    next_state_lem = same_state ∙ ap (with_handed []) real_state ∙ sym (rendered_leaves (list_if (errors s) (build s).renders) (after_real s))

    -- ---- after the effects
    module _ (ws₃ : List ℕ) (kept : slice MUTATIONS SIMULATED ws₃ ≡ slice MUTATIONS SIMULATED ws₂) where
      part_kept : (k i : ℕ) → i ≡ MUTATIONS + k → i < SIMULATED → get_or ws₃ i 0 ≡ get_or ws₂ i 0
      part_kept k i e h =
          ap (λ (x : ℕ). get_or ws₃ x 0) e
          ∙ sym (slice_at MUTATIONS SIMULATED k ws₃ (omega (arith, e, h)))
          ∙ ap (λ (l : List ℕ). get_or l k 0) kept
          ∙ slice_at MUTATIONS SIMULATED k ws₂ (omega (arith, e, h))
          ∙ ap (λ (x : ℕ). get_or ws₂ x 0) (sym e)

      word_kept : (i : ℕ) → i < b.mutations → get_or ws₃ (MUTATIONS + 3 * i + 2) 0 ≡ get_or ws₁ (MUTATIONS + 3 * i + 2) 0
      word_kept i h =
          let few : i < most_mutations = omega (arith, h, p.pending.few) in
          part_kept (3 * i + 2) (MUTATIONS + 3 * i + 2) (omega arith) (omega (arith, few))
          ∙ drop-word MUTATIONS (MUTATIONS + 3 * i + 2) ws₁ ws₂ (omega arith) u.aside.behind

      -- the inner functions are where they were
      pub last_functions : Functions lists ws₃ s.functions
      last_functions = functions_kept (λ k h. part_kept (FUNCTIONS - MUTATIONS + k) (FUNCTIONS + k) (omega arith) (omega (arith, h, p.below.function_count))) next_stands.functions

      last_counts : taken_of ws₃ b.mutations ≡ map (λ (w : Walk). w.taken) (real_walks s)
      unfolding taken_of
      last_counts =
          tab-same b.mutations (λ (i : ℕ). get_or ws₃ (MUTATIONS + 3 * i + 2) 0) (λ (i : ℕ). get_or ws₁ (MUTATIONS + 3 * i + 2) 0) word_kept
          ∙ real_counts

      module _ {o o₁ o₂ o₃ o₄ : Writer ℕ} where
        -- the sections from params to walks
        pub middle_wrote : TrackedPut ws₁ f o o₁ → Writes (section diagnostic_words (diagnosed s)) o₁ o₂ → Writes (section effect_words (summary s)) o₂ o₃
            → simulated_of ws₃ (f.params + f.context + 1) ≡ map (λ (w : Walk). w.taken) (simulate s).walks
            → Writes (section count_words (taken_of ws₃ b.mutations ++ simulated_of ws₃ (f.params + f.context + 1))) o₃ o₄
            → Writes (middle_words (answer s)) o o₄
        unfolding middle_words answer
        middle_wrote places diagnostics effects counts walks =
            let t : State = after_renders s in
            let taken : Walk → ℕ = λ (w : Walk). w.taken in
            let y : List ℕ = section place_words (map (marked t) s.params) in
            let z : List ℕ = section place_words (map (marked t) s.context) in
            let all : List ℕ = map taken (real_walks s ++ (simulate s).walks) in
            let c : taken_of ws₃ b.mutations ++ simulated_of ws₃ (f.params + f.context + 1) ≡ all =
            ap (λ (l : List ℕ). l ++ simulated_of ws₃ (f.params + f.context + 1)) last_counts ∙ ap (λ (l : List ℕ). map taken (real_walks s) ++ l) counts
            ∙ sym (map-append taken (real_walks s) (simulate s).walks) in
            let rest : List ℕ = section diagnostic_words (diagnosed s) ++ (section effect_words (summary s) ++ section count_words all) in
            writes_as (writes_then (places.wrote s sheet t p.describes real_stands.tracked real_holds) (writes_then diagnostics (writes_then effects (writes_as walks (ap (section count_words) c)))))
            (append_assoc y z rest)
