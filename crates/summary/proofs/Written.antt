-- The section of effects, one part after another.
use Prim.Native.Nat.{ℕ, ◌+◌, ◌-◌, ◌*◌, ◌/◌, ◌≤◌}
use native.Mathlib.Omega.{arith}
use mathlib.Core.Path.{◌≡◌, refl, sym, ap, subst, ◌∙◌}
use mathlib.Core.Bool.{false}
use mathlib.Core.List.{List, [], ◌∷◌, ◌++◌}
use lib.ListN.{length}
use Rattle.model.specs.Limits.{most_params, most_context, effect_width}
use Rattle.model.specs.Lists.{gather}
use Rattle.model.specs.Sheet.{Place, Effect, Sheet}
use Rattle.model.specs.Summary.{after_renders, copied, collect_param_effects, create_returns}
use Rattle.model.specs.Simulated.{simulate}
use Rattle.model.specs.Answer.{effect_words, summary}
use Rattle.hir.specs.Says.{place_is}
use Rattle.hir.specs.Words.{identifier_at, several, block_from}
use Rattle.workspace.specs.Layout.{HANDED, MUTATIONS, SIMULATED}
use Rattle.workspace.specs.Rows.{Good, Indexed}
use Rattle.aliasing.proofs.Parts.{slice_below, nodes_below, rows_below}
use Rattle.aliasing.proofs.Entries.{state_same}
use Rattle.writing.specs.declared.Writer.{Writer}
use Rattle.writing.specs.Wrote.{Writes, Patches}
use Rattle.writing.proofs.Writing.{writes_none, writes_then, writes_as}
use Rattle.copies.specs.Copies.{Copies}
use Rattle.copies.specs.Words.{block_words}
use Rattle.copies.specs.Returns.{identifier_from, create_of}
use Rattle.copies.specs.declared.effect_lists.Section.TheVariants.{Effects}
use Rattle.model.proofs.Gathers.{gather_append}
use Rattle.copies.proofs.Sections.{copied-words, section_patched, effects-count}
use Rattle.summary.specs.Records.{Holds, Collected}
use Rattle.workspace.specs.Tracked.{tracked_of, tracked_from}
use Rattle.summary.specs.Tracked.{Marks}
use Rattle.summary.proofs.Held.{holds_state}
use Rattle.summary.proofs.Rooms.{collected_next}
use Rattle.summary.proofs.Turns.{walkable_from}
use Rattle.summary.proofs.Whole.{params_tracked, context_tracked, marks_tracked}
use Rattle.dataflow.specs.declared.function.HirFunction.{HirFunction}
use Rattle.dataflow.proofs.Described.{returns_create}
use Rattle.summary.specs.Simulates.{most_flows, most_effects, Marked, Simulates, CopiedPut, Before, EffectsPut}

-- the words hold the records that the walks and renders left
holds_after : (s : Sheet) {sheet ws : List ℕ} {f : HirFunction} {index : ℕ} → Before s sheet ws f index → Holds ws (after_renders s)
holds_after s {ws = ws} b = holds_state ws HANDED b.state

-- the parts of the summary in words
summary-words : (s : Sheet)
    → gather effect_words (summary s)
    ≡ gather effect_words (copied s)
    ++ (gather effect_words (gather (collect_param_effects (after_renders s)) s.context)
    ++ (gather effect_words (gather (collect_param_effects (after_renders s)) s.params)
    ++ (effect_words (create_returns s) ++ gather effect_words (simulate s).effects)))
unfolding summary
summary-words s =
    let c : List Effect = gather (collect_param_effects (after_renders s)) s.context in
    let p : List Effect = gather (collect_param_effects (after_renders s)) s.params in
    let r : List Effect = create_returns s ∷ (simulate s).effects in
    gather_append effect_words (copied s) (c ++ (p ++ r))
    ∙ ap (λ (l : List ℕ). gather effect_words (copied s) ++ l)
    (gather_append effect_words c (p ++ r) ∙ ap (λ (l : List ℕ). gather effect_words c ++ l) (gather_append effect_words p r))

-- ---- the copied effects
module _ (sheet : List ℕ) (f : HirFunction) where
  pub copied_put : (several f.blocks.count block_from sheet f.blocks.first).next ≤ length sheet → {o o' : Writer ℕ} {next : ℕ} → Copies (several f.blocks.count block_from) (gather (block_words Effects)) sheet f.blocks.first o o' next
      → CopiedPut sheet f o o'
  copied_put h c = record { wrote = λ s d. writes_as c.wrote (ap (gather (block_words Effects)) d.blocks ∙ copied-words s); few = omega (arith, c.few, c.after, h); same = c.wrote.same }

  pub copied-not : f.copies ≡ false → (o : Writer ℕ) → CopiedPut sheet f o o
  copied-not e o = record { wrote = λ s d. writes_as (writes_none o) (ap (gather effect_words) (sym (d.copies e))); few = omega arith; same = refl }

-- the graph is the same with the marks
pub indexed-after : {ws ws₁ : List ℕ} {n : ℕ} → Indexed ws → Marks ws n ws₁ → Indexed ws₁
indexed-after i m = record { size = omega (arith, i.size, m.kept.same); good = subst Good (sym (rows_below m.kept (omega arith))) i.good }

module _ (sheet ws : List ℕ) (f : HirFunction) (index : ℕ) where
  -- Create for returns, by the type that stands in the sheet
  abbrev ReturnsWrote : Writer ℕ → Writer ℕ → Type 0
  ReturnsWrote = Writes (effect_words (create_of (place_is f.returns) (identifier_at sheet (identifier_from f.identifiers.first f.returns.identifier.0)).type))

  -- ---- each part, for a sheet
  module _ (s : Sheet) (b : Before s sheet ws f index) where
    context_wrote : {o o' : Writer ℕ} → Collected ws (tracked_from ws f.params f.context) o o' → Writes (gather effect_words (gather (collect_param_effects (after_renders s)) s.context)) o o'
    context_wrote c =
        writes_as (c (after_renders s) (holds_after s b))
        (ap (λ (l : List Place). gather effect_words (gather (collect_param_effects (after_renders s)) l))
        (ap (λ (n : ℕ). tracked_from ws n f.context) b.describes.params ∙ ap (λ (n : ℕ). tracked_from ws (length s.params) n) b.describes.context
        ∙ context_tracked s ws b.tracked))

    params_wrote : {o o' : Writer ℕ} → Collected ws (tracked_from ws 0 f.params) o o' → Writes (gather effect_words (gather (collect_param_effects (after_renders s)) s.params)) o o'
    params_wrote c =
        writes_as (c (after_renders s) (holds_after s b))
        (ap (λ (l : List Place). gather effect_words (gather (collect_param_effects (after_renders s)) l))
        (ap (λ (n : ℕ). tracked_from ws 0 n) b.describes.params ∙ params_tracked s ws b.tracked))

    returns_is : s.returns.identifier ≡ f.returns.identifier.0
    returns_is = ap (λ (p : Place). p.identifier) (sym b.describes.returns)

    returns_wrote : {o o' : Writer ℕ} → ReturnsWrote o o' → Writes (effect_words (create_returns s)) o o'
    returns_wrote c = writes_as c (ap effect_words (returns_create b.describes))

    -- with their marks the tracked places are those of the simulated walks
    marked_before : {ws₁ : List ℕ} → Marks ws (f.params + f.context) ws₁ → Marked s ws₁ (f.params + f.context + 1) index f.returns.identifier.0
    marked_before {ws₁} m =
        let e : f.params + f.context ≡ length s.params + length s.context = omega (arith, b.describes.params, b.describes.context) in
        record {
          places = sym (ap (λ (n : ℕ). tracked_of ws₁ (n + 1)) e ∙ marks_tracked s ws b.tracked (holds_after s b) (subst (λ (n : ℕ). Marks ws n ws₁) e m));
          identifier = returns_is;
          state = state_same ws ws₁ HANDED HANDED (rows_below m.kept (omega arith)) (nodes_below m.kept (omega arith)) (slice_below m.kept HANDED HANDED (omega arith)) ∙ b.state;
          first = b.first;
        }

  -- ---- one part after another
  module _ {o o₁ o₂ o₃ : Writer ℕ}
      (put : Writes (0 ∷ []) o o₁)
      (copy : CopiedPut sheet f o₁ o₂)
      (context : Collected ws (tracked_from ws f.params f.context) o₂ o₃)
    where
      -- where the next word goes after the context's effects
      pub after_context : o₃.at ≤ o.at + 1 + length sheet + 2 * effect_width * most_context
      after_context = omega (arith, put.wrote.next, copy.few, collected_next ws f.params f.context context, f.context_few)

      module _ {o₄ : Writer ℕ} (params : Collected ws (tracked_from ws 0 f.params) o₃ o₄) where
        -- after those of the parameters
        pub after_params : o₄.at ≤ o.at + 1 + length sheet + 2 * effect_width * (most_context + most_params)
        after_params = omega (arith, after_context, collected_next ws 0 f.params params, f.params_few)

        module _ (some : (s : Sheet) × Before s sheet ws f index) {o₅ : Writer ℕ} (create : ReturnsWrote o₄ o₅) where
          -- after Create for returns
          pub after_returns : o₅.at + most_flows ≤ o.at + most_effects
          after_returns = omega (arith, after_params, some.1.describes.short, create.wrote.next)

          module _ {ws₁ : List ℕ} (marks : Marks ws (f.params + f.context) ws₁) where
            -- so the simulated walks can run
            pub some_marked : (s : Sheet) × Marked s ws₁ (f.params + f.context + 1) index f.returns.identifier.0
            some_marked = (some.0, marked_before some.0 some.1 marks)

            module _ {ws₂ : List ℕ} {o₆ : Writer ℕ} (walks : Simulates ws₁ (f.params + f.context + 1) index f.returns.identifier.0 o₅ ws₂ o₆) where
              -- all but the count
              all_parts : (s : Sheet) → Before s sheet ws f index → Writes (0 ∷ gather effect_words (summary s)) o o₆
              all_parts s b =
                  writes_as
                  (writes_then put
                  (writes_then (copy.wrote s b.describes)
                  (writes_then (context_wrote s b context) (writes_then (params_wrote s b params) (writes_then (returns_wrote s b create) (walks.wrote s (marked_before s b marks)))))))
                  (ap (λ (l : List ℕ). 0 ∷ l) (sym (summary-words s)))

              -- after what the simulated walks found
              pub after_walks : o₆.at ≤ o.at + most_effects
              after_walks = omega (arith, after_returns, walks.few, f.params_few, f.context_few)

              pub rises : o.at + 1 ≤ o₆.at
              rises = omega (arith, (all_parts some.0 some.1).wrote.next)

              -- the count was patched in
              pub effects_put : {o₇ : Writer ℕ} → Patches o.at ((o₆.at - (o.at + 1)) / effect_width) o₆ o₇ → EffectsPut sheet ws f index o ws₂ o₇
              effects_put {o₇} p = record {
                wrote = λ s b. section_patched effect_words (summary s) (all_parts s b) p (effects-count (summary s) (all_parts s b));
                left = λ s b. walks.left s (marked_before s b marks);
                walkable = walkable_from (rows_below marks.kept (omega arith)) marks.kept.same walks.walkable;
                kept = walks.kept ∙ slice_below marks.kept MUTATIONS SIMULATED (omega arith);
                few = omega (arith, p.stays, after_walks);
                same = p.same ∙ (all_parts some.0 some.1).same;
              }
