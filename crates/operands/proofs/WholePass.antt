-- The pass over a whole sheet: its beginning, its blocks, and the sections of places with their counts.
use Prim.Native.Nat.{ℕ, ◌+◌, ◌-◌, ◌/◌, ◌≤◌}
use native.Mathlib.Omega.{arith}
use mathlib.Core.Path.{◌≡◌, sym, ap, subst, ◌∙◌}
use mathlib.Core.Bool.{Bool}
use mathlib.Core.List.{List, [], ◌∷◌}
use lib.ListN.{length}
use Rattle.model.specs.Limits.{most_inner_context, place_width}
use Rattle.model.specs.Lists.{gather, each, Every}
use Rattle.model.specs.Sheet.{EvaluationOrder, InnerFunction, Place, Block, Sheet}
use Rattle.model.specs.Reading.{Position}
use Rattle.model.specs.Ranges.{FunctionBelow}
use Rattle.model.specs.Operands.{Pass, sheet_starts, ends_before, block, before_pass, after_pass}
use Rattle.model.specs.Answer.{answer, operand_words, place_words, section}
use Rattle.model.proofs.Everywhere.{every_mem}
use Rattle.hir.specs.Words.{several, block_from}
use Rattle.workspace.specs.Layout.{END, SEEN, STARTS, PASSED, FUNCTIONS}
use Rattle.workspace.specs.Rows.{Kept}
use Rattle.workspace.proofs.Parts.{slice_take, drop-word, kept_then}
use Rattle.writing.specs.declared.Writer.{Writer}
use Rattle.writing.specs.Wrote.{Writes, Patches, farthest}
use Rattle.writing.proofs.Writing.{writes_then, writes_as}
use Rattle.copies.proofs.Errors.{functions_kept}
use Rattle.copies.proofs.Sections.{section_patched}
use Rattle.dataflow.specs.declared.function.HirFunction.{HirFunction}
use Rattle.operands.specs.declared.Section.{Section}
use Rattle.operands.specs.declared.Section.TheVariants.{Phis, Instructions, Terminals}
use Rattle.operands.specs.Ranges.{ranges_of}
use Rattle.operands.specs.Contexts.{contexts_of}
use Rattle.operands.specs.Known.{Known}
use Rattle.operands.specs.Marking.{ContextsPut}
use Rattle.operands.specs.Begun.{identifiers_in, Begun}
use Rattle.operands.specs.Passes.{pass_of, forget, places_in, BlockOf, Ready, Passable, Passed}
use Rattle.operands.specs.Whole.{Passing, most_section, SectionPut, most_inner, InnerPut, OperandsPut}
use Rattle.operands.proofs.Putting.{places_length}
use Rattle.operands.proofs.Stepping.{known_kept}
use Rattle.operands.proofs.Widening.{functions_wider, blocks_wider}

-- ---- a section of places whose count is known only at its end
places_count : (l : List Place) {x : ℕ} {o o' : Writer ℕ} → Writes (x ∷ gather place_words l) o o' → (o'.at - (o.at + 1)) / place_width ≡ length l
places_count l h = omega (arith, h.wrote.next, places_length l)

-- the places l behind a count, which is then patched
pub places_patched : (l : List Place) {x : ℕ} {o o₁ o₂ o₃ : Writer ℕ} → Writes (x ∷ []) o o₁ → Writes (gather place_words l) o₁ o₂ → Patches o.at ((o₂.at - o₁.at) / place_width) o₂ o₃ → Writes (section place_words l) o o₃
places_patched l {o₂ = o₂} p w e =
    let both = writes_then p w in
    section_patched place_words l both e (ap (λ (n : ℕ). (o₂.at - n) / place_width) p.wrote.next ∙ places_count l both)

-- ---- the contexts of the inner functions
module _ {lists ws : List ℕ} {count : ℕ} {o o₁ o₂ : Writer ℕ} (put : Writes (0 ∷ []) o o₁) (contexts : ContextsPut count lists ws o₁ o₂) where
  module _ (some : (fs : List InnerFunction) × (Known lists ws fs × (count ≡ length fs))) where
    pub inner_few : o₂.at ≤ o.at + most_inner
    inner_few = omega (arith, put.wrote.next, contexts.few, some.1.0.count, some.1.1)

    pub inner_put : {o₃ : Writer ℕ} → Patches o.at ((o₂.at - o₁.at) / place_width) o₂ o₃ → InnerPut count lists ws o o₃
    inner_put e = record {
      wrote = λ fs k n. places_patched (gather (λ (l : List Place). l) (contexts_of ws fs)) put (contexts.wrote fs k n) e;
      few = omega (arith, inner_few, e.stays);
      same = e.same ∙ contexts.same ∙ put.same;
    }

-- ---- what stays between the sections
pub passing_kept : {s : Sheet} {sheet lists ws ws' : List ℕ} {f : HirFunction} → Kept STARTS PASSED ws ws' → Passing s sheet lists ws f → Passing s sheet lists ws' f
passing_kept {ws = ws} {ws'} k p = record {
  describes = p.describes;
  stands = record {
    size = omega (arith, k.same, p.stands.size);
    functions = functions_kept (λ i l. drop-word PASSED (FUNCTIONS + i) ws ws' (omega arith) k.high) p.stands.functions;
  };
  below = p.below;
  ends = slice_take STARTS END SEEN ws' ws (omega arith) k.low ∙ p.ends;
}

-- ---- the pass over s
-- a pass that begins on these starts, ends and contexts
abbrev begun_on : List EvaluationOrder → List EvaluationOrder → List (List Place) → Pass
begun_on starts ends contexts = record { ranges = record { starts = starts; ends = ends }; contexts = contexts; phis = []; instructions = []; terminals = [] }

module _ {s : Sheet} {sheet lists ws : List ℕ} {f : HirFunction} (p : Passing s sheet lists ws f) where
  pub passing_known : Known lists ws s.functions
  passing_known = record {
    size = p.stands.size;
    functions = p.stands.functions;
    contexts = functions_wider p.below.identifiers s.functions p.below.functions;
    count = p.below.function_count;
  }

  module _ {ws₁ : List ℕ} (b : Begun (identifiers_in sheet f.identifiers).what ws ws₁) where
    -- the words have what the pass begins on
    pub begun_pass : pass_of ws₁ s.functions ≡ before_pass s
    unfolding pass_of before_pass
    begun_pass =
        let fs : List InnerFunction = s.functions in
        let few = every_mem (FunctionBelow (length s.identifiers)) (λ (g : InnerFunction). length g.context ≤ most_inner_context) fs (λ g m h. h.1) p.below.functions in
        ap (λ (x : List EvaluationOrder). begun_on x (ranges_of ws₁).ends (contexts_of ws₁ fs)) (b.starts ∙ ap sheet_starts p.describes.identifiers)
        ∙ ap (λ (x : List EvaluationOrder). begun_on (sheet_starts s.identifiers) x (contexts_of ws₁ fs)) (b.ends ∙ p.ends)
        ∙ ap (begun_on (sheet_starts s.identifiers) (ends_before s)) (b.contexts fs p.below.function_count few)

    pub blocks_ready : Ready (several f.blocks.count block_from) (λ (fs : List InnerFunction). Every (BlockOf fs)) sheet lists ws₁ f.blocks.first s.functions
    blocks_ready = record {
      known = known_kept b.kept passing_known;
      below = subst (Every (BlockOf s.functions)) (sym p.describes.blocks) (blocks_wider p.below.identifiers (length s.functions) s.blocks p.below.blocks);
    }

    pub blocks_passable : {o o₁ : Writer ℕ} → o.at + most_section ≤ farthest → Writes (0 ∷ []) o o₁ → Passable (several f.blocks.count block_from) (λ (fs : List InnerFunction). Every (BlockOf fs)) sheet lists ws₁ f.blocks.first o₁
    blocks_passable h put = record { functions = s.functions; ready = blocks_ready; inside = p.describes.blocks_inside; room = omega (arith, h, put.wrote.next, p.describes.short) }

    -- what it leaves
    pub after_is : each (block f.function_expression s.functions) (several f.blocks.count block_from sheet f.blocks.first).what (pass_of ws₁ s.functions) ≡ after_pass s
    unfolding after_pass
    after_is =
        ap (λ (x : Pass). each (block f.function_expression s.functions) (several f.blocks.count block_from sheet f.blocks.first).what x) begun_pass
        ∙ ap (λ (l : List Block). each (block f.function_expression s.functions) l (before_pass s)) p.describes.blocks
        ∙ ap (λ (x : Bool). each (block x s.functions) s.blocks (before_pass s)) p.describes.function_expression

-- ---- a section: the pass from its beginning
module _ {which : Section} {sheet lists : List ℕ} {f : HirFunction} {ws ws₁ ws₂ : List ℕ} {o o₁ o₂ : Writer ℕ} {r : Position} (begin : Begun (identifiers_in sheet f.identifiers).what ws ws₁) (put : Writes (0 ∷ []) o o₁)
    (blocks : Passed (several f.blocks.count block_from) (λ (fs : List InnerFunction). Every (BlockOf fs)) (λ (fs : List InnerFunction). each (block f.function_expression fs)) which sheet lists f.blocks.first ws₁ o₁ ws₂ o₂ r) where
  module _ {s : Sheet} (p : Passing s sheet lists ws f) where
    section_places : Writes (gather place_words (places_in which (after_pass s))) o₁ o₂
    section_places = writes_as (blocks.steps s.functions (blocks_ready p begin)).wrote (ap (λ (x : Pass). gather place_words (places_in which x)) (after_is p begin))

    section_pass : pass_of ws₂ s.functions ≡ forget (after_pass s)
    section_pass = (blocks.steps s.functions (blocks_ready p begin)).pass ∙ ap forget (after_is p begin)

    pub section_few : o₂.at ≤ o.at + most_section
    section_few = omega (arith, put.wrote.next, blocks.few, blocks.after, p.describes.blocks_inside, p.describes.short)

    pub section_rises : o₁.at ≤ o₂.at
    section_rises = omega (arith, section_places.wrote.next)

  pub section_put : ((s : Sheet) × Passing s sheet lists ws f) → {o₃ : Writer ℕ} → Patches o.at ((o₂.at - o₁.at) / place_width) o₂ o₃ → SectionPut which sheet lists f ws o ws₂ o₃
  section_put some e = record {
    wrote = λ s p. places_patched (places_in which (after_pass s)) put (section_places p) e;
    pass = λ s p. section_pass p;
    kept = kept_then STARTS PASSED begin.kept blocks.kept (omega arith) (omega arith) (omega arith) (omega arith);
    few = omega (arith, section_few some.1, e.stays);
    same = e.same ∙ blocks.same ∙ put.same;
  }

-- ---- all four
pass_contexts : (ws : List ℕ) (fs : List InnerFunction) (q : Pass) → pass_of ws fs ≡ forget q → contexts_of ws fs ≡ q.contexts
unfolding pass_of forget
pass_contexts ws fs q e = ap (λ (x : Pass). x.contexts) e

pass_ranges : (ws : List ℕ) (fs : List InnerFunction) (q : Pass) → pass_of ws fs ≡ forget q → ranges_of ws ≡ q.ranges
unfolding pass_of forget
pass_ranges ws fs q e = ap (λ (x : Pass). x.ranges) e

module _ {sheet lists : List ℕ} {f : HirFunction} {ws ws₁ : List ℕ} {o o₁ : Writer ℕ} (one : SectionPut Phis sheet lists f ws o ws₁ o₁) where
  pub after_one : ((s : Sheet) × Passing s sheet lists ws f) → (s : Sheet) × Passing s sheet lists ws₁ f
  after_one some = (some.0, passing_kept one.kept some.1)

  module _ {ws₂ : List ℕ} {o₂ : Writer ℕ} (two : SectionPut Instructions sheet lists f ws₁ o₁ ws₂ o₂) where
    pub after_two : ((s : Sheet) × Passing s sheet lists ws f) → (s : Sheet) × Passing s sheet lists ws₂ f
    after_two some = (some.0, passing_kept two.kept (passing_kept one.kept some.1))

    module _ {ws₃ : List ℕ} {o₃ : Writer ℕ} (three : SectionPut Terminals sheet lists f ws₂ o₂ ws₃ o₃) where
      all_passing : {s : Sheet} → Passing s sheet lists ws f → Passing s sheet lists ws₃ f
      all_passing p = passing_kept three.kept (passing_kept two.kept (passing_kept one.kept p))

      pub after-three : ((s : Sheet) × Passing s sheet lists ws f) → (fs : List InnerFunction) × (Known lists ws₃ fs × (f.m ≡ length fs))
      after-three some = (some.0.functions, (passing_known (all_passing some.1), some.1.describes.m))

      pub operands_put : {o₄ : Writer ℕ} → InnerPut f.m lists ws₃ o₃ o₄ → OperandsPut sheet lists f ws o ws₃ o₄
      unfolding operand_words answer
      operands_put four = record {
        wrote = λ s p.
            let p₁ = passing_kept one.kept p in
            let p₂ = passing_kept two.kept p₁ in
            writes_then (one.wrote s p) (writes_then (two.wrote s p₁) (writes_then (three.wrote s p₂)
            (writes_as (four.wrote s.functions (passing_known (all_passing p)) p.describes.m)
            (ap (λ (x : List (List Place)). section place_words (gather (λ (l : List Place). l) x)) (pass_contexts ws₃ s.functions (after_pass s) (three.pass s p₂))))));
        ranges = λ s p. pass_ranges ws₃ s.functions (after_pass s) (three.pass s (passing_kept two.kept (passing_kept one.kept p)));
        kept =
            kept_then STARTS PASSED (kept_then STARTS PASSED one.kept two.kept (omega arith) (omega arith) (omega arith) (omega arith)) three.kept (omega arith) (omega arith) (omega arith)
            (omega arith);
        few = omega (arith, one.few, two.few, three.few, four.few);
        same = four.same ∙ three.same ∙ two.same ∙ one.same;
      }
