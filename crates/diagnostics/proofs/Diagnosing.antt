-- The section of diagnostics from its parts.
use Prim.Native.Nat.{ℕ, ◌+◌, ◌-◌, ◌*◌, ◌≤◌, ◌/◌}
use native.Mathlib.Omega.{arith}
use mathlib.Core.Path.{◌≡◌, refl, sym, ap, subst, ◌∙◌}
use mathlib.Core.Bool.{Bool, true, false, ◌||◌}
use mathlib.Core.List.{List, [], ◌∷◌, ◌++◌, map, cons≢nil}
use lib.ListN.{length, length-set}
use lib.Seq.{slice}
use Rattle.model.specs.Limits.{most_renders, diagnostic_width}
use Rattle.model.specs.Lists.{keep, cons_if, gather, list_if}
use Rattle.model.specs.Sheet.{Effect, Diagnostic, InnerFunction, Sheet}
use Rattle.model.specs.Effects.{row_of, is_render, is_diagnosis, diagnostic_of}
use Rattle.model.specs.Totals.{instruction_effects}
use Rattle.model.specs.Mutation.{RenderOf}
use Rattle.model.specs.State.{State}
use Rattle.model.specs.Runs.{rendered}
use Rattle.model.specs.Building.{build}
use Rattle.model.specs.Summary.{errors, copied, recorded, after_real, after_renders}
use Rattle.model.specs.Simulated.{simulate}
use Rattle.model.specs.Answer.{function_errors, diagnostic_words, diagnosed}
use Rattle.model.proofs.Quiet.{quiet}
use Rattle.model.proofs.Rendering.{rendered_handed}
use Rattle.hir.specs.Words.{several, block_from}
use Rattle.workspace.specs.Layout.{LEAST, HANDED, MUTATIONS}
use Rattle.workspace.specs.Pending.{renders_of}
use Rattle.aliasing.specs.State.{state_of}
use Rattle.renders.specs.Renders.{Unmoved}
use Rattle.writing.specs.declared.Writer.{Writer}
use Rattle.writing.specs.Wrote.{Writes, Patches}
use Rattle.writing.proofs.Writing.{writes_then, writes_as, writes_none, writes_long}
use Rattle.copies.specs.Copies.{Copies}
use Rattle.copies.specs.Words.{block_words}
use Rattle.copies.specs.Functions.{functions_of, Functions}
use Rattle.copies.specs.declared.effect_lists.Section.TheVariants.{Diagnostics}
use Rattle.copies.proofs.Errors.{functions_are, handed_room}
use Rattle.model.proofs.Gathers.{gather_append}
use Rattle.copies.proofs.Sections.{recorded-words, recorded_none, section_patched, diagnostics_count}
use Rattle.dataflow.specs.declared.function.HirFunction.{HirFunction}
use Rattle.dataflow.specs.Function.{Describes, Stands}
use Rattle.diagnostics.specs.Diagnosed.{most_handed, most_diagnosed, RendersPut, RecordedPut, DiagnosticsPut}
use Rattle.diagnostics.proofs.Rendering.{unmoved_none, handed_words, rendered-words}

-- ---- those recorded while building
module _ {A : Type 0} (p q : A → Bool) where
  keep_less : (l : List A) → keep (λ (a : A). p a || q a) l ≡ [] → keep p l ≡ []
  keep_less [] e = e
  keep_less (a ∷ l) e = go (p a) (q a) (keep_less l) e
    where
      go : (b c : Bool) {r k : List A} → (r ≡ [] → k ≡ []) → cons_if (b || c) a r ≡ [] → cons_if b a k ≡ []
      go true c h e = absurd (cons≢nil e)
      go false true h e = absurd (cons≢nil e)
      go false false h e = h e

-- what is recorded is copied too
copied-recorded : (s : Sheet) → copied s ≡ [] → recorded s ≡ []
unfolding copied recorded
copied-recorded s e =
    ap (λ (l : List Effect). list_if (errors s) (map diagnostic_of l)) (keep_less (λ (e : Effect). is_diagnosis (row_of e.kind).role) (λ (e : Effect). is_render (row_of e.kind).role) (instruction_effects s) e)
    ∙ none (errors s)
  where
    none : (b : Bool) → list_if {A = Diagnostic} b [] ≡ []
    none true = refl
    none false = refl

module _ (sheet : List ℕ) (f : HirFunction) (o : Writer ℕ) where
  pub recorded_put : f.errors ≡ true → (several f.blocks.count block_from sheet f.blocks.first).next ≤ length sheet → {o' : Writer ℕ} {next : ℕ}
      → Copies (several f.blocks.count block_from) (gather (block_words Diagnostics)) sheet f.blocks.first o o' next → RecordedPut sheet f o o'
  recorded_put e h p = record {
    wrote = λ s d. writes_as p.wrote (ap (gather (block_words Diagnostics)) d.blocks ∙ recorded-words s (sym d.errors ∙ e));
    few = omega (arith, p.few, p.after, h);
  }

  -- none
  recorded-not : ((s : Sheet) → Describes s sheet f → recorded s ≡ []) → RecordedPut sheet f o o
  recorded-not e = record {
    wrote = λ s d. writes_as (writes_none o) (ap (gather diagnostic_words) (sym (e s d)));
    few = omega arith;
  }

  pub recorded_quiet : f.errors ≡ false → RecordedPut sheet f o o
  recorded_quiet e = recorded-not (λ s d. recorded_none s (sym d.errors ∙ e))

  pub recorded_apart : f.copies ≡ false → RecordedPut sheet f o o
  recorded_apart e = recorded-not (λ s d. copied-recorded s (d.copies e))

-- ---- those handed over
-- what renders hand over comes after what was handed over before, and is the same as on the bare state
rendered-after : (rs : List RenderOf) (ws : List ℕ) (hand : ℕ) (t : State) → state_of ws hand ≡ t → (rendered rs t).handed ≡ slice HANDED hand ws ++ (rendered rs (state_of ws HANDED)).handed
unfolding state_of
rendered-after rs ws hand t e =
    ap (λ (u : State). (rendered rs u).handed) (sym e)
    ∙ rendered_handed rs (state_of ws hand)
    ∙ ap (λ (l : List ℕ). slice HANDED hand ws ++ l) (sym (rendered-words rs ws))

-- all that was handed over, if errors are recorded
handed_errors : (s : Sheet) (ws : List ℕ) (renders hand : ℕ) → errors s ≡ true → state_of ws hand ≡ after_real s → renders_of ws renders ≡ (build s).renders
    → (simulate s).state.handed ≡ slice HANDED hand ws ++ (rendered (renders_of ws renders) (state_of ws HANDED)).handed
unfolding after_renders
handed_errors s ws renders hand e t r =
    (quiet s).handed
    ∙ ap (λ (b : Bool). (rendered (list_if b (build s).renders) (after_real s)).handed) e
    ∙ ap (λ (rs : List RenderOf). (rendered rs (after_real s)).handed) (sym r)
    ∙ rendered-after (renders_of ws renders) ws hand (after_real s) t

-- and if they are not
handed_quiet : (s : Sheet) (ws : List ℕ) (hand : ℕ) → errors s ≡ false → state_of ws hand ≡ after_real s → (simulate s).state.handed ≡ slice HANDED hand ws
unfolding after_renders rendered
handed_quiet s ws hand e t =
    (quiet s).handed
    ∙ ap (λ (b : Bool). (rendered (list_if b (build s).renders) (after_real s)).handed) e
    ∙ ap (λ (u : State). u.handed) (sym t)
    ∙ sym (handed_words ws hand)

-- after the functions that mutations handed over: the renders are run if errors are recorded
pub record HandedPut (sheet lists ws : List ℕ) (f : HirFunction) (renders hand : ℕ) (o : Writer ℕ) (ws' : List ℕ) (o' : Writer ℕ) : Type 0 where
  pub wrote : (s : Sheet) → Describes s sheet f → Stands s lists ws → state_of ws hand ≡ after_real s → renders_of ws renders ≡ (build s).renders
      → Writes (gather diagnostic_words (gather (function_errors s.functions) (simulate s).state.handed)) o o'
  pub least : o.at ≤ o'.at
  pub few : o'.at ≤ o.at + most_handed * (1 + most_renders)
  pub same : o'.buffer.ghost_name ≡ o.buffer.ghost_name
  pub long : length o'.buffer.now ≡ length o.buffer.now
  pub unmoved : Unmoved ws ws'

module _ (sheet lists ws : List ℕ) (f : HirFunction) (renders : ℕ) {hand : ℕ} (g : Functions lists ws (functions_of lists ws f.m)) (low : hand ≤ MUTATIONS) (size : LEAST ≤ length ws) {o o₁ : Writer ℕ}
    (p : Writes (gather diagnostic_words (gather (function_errors (functions_of lists ws f.m)) (slice HANDED hand ws))) o o₁) where
  room : o₁.at ≤ o.at + most_handed
  room = omega (arith, handed_room g hand (omega (arith, low, size)) p, low)

  pub handed_put : f.errors ≡ true → renders ≤ most_renders → {ws' : List ℕ} {o₂ : Writer ℕ} → RendersPut lists ws f.m renders o₁ ws' o₂ → HandedPut sheet lists ws f renders hand o ws' o₂
  handed_put e h q = record {
    wrote = λ s d t u r.
        let fs : List InnerFunction = functions_of lists ws f.m in
        let rs : List ℕ = (rendered (renders_of ws renders) (state_of ws HANDED)).handed in
        writes_as (writes_then p q.wrote)
        (sym (gather_append diagnostic_words (gather (function_errors fs) (slice HANDED hand ws)) (gather (function_errors fs) rs))
        ∙ ap (gather diagnostic_words) (sym (gather_append (function_errors fs) (slice HANDED hand ws) rs) ∙ ap (gather (function_errors fs)) (sym (handed_errors s ws renders hand (sym d.errors ∙ e) u r)))
        ∙ ap (λ (l : List InnerFunction). gather diagnostic_words (gather (function_errors l) (simulate s).state.handed)) (functions_are t.functions d.m));
    least = omega (arith, p.wrote.next, q.wrote.wrote.next);
    few = omega (arith, room, q.few, h);
    same = q.wrote.same ∙ p.same;
    long = writes_long q.wrote ∙ writes_long p;
    unmoved = q.unmoved;
  }

  pub handed_not : f.errors ≡ false → HandedPut sheet lists ws f renders hand o ws o₁
  handed_not e = record {
    wrote = λ s d t u r.
        writes_as p
        (ap (λ (l : List InnerFunction). gather diagnostic_words (gather (function_errors l) (slice HANDED hand ws))) (functions_are t.functions d.m)
        ∙ ap (λ (l : List ℕ). gather diagnostic_words (gather (function_errors s.functions) l)) (sym (handed_quiet s ws hand (sym d.errors ∙ e) u)));
    least = omega (arith, p.wrote.next);
    few = omega (arith, room);
    same = p.same;
    long = writes_long p;
    unmoved = unmoved_none ws;
  }

-- the same by other names
pub handed_as : {sheet lists ws : List ℕ} {f : HirFunction} {renders hand : ℕ} {o : Writer ℕ} {ws' ws'' : List ℕ} {o' o'' : Writer ℕ} → HandedPut sheet lists ws f renders hand o ws' o'
    → ws'' ≡ ws' → o'' ≡ o' → HandedPut sheet lists ws f renders hand o ws'' o''
handed_as {sheet} {lists} {ws} {f} {renders} {hand} {o} {ws'} {ws''} {o'} h p q =
    subst (λ (x : Writer ℕ). HandedPut sheet lists ws f renders hand o ws'' x) (sym q) (subst (λ (l : List ℕ). HandedPut sheet lists ws f renders hand o l o') (sym p) h)

-- ---- the whole section
module _ {sheet lists ws : List ℕ} {f : HirFunction} {renders hand : ℕ} {o o₁ o₂ : Writer ℕ} {ws' : List ℕ} {o₃ : Writer ℕ} (some : (s : Sheet) × (Describes s sheet f × Stands s lists ws))
    (p : Writes (0 ∷ []) o o₁) (q : RecordedPut sheet f o₁ o₂) (h : HandedPut sheet lists ws f renders hand o₂ ws' o₃) where
  -- the count is a difference of positions
  pub count_least : o₁.at ≤ o₃.at
  count_least = omega (arith, (q.wrote some.0 some.1.0).wrote.next, h.least)

  pub section_few : o₃.at ≤ o.at + most_diagnosed
  section_few = omega (arith, p.wrote.next, q.few, some.1.0.short, h.few)

  pub diagnostics_put : {o₄ : Writer ℕ} → Patches o.at ((o₃.at - o₁.at) / diagnostic_width) o₃ o₄ → DiagnosticsPut sheet lists ws f renders hand o ws' o₄
  unfolding diagnosed
  diagnostics_put e = record {
    wrote = λ s d t u r.
        let l : List Diagnostic = diagnosed s in
        let w : Writes (0 ∷ gather diagnostic_words l) o o₃ =
        writes_as (writes_then p (writes_then (q.wrote s d) (h.wrote s d t u r)))
        (ap (λ (z : List ℕ). 0 ∷ z) (sym (gather_append diagnostic_words (recorded s) (gather (function_errors s.functions) (simulate s).state.handed)))) in
        section_patched diagnostic_words l w e (omega (arith, p.wrote.next, diagnostics_count l w));
    few = omega (arith, section_few, e.stays);
    same = e.same ∙ h.same ∙ (q.wrote some.0 some.1.0).same ∙ p.same;
    long = ap (λ (l : List ℕ). length l) e.items ∙ length-set o₃.buffer.now o.at ((o₃.at - o₁.at) / diagnostic_width) ∙ h.long ∙ writes_long (q.wrote some.0 some.1.0) ∙ writes_long p;
    unmoved = h.unmoved;
  }
