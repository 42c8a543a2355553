-- An instruction: its parts by the typed reader are the definition's, and its steps are the definition's step.
use Prim.Native.Nat.{ℕ, ◌+◌, ◌*◌, ◌≤◌}
use native.Mathlib.Omega.{arith}
use mathlib.Core.Path.{◌≡◌, refl, sym, ap, subst, ◌∙◌}
use mathlib.Core.Bool.{Bool, true, false}
use mathlib.Core.List.{List, [], ◌∷◌, map}
use mathlib.Core.Option.{Option}
use lib.ListN.{length, length-append, length-map}
use Rattle.model.specs.Limits.{place_width, effect_width}
use Rattle.model.specs.Lists.{pick, gather, is_some}
use Rattle.model.specs.Sheet.{InnerFunction, Place, EffectList, InstructionValue, Instruction as ModelInstruction, is_listed, list_of}
use Rattle.model.specs.Reading.{Position}
use Rattle.model.specs.Traits.{read_effect, conditionally_mutate_effect}
use Rattle.model.specs.Marks.{Mark, operand_effects, with_mark}
use Rattle.model.specs.Operands.{Ranges, Pass, name_lvalues, instruction_marks, instruction_places, operand_ranges, instruction_ranges, context_marked, instruction}
use Rattle.model.specs.Answer.{place_words}
use Rattle.hir.specs.Says.{place_is, value_is}
use Rattle.hir.specs.Words.{Part, word_at, wide, place_at, effect_at, places_from, counts, present_from, listed_if, value_from, lvalues_at, operands_at, value_at, effects_at, instruction_from}
use Rattle.hir.specs.Parts.{ListAt, EffectsAt, InstructionAt}
use Rattle.hir.specs.declared.at.List.{List as Listed}
use Rattle.hir.specs.declared.at.Instruction.{Instruction}
use Rattle.hir.proofs.Absent as absent
use Rattle.hir.proofs.Absent.{present_list}
use Rattle.hir.proofs.Several.{list_is, several-length}
use Rattle.hir.proofs.Widths.{several_wide, InstructionParts, instruction_parts}
use Rattle.workspace.specs.Layout.{STARTS, PASSED}
use Rattle.workspace.specs.Rows.{Kept}
use Rattle.workspace.proofs.Parts.{kept_none, kept_then}
use Rattle.writing.specs.declared.Writer.{Writer}
use Rattle.writing.specs.Wrote.{Writes}
use Rattle.writing.proofs.Writing.{writes_as, writes_long}
use Rattle.operands.specs.declared.Section.{Section}
use Rattle.operands.specs.declared.Section.TheVariants.{Phis, Instructions, Terminals}
use Rattle.operands.specs.Ranges.{ranges_of, Ranged}
use Rattle.operands.specs.Contexts.{contexts_of}
use Rattle.operands.specs.Known.{places_at, effects_in, instruction_is, InstructionIn, InstructionKnown}
use Rattle.operands.specs.Instruction.{BelowOf, marks_now, of_instructions, ValueMarked, last_ranges, AllStarted, ListedPassed}
use Rattle.operands.specs.Passes.{pass_of, forget, places_in, Ready, Steps, Passed}
use Rattle.operands.proofs.Stepping.{known_kept}
use Rattle.operands.proofs.Putting.{places_length}
use Rattle.operands.proofs.Staying.{contexts_stay, ranges_stay}

abbrev instruction_by : ℕ → Place → List Place → List Place → InstructionValue → Option EffectList → ModelInstruction
instruction_by o p ls ps v es = record { order = o; lvalue = p; value_lvalues = ls; operands = ps; value = v; effects = es }

-- a list by its count is what stands there
places_are : {sheet : List ℕ} {c : Position} {l : Listed} → ListAt sheet c l → places_at sheet l ≡ places_from sheet c
places_are {sheet} {c} h = sym (list_is (wide place_width place_at) sheet c h)

effects_are_lem : {sheet : List ℕ} {c : Position} {b : Bool} {l : Listed} → EffectsAt sheet c b l → effects_in sheet l ≡ present_from sheet c
effects_are_lem {sheet} {c} h = sym (absent.effects_are_lem sheet c h)

module _ {sheet : List ℕ} {c : Position} {i : Instruction} (a : InstructionAt sheet c i) where
  -- the parts are the definition's
  pub instruction_is_lem : instruction_is sheet i ≡ (instruction_from sheet c).what
  unfolding instruction_from
  instruction_is_lem =
      let ls : List Place = (places_at sheet i.value_lvalues).what in
      let ps : List Place = (places_at sheet i.operands).what in
      let es : Option EffectList = listed_if i.listed (effects_in sheet i.effects).what in
      let ls' : List Place = (places_from sheet (lvalues_at c)).what in
      let ps' : List Place = (places_from sheet (operands_at sheet c)).what in
      ap (λ (o : ℕ). instruction_by o (place_is i.lvalue) ls ps (value_is i.value) es) a.order
      ∙ ap (λ (p : Place). instruction_by (word_at sheet c) p ls ps (value_is i.value) es) a.lvalue
      ∙ ap (λ (q : Part (List Place)). instruction_by (word_at sheet c) (place_at sheet (c + 1)) q.what ps (value_is i.value) es) (places_are a.value_lvalues)
      ∙ ap (λ (q : Part (List Place)). instruction_by (word_at sheet c) (place_at sheet (c + 1)) ls' q.what (value_is i.value) es) (places_are a.operands)
      ∙ ap (λ (v : InstructionValue). instruction_by (word_at sheet c) (place_at sheet (c + 1)) ls' ps' v es) a.value
      ∙ ap (λ (b : Bool). instruction_by (word_at sheet c) (place_at sheet (c + 1)) ls' ps' (value_from sheet (value_at sheet c)).what (listed_if b (effects_in sheet i.effects).what)) a.effects.listed
      ∙ ap (λ (q : Part EffectList). instruction_by (word_at sheet c) (place_at sheet (c + 1)) ls' ps' (value_from sheet (value_at sheet c)).what (listed_if (counts (word_at sheet (effects_at sheet c))) q.what)) (effects_are_lem a.effects)

  -- an absent list is kept as an empty one
  pub list_is_present : list_of (instruction_is sheet i) ≡ (effects_in sheet i.effects).what
  unfolding instruction_from
  list_is_present = ap list_of instruction_is_lem ∙ present_list sheet (effects_at sheet c) ∙ sym (ap (λ (q : Part EffectList). q.what) (effects_are_lem a.effects))

  -- where it ends
  pub instruction_end : i.effects.first + effect_width * i.effects.count ≡ (instruction_from sheet c).next
  unfolding instruction_from
  instruction_end =
      let e = ap (λ (q : Part EffectList). q.next) (effects_are_lem a.effects) in
      let w = several_wide effect_width i.effects.count effect_at sheet i.effects.first in
      omega (arith, e, w)

  -- its places take no more words than it
  pub instruction_few : place_width * (1 + i.value_lvalues.count + i.operands.count) + c ≤ (instruction_from sheet c).next
  instruction_few =
      let p : InstructionParts sheet c = instruction_parts sheet c in
      let l = ap (λ (q : Part (List Place)). q.next) (places_are a.value_lvalues) in
      let m = ap (λ (q : Part (List Place)). q.next) (places_are a.operands) in
      let u = several_wide place_width i.value_lvalues.count place_at sheet i.value_lvalues.first in
      let v = several_wide place_width i.operands.count place_at sheet i.operands.first in
      omega (arith, p.effects, p.next, l, m, u, v, a.value_lvalues.first, a.operands.first)

  module _ (inside : (instruction_from sheet c).next ≤ length sheet) {fs : List InnerFunction} where
    pub instruction_in : BelowOf fs (instruction_from sheet c).what → InstructionIn sheet fs i
    unfolding instruction_from
    instruction_in b =
        let p : InstructionParts sheet c = instruction_parts sheet c in
        record {
          below = subst (BelowOf fs) (sym instruction_is_lem) b;
          value_lvalues = omega (arith, ap (λ (q : Part (List Place)). q.next) (places_are a.value_lvalues), p.value, p.effects, p.next, inside);
          operands = omega (arith, ap (λ (q : Part (List Place)). q.next) (places_are a.operands), p.effects, p.next, inside);
          effects = subst (λ (q : Part EffectList). q.next ≤ length sheet) (sym (effects_are_lem a.effects)) inside;
          present = list_is_present;
        }

    pub instruction_known : {lists ws ws' : List ℕ} → Kept STARTS PASSED ws ws' → Ready instruction_from BelowOf sheet lists ws c fs → InstructionKnown sheet lists ws' fs i
    instruction_known k r = record { known = known_kept k r.known; parts = instruction_in r.below }

pub instruction_known_kept : {sheet lists ws ws' : List ℕ} {fs : List InnerFunction} {i : Instruction} → Kept STARTS PASSED ws ws' → InstructionKnown sheet lists ws fs i → InstructionKnown sheet lists ws' fs i
instruction_known_kept k h = record { known = known_kept k h.known; parts = h.parts }

-- ---- its steps
-- with a list: the marks of context places, then starts and the store
pub listed_passed : {sheet lists : List ℕ} {i : Instruction} {ws ws₁ ws₂ : List ℕ} → i.listed ≡ true → ValueMarked sheet lists i ws ws₁ → AllStarted sheet lists i ws₁ ws₂ → ListedPassed sheet lists i ws ws₂
listed_passed {sheet} {lists} {i} {ws} {ws₁} {ws₂} e marked started = record {
  contexts = λ fs known.
      contexts_stay ws₁ ws₂ started.kept.high fs ∙ marked.contexts fs known
      ∙ sym (ap (λ (b : Bool). pick b (context_marked (marks_now sheet ws i) (value_is i.value) (contexts_of ws fs)) (contexts_of ws fs)) e);
  ranges = λ fs known.
      started.ranges fs (known_then known) ∙ ap (last_ranges fs sheet i) (ranges_stay ws ws₁ marked.kept.low)
      ∙ sym (ap (λ (b : Bool). pick b (last_ranges fs sheet i (ranges_of ws)) (ranges_of ws)) e);
  kept = kept_then STARTS PASSED marked.kept started.kept (omega arith) (omega arith) (omega arith) (omega arith);
}
  where
    known_then : {fs : List InnerFunction} → InstructionKnown sheet lists ws fs i → InstructionKnown sheet lists ws₁ fs i
    known_then = instruction_known_kept (kept_then STARTS PASSED (kept_none STARTS PASSED ws) marked.kept (omega arith) (omega arith) (omega arith) (omega arith))

-- whether the list is there
listed_present : (b : Bool) (l : EffectList) → is_some (listed_if b l) ≡ b
listed_present true l = refl
listed_present false l = refl

module _ (section : Section) {sheet lists : List ℕ} {i : Instruction} {ws ws₁ ws₂ : List ℕ} {o o₁ : Writer ℕ}
    (named : Ranged (name_lvalues (instruction_is sheet i)) ws ws₁)
    (wrote : Writes (gather place_words (of_instructions section (instruction_places (marks_now sheet ws₁ i) (instruction_is sheet i)))) o o₁)
    (passed : ListedPassed sheet lists i ws₁ ws₂) where
  pub steps_kept : Kept STARTS PASSED ws ws₂
  steps_kept = kept_then STARTS PASSED named.kept passed.kept (omega arith) (omega arith) (omega arith) (omega arith)

  module _ {fs : List InnerFunction} (known : InstructionKnown sheet lists ws fs i) where
    known₁ : InstructionKnown sheet lists ws₁ fs i
    known₁ = instruction_known_kept (kept_then STARTS PASSED named.kept (kept_none STARTS PASSED ws₁) (omega arith) (omega arith) (omega arith) (omega arith)) known

    is_listed_lem : is_listed (instruction_is sheet i) ≡ i.listed
    is_listed_lem = listed_present i.listed (effects_in sheet i.effects).what

    -- the ranges: lvalues, then, with a list, starts and the store
    ranges_are : ranges_of ws₂ ≡ instruction_ranges fs (instruction_is sheet i) (ranges_of ws)
    unfolding instruction_ranges operand_ranges
    ranges_are =
        passed.ranges fs known₁ ∙ ap (λ (r : Ranges). pick i.listed (last_ranges fs sheet i r) r) named.ranges
        ∙ sym (ap (λ (b : Bool). pick b (last_ranges fs sheet i (name_lvalues (instruction_is sheet i) (ranges_of ws))) (name_lvalues (instruction_is sheet i) (ranges_of ws))) is_listed_lem)

    -- the marks, by the ends with the lvalues
    marks_are : marks_now sheet ws₁ i ≡ instruction_marks (instruction_is sheet i) (ranges_of ws)
    unfolding instruction_marks
    marks_are =
        ap (λ (r : Ranges). operand_effects r.ends i.order.0 (effects_in sheet i.effects).what) named.ranges
        ∙ sym (ap (operand_effects (name_lvalues (instruction_is sheet i) (ranges_of ws)).ends i.order.0) known.parts.present)

    -- the contexts, with a list
    contexts_are : contexts_of ws₂ fs ≡ pick (is_listed (instruction_is sheet i)) (context_marked (instruction_marks (instruction_is sheet i) (ranges_of ws)) (value_is i.value) (contexts_of ws fs)) (contexts_of ws fs)
    contexts_are =
        passed.contexts fs known₁
        ∙ ap (λ (ms : List Mark). pick i.listed (context_marked ms (value_is i.value) (contexts_of ws₁ fs)) (contexts_of ws₁ fs)) marks_are
        ∙ ap (λ (cs : List (List Place)). pick i.listed (context_marked (instruction_marks (instruction_is sheet i) (ranges_of ws)) (value_is i.value) cs) cs) (contexts_stay ws ws₁ named.kept.high fs)
        ∙ sym (ap (λ (b : Bool). pick b (context_marked (instruction_marks (instruction_is sheet i) (ranges_of ws)) (value_is i.value) (contexts_of ws fs)) (contexts_of ws fs)) is_listed_lem)

    pub all_steps : Steps (instruction fs (instruction_is sheet i)) section fs ws o ws₂ o₁
    unfolding pass_of forget instruction
    all_steps = record {
      pass = ap (λ (r : Ranges). pass_by r (contexts_of ws₂ fs)) ranges_are ∙ ap (pass_by (instruction_ranges fs (instruction_is sheet i) (ranges_of ws))) contexts_are;
      wrote = go section wrote;
    }
      where
        pass_by : Ranges → List (List Place) → Pass
        pass_by r cs = record { ranges = r; contexts = cs; phis = []; instructions = []; terminals = [] }

        go : (s : Section) → Writes (gather place_words (of_instructions s (instruction_places (marks_now sheet ws₁ i) (instruction_is sheet i)))) o o₁
            → Writes (gather place_words (places_in s (instruction fs (instruction_is sheet i) (pass_of ws fs)))) o o₁
        go Phis w = w
        go Instructions w = writes_as w (ap (λ (ms : List Mark). gather place_words (instruction_places ms (instruction_is sheet i))) marks_are)
        go Terminals w = w

-- the words of its places, or none
pub places_few : (section : Section) (sheet ws : List ℕ) (i : Instruction) {o o' : Writer ℕ} → Writes (gather place_words (of_instructions section (instruction_places (marks_now sheet ws i) (instruction_is sheet i)))) o o'
    → o'.at ≤ o.at + place_width * (1 + i.value_lvalues.count + i.operands.count)
places_few Phis sheet ws i w = omega (arith, w.wrote.next)
places_few Instructions sheet ws i w =
    let ms : List Mark = marks_now sheet ws i in
    let ls : List Place = (places_at sheet i.value_lvalues).what in
    let ps : List Place = (places_at sheet i.operands).what in
    omega (arith, w.wrote.next, places_length (instruction_places ms (instruction_is sheet i)), length-append (map (with_mark ms conditionally_mutate_effect) (place_is i.lvalue ∷ ls)) (map (with_mark ms read_effect) ps), length-map ls (with_mark ms conditionally_mutate_effect), length-map ps (with_mark ms read_effect), several-length (wide place_width place_at) sheet i.value_lvalues.count i.value_lvalues.first, several-length (wide place_width place_at) sheet i.operands.count i.operands.first)
places_few Terminals sheet ws i w = omega (arith, w.wrote.next)

-- ---- the instruction
module _ (section : Section) {sheet lists : List ℕ} {c : Position} {i : Instruction} (at₀ : InstructionAt sheet c i) (inside : (instruction_from sheet c).next ≤ length sheet) {ws ws₁ ws₂ : List ℕ} {o o₁ : Writer ℕ} {r : Position}
    (named : Ranged (name_lvalues (instruction_is sheet i)) ws ws₁)
    (wrote : Writes (gather place_words (of_instructions section (instruction_places (marks_now sheet ws₁ i) (instruction_is sheet i)))) o o₁)
    (passed : ListedPassed sheet lists i ws₁ ws₂) (next : r ≡ i.effects.first + effect_width * i.effects.count) where
  pub instruction_passed : Passed instruction_from BelowOf instruction section sheet lists c ws o ws₂ o₁ r
  instruction_passed = record {
    steps = λ fs ready.
        subst (λ (m : ModelInstruction). Steps (instruction fs m) section fs ws o ws₂ o₁) (instruction_is_lem at₀)
        (all_steps section named wrote passed (instruction_known at₀ inside (kept_none STARTS PASSED ws) ready));
    kept = steps_kept section named wrote passed;
    after = next ∙ instruction_end at₀;
    few = omega (arith, places_few section sheet ws₁ i wrote, instruction_few at₀, next, instruction_end at₀);
    long = writes_long wrote;
    same = wrote.same;
  }
