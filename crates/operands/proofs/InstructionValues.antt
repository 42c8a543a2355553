-- What an instruction does by its value: the context places that it marks, the starts that it sets, and its store; and the words of its places.
use Prim.Native.Nat.{ℕ, ◌+◌, ◌*◌, ◌<◌}
use native.Mathlib.Omega.{arith}
use mathlib.Core.Path.{◌≡◌, sym, ap, subst, ◌∙◌}
use mathlib.Core.List.{List, [], ◌∷◌, ◌++◌, map, append-nil}
use lib.ListN.{length, get_or, length-map}
use Rattle.model.specs.Limits.{most_identifiers, place_width}
use Rattle.model.specs.Lists.{gather, each}
use Rattle.model.specs.Sheet.{EvaluationOrder, InnerFunction, no_function, Place}
use Rattle.model.specs.Ranges.{ValueBelow}
use Rattle.model.specs.Traits.{read_effect, conditionally_mutate_effect}
use Rattle.model.specs.Marks.{Mark, with_mark}
use Rattle.model.specs.Operands.{Ranges, start_if, store_value, context_of}
use Rattle.model.specs.Answer.{place_words}
use Rattle.model.proofs.Gathers.{gather_append}
use Rattle.model.proofs.PassRanges.{each_append}
use Rattle.hir.specs.Says.{value_is}
use Rattle.hir.specs.Words.{wide, place_at}
use Rattle.hir.specs.declared.FunctionId.{FunctionId}
use Rattle.hir.specs.declared.InstructionValue.{InstructionValue}
use Rattle.hir.specs.declared.InstructionValue.TheVariants.{Plain, Function}
use Rattle.hir.specs.declared.at.List.{List as Listed}
use Rattle.hir.specs.declared.at.Instruction.{Instruction}
use Rattle.hir.proofs.Several.{several-length}
use Rattle.workspace.specs.Layout.{STARTS, CONTEXTS, PASSED}
use Rattle.workspace.specs.Rows.{Kept}
use Rattle.workspace.proofs.Parts.{kept_none, kept_then}
use Rattle.writing.specs.declared.Writer.{Writer}
use Rattle.writing.specs.Wrote.{Writes}
use Rattle.writing.proofs.Writing.{writes_as, writes_then}
use Rattle.operands.specs.Ranges.{ranges_of, Ranged}
use Rattle.operands.specs.Known.{places_at, PlacesIn, Known, InstructionIn, ContextOf}
use Rattle.operands.specs.Instruction.{AllStarted}
use Rattle.operands.proofs.Inner.{context_below_lem}
use Rattle.operands.proofs.Putting.{places_length}
use Rattle.operands.proofs.RangeWords.{ranged_then}
use Rattle.operands.proofs.Stepping.{known_kept}

-- ---- what was kept by a part of the step is kept by it
pub kept_ranges : {ws ws' : List ℕ} → Kept STARTS CONTEXTS ws ws' → Kept STARTS PASSED ws ws'
kept_ranges {ws} {ws'} k = kept_then STARTS PASSED k (kept_none STARTS PASSED ws') (omega arith) (omega arith) (omega arith) (omega arith)

pub kept_contexts : {ws ws' : List ℕ} → Kept CONTEXTS PASSED ws ws' → Kept STARTS PASSED ws ws'
kept_contexts {ws} {ws'} k = kept_then STARTS PASSED k (kept_none STARTS PASSED ws') (omega arith) (omega arith) (omega arith) (omega arith)

-- ---- the words of its places
-- where the places of a list end
pub places_end : (g : Place → Place) (sheet : List ℕ) (l : Listed) {o o' : Writer ℕ} → Writes (gather place_words (map g (places_at sheet l).what)) o o' → o'.at ≡ o.at + place_width * l.count
places_end g sheet l h =
    let ps : List Place = (places_at sheet l).what in
    omega (arith, h.wrote.next, places_length (map g ps), length-map ps g, several-length (wide place_width place_at) sheet l.count l.first)

-- its lvalue, its value lvalues, then its operands
pub uses_put : (ms : List Mark) (x : Place) (ls ps : List Place) {p : Place} {o o₁ o₂ o₃ : Writer ℕ} → Writes (place_words p) o o₁ → p ≡ with_mark ms conditionally_mutate_effect x
    → Writes (gather place_words (map (with_mark ms conditionally_mutate_effect) ls)) o₁ o₂ → Writes (gather place_words (map (with_mark ms read_effect) ps)) o₂ o₃
    → Writes (gather place_words (map (with_mark ms conditionally_mutate_effect) (x ∷ ls) ++ map (with_mark ms read_effect) ps)) o o₃
uses_put ms x ls ps h e g k =
    writes_as (writes_then (writes_then (writes_as h (ap place_words e)) g) k)
    (sym (gather_append place_words (map (with_mark ms conditionally_mutate_effect) (x ∷ ls)) (map (with_mark ms read_effect) ps)))

-- ---- its value
module _ {sheet : List ℕ} {fs : List InnerFunction} {i : Instruction} (k : InstructionIn sheet fs i) where
  -- the inner function that it makes is one of these
  pub function_known : {f : FunctionId} → i.value ≡ Function f → f.0 < length fs
  function_known e = subst (λ (v : InstructionValue). ValueBelow most_identifiers (length fs) (value_is v)) e k.below.value

-- the list of context places can be passed over
pub context_in : {lists ws : List ℕ} {fs : List InnerFunction} {k : ℕ} {l : Listed} → Known lists ws fs → k < length fs → ContextOf lists ws k l → PlacesIn lists l
context_in g z h = record { inside = h.inside; below = context_below_lem g z h }

-- ---- the starts, and the store
-- the starts of these places, of an instruction with this order
abbrev starts_of : EvaluationOrder → List Place → Ranges → Ranges
starts_of o = each (start_if o o)

-- the last step by a value
abbrev last_by : List InnerFunction → EvaluationOrder → List Place → Ranges → InstructionValue → Ranges
last_by fs o ps r v = store_value o (value_is v) (starts_of o (ps ++ context_of fs (value_is v)) r)

-- no places more
operands_only : (o : EvaluationOrder) (ps : List Place) (r : Ranges) → starts_of o ps r ≡ starts_of o (ps ++ []) r
operands_only o ps r = ap (λ (l : List Place). starts_of o l r) (sym (append-nil ps))

module _ {sheet lists : List ℕ} {i : Instruction} {ws ws₁ : List ℕ} (h : Ranged (starts_of i.order.0 (places_at sheet i.operands).what) ws ws₁) where
  pub plain_started : i.value ≡ Plain → AllStarted sheet lists i ws ws₁
  unfolding store_value
  plain_started e =
      let ps : List Place = (places_at sheet i.operands).what in
      record { ranges = λ fs k. h.ranges ∙ operands_only i.order.0 ps (ranges_of ws) ∙ ap (last_by fs i.order.0 ps (ranges_of ws)) (sym e); kept = h.kept }

  pub function_started : {f : FunctionId} {l : Listed} {ws₂ : List ℕ} → i.value ≡ Function f → ContextOf lists ws₁ f.0 l → Ranged (starts_of i.order.0 (places_at lists l).what) ws₁ ws₂ → AllStarted sheet lists i ws ws₂
  unfolding store_value
  function_started {f} e c g =
      let both = ranged_then h g in
      let ps : List Place = (places_at sheet i.operands).what in
      record {
        ranges = λ fs k.
            both.ranges
            ∙ ap (λ (l : List Place). starts_of i.order.0 l (starts_of i.order.0 ps (ranges_of ws))) (c.is fs (known_kept (kept_ranges h.kept) k.known) (function_known k.parts e))
            ∙ sym (each_append (start_if i.order.0 i.order.0) ps (get_or fs f.0 no_function).context (ranges_of ws))
            ∙ ap (last_by fs i.order.0 ps (ranges_of ws)) (sym e);
        kept = both.kept;
      }
