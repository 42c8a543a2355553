-- Document 01, "The answer": "Sections, each after its count of records: ranges (start, end); params; context (places); diagnostics; effects (eight words each); walks".
-- Document 02, order 4: "The answer adds, after walks, four sections of places in sheet order: phis (each place, then its operands), instructions, terminals (Return's value included) and inner contexts (named inner), and ranges are those after the pass."
use Rattle.std.specs.Prelude.{ℕ, List, [], ◌∷◌, ◌++◌, map, length, get_or}
use Rattle.model.specs.Lists.{gather}
use Rattle.model.specs.Sheet.{EvaluationOrder, FunctionId, Identifier, Diagnostic, InnerFunction, no_function, Place, Effect, Sheet}
use Rattle.model.specs.Traits.{traits_word}
use Rattle.model.specs.Effects.{row_of}
use Rattle.model.specs.Walks.{Walk}
use Rattle.model.specs.Summary.{real_walks, after_renders, copied, recorded, collect_param_effects, marked, create_returns}
use Rattle.model.specs.Simulated.{simulate}
use Rattle.model.specs.Operands.{sheet_starts, ends_before, after_pass}

-- a record of the first section
pub record Range : Type 0 where
  pub start : EvaluationOrder
  pub end : EvaluationOrder

-- the ten sections, in the document's order
pub record Answer : Type 0 where
  pub ranges : List Range
  pub params : List Place
  pub context : List Place
  pub diagnostics : List Diagnostic
  pub effects : List Effect
  pub walks : List ℕ
  pub phis : List Place
  pub instructions : List Place
  pub terminals : List Place
  pub inner : List Place

-- a range for each identifier of the sheet
abbrev pub ranges_of : List Identifier → List EvaluationOrder → List EvaluationOrder → List Range
ranges_of [] ss es = []
ranges_of (i ∷ l) [] es = []
ranges_of (i ∷ l) (s ∷ ss) [] = []
ranges_of (i ∷ l) (s ∷ ss) (e ∷ es) = record { start = s; end = e } ∷ ranges_of l ss es

-- the ranges before the pass: the sheet's starts, the ends after the real walks
unfoldable pub ranges_before : Sheet → List Range
ranges_before s = ranges_of s.identifiers (sheet_starts s.identifiers) (ends_before s)

-- "ranges are those after the pass"
unfoldable pub ranges_after : Sheet → List Range
ranges_after s = ranges_of s.identifiers (after_pass s).ranges.starts (after_pass s).ranges.ends

-- the summary: copied effects; "mutation effects list context first", with "the old traits"; Create for returns; the simulated walks' effects
unfoldable pub summary : Sheet → List Effect
summary s =
    copied s
    ++ (gather (collect_param_effects (after_renders s)) s.context
    ++ (gather (collect_param_effects (after_renders s)) s.params
    ++ (create_returns s ∷ (simulate s).effects)))

-- the diagnostics of an inner function (the Rust's `append_function_errors`)
abbrev pub function_errors : List InnerFunction → FunctionId → List Diagnostic
function_errors fs k = (get_or fs k no_function).diagnostics

-- "Diagnostics are those handed to `record_diagnostic`, in order": while building, then by the walks
unfoldable pub diagnosed : Sheet → List Diagnostic
diagnosed s = recorded s ++ gather (function_errors s.functions) (simulate s).state.handed

-- what an accepted sheet is answered; diagnostics are those at the call's end (simulated walks change neither them nor the ends: proofs/Quiet)
unfoldable pub answer : Sheet → Answer
answer s = record {
  ranges = ranges_after s;
  params = map (marked (after_renders s)) s.params;
  context = map (marked (after_renders s)) s.context;
  diagnostics = diagnosed s;
  effects = summary s;
  walks = map (λ (w : Walk). w.taken) (real_walks s ++ (simulate s).walks);
  phis = (after_pass s).phis;
  instructions = (after_pass s).instructions;
  terminals = (after_pass s).terminals;
  inner = gather (λ (l : List Place). l) (after_pass s).contexts;
}

-- "ranges (start, end)"
abbrev pub range_words : Range → List ℕ
range_words r = r.start ∷ r.end ∷ []

-- "params; context (places)"
abbrev pub place_words : Place → List ℕ
place_words p = p.identifier ∷ traits_word p.effect p.reactive ∷ p.span ∷ []

-- "identity first"
abbrev pub diagnostic_words : Diagnostic → List ℕ
diagnostic_words d = d.identity ∷ d.instance ∷ []

-- "effects (eight words each)"
abbrev pub effect_words : Effect → List ℕ
effect_words e = (row_of e.kind).number ∷ (place_words e.first ++ (place_words e.second ++ (e.extra ∷ [])))

-- "walks": the entries taken
abbrev pub count_words : ℕ → List ℕ
count_words k = k ∷ []

-- "each after its count of records"
abbrev pub section : {A : Type 0} → (A → List ℕ) → List A → List ℕ
section f l = length l ∷ gather f l

-- the sections from params to walks, which the pass does not touch
unfoldable pub middle_words : Answer → List ℕ
middle_words a =
    section place_words a.params
    ++ (section place_words a.context
    ++ (section diagnostic_words a.diagnostics
    ++ (section effect_words a.effects
    ++ section count_words a.walks)))

-- the four sections of places
unfoldable pub operand_words : Answer → List ℕ
operand_words a =
    section place_words a.phis
    ++ (section place_words a.instructions
    ++ (section place_words a.terminals
    ++ section place_words a.inner))

-- the answer as words
unfoldable pub answer_words : Answer → List ℕ
answer_words a = section range_words a.ranges ++ (middle_words a ++ operand_words a)
