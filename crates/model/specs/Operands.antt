-- Document 02, order 4: the pass over operands, "the second loop over blocks", on one state, in the Rust's order.
use Rattle.std.specs.Prelude.{zero, suc, ◌-◌, Bool, List, [], ◌∷◌, ◌++◌, map, length, get_or, set, replicate, ltb, leb}
use Rattle.model.specs.Limits.{most_identifiers}
use Rattle.model.specs.Lists.{pick, each, among}
use Rattle.model.specs.Sheet.{IdentifierId, EvaluationOrder, Identifier, InnerFunction, no_function, Place, Operand, Phi, InstructionValue, Plain, Function, StoreContext, Instruction, is_listed, list_of, lvalues_of, Terminal, Other, Return, MaybeThrow, order_of, Block, Sheet}
use Rattle.model.specs.Traits.{freeze_effect, read_effect, conditionally_mutate_effect, store_effect}
use Rattle.model.specs.Summary.{after_real}
use Rattle.model.specs.Marks.{with_effect, Mark, capture_or_read, operand_effects, with_mark}

-- each identifier's range
pub record Ranges : Type 0 where
  pub starts : List EvaluationOrder
  pub ends : List EvaluationOrder

-- the one state: the ranges; each inner function's context places; the three sections so far
pub record Pass : Type 0 where
  pub ranges : Ranges
  pub contexts : List (List Place)
  pub phis : List Place
  pub instructions : List Place
  pub terminals : List Place

-- ---- ranges
-- "0 is unset": what is unset becomes o
abbrev pub or_if_unset : EvaluationOrder → EvaluationOrder → EvaluationOrder
or_if_unset zero o = o
or_if_unset (suc e) o = suc e

-- x's entry becomes o if it is unset
unfoldable pub set_unset : IdentifierId → EvaluationOrder → List EvaluationOrder → List EvaluationOrder
set_unset x o l = set l x (or_if_unset (get_or l x 0) o)

-- whether a range's end is above the order
abbrev pub ends_after : Ranges → EvaluationOrder → IdentifierId → Bool
ends_after r o x = ltb o (get_or r.ends x 0)

-- a start that is unset becomes s, if the end is above o: phis, operands and contexts
unfoldable pub start_if : EvaluationOrder → EvaluationOrder → Place → Ranges → Ranges
start_if o s p r = record {
  starts = pick (ends_after r o p.identifier) (set_unset p.identifier s r.starts) r.starts;
  ends = r.ends;
}

-- an lvalue of an instruction of order o: start and end, where they are unset
unfoldable pub name_lvalue : EvaluationOrder → Place → Ranges → Ranges
name_lvalue o p r = record { starts = set_unset p.identifier o r.starts; ends = set_unset p.identifier (suc o) r.ends }

-- an end that is not above o becomes o + 1
abbrev pub end_past : EvaluationOrder → EvaluationOrder → EvaluationOrder
end_past o e = pick (leb e o) (suc o) e

-- StoreContext: the end of what it stores
unfoldable pub store_value : EvaluationOrder → InstructionValue → Ranges → Ranges
store_value o Plain r = r
store_value o (Function k) r = r
store_value o (StoreContext x) r = record { starts = r.starts; ends = set r.ends x (end_past o (get_or r.ends x 0)) }

-- ---- phis
-- the block's first order: its first instruction's, else its terminal's
abbrev pub first_order : List Instruction → Terminal → EvaluationOrder
first_order [] t = order_of t
first_order (i ∷ l) t = i.order

-- a phi's places: its own, then its operands'
abbrev pub phi_places : Phi → List Place
phi_places p = p.place ∷ map (λ (o : Operand). o.place) p.operands

-- a phi's places with their marks: Store, and Capture or Read by the phi's end
abbrev pub marked_phi : Ranges → EvaluationOrder → Phi → List Place
marked_phi r o p =
    with_effect store_effect p.place
    ∷ map (λ (a : Operand). with_effect (capture_or_read (get_or r.ends p.place.identifier 0) o) a.place) p.operands

-- the phis of a block: of those with one identifier only the first is marked, as the Rust finds them by identifier
unfoldable pub phis_marked : Ranges → EvaluationOrder → List IdentifierId → List Phi → List Place
phis_marked r o used [] = []
phis_marked r o used (p ∷ l) =
    pick (among p.place.identifier used) (phi_places p) (marked_phi r o p) ++ phis_marked r o (used ++ (p.place.identifier ∷ [])) l

-- a phi's start is one below the block's first order, if its end is above that order; "A phi start one below order 0 is 0"
unfoldable pub phi_starts : EvaluationOrder → List Phi → Ranges → Ranges
phi_starts o l r = each (λ (p : Phi). start_if o (o - 1) p.place) l r

-- the phis of a block, by the ends as they stand when the pass comes to it
unfoldable pub phis : EvaluationOrder → List Phi → Pass → Pass
phis o l p = record {
  ranges = phi_starts o l p.ranges;
  contexts = p.contexts;
  phis = p.phis ++ phis_marked p.ranges o [] l;
  instructions = p.instructions;
  terminals = p.terminals;
}

-- ---- instructions
-- first the lvalues' ranges
unfoldable pub name_lvalues : Instruction → Ranges → Ranges
name_lvalues i r = each (name_lvalue i.order) (lvalues_of i) r

-- what its effects say of identifiers, by the ends with its lvalues
unfoldable pub instruction_marks : Instruction → Ranges → List Mark
instruction_marks i r = operand_effects (name_lvalues i r).ends i.order (list_of i)

-- its places with these marks: lvalues, else ConditionallyMutate; then operands, else Read
abbrev pub instruction_places : List Mark → Instruction → List Place
instruction_places ms i = map (with_mark ms conditionally_mutate_effect) (lvalues_of i) ++ map (with_mark ms read_effect) i.operands

-- "its context places are operands too": those of the inner function that it makes
abbrev pub context_of : List InnerFunction → InstructionValue → List Place
context_of fs Plain = []
context_of fs (Function k) = (get_or fs k no_function).context
context_of fs (StoreContext x) = []

-- they get the marks where they stand, else Read; "inner contexts" of other functions stay
abbrev pub context_marked : List Mark → InstructionValue → List (List Place) → List (List Place)
context_marked ms Plain cs = cs
context_marked ms (Function k) cs = set cs k (map (with_mark ms read_effect) (get_or cs k []))
context_marked ms (StoreContext x) cs = cs

-- the starts of operands, then of context places; last what it stores
unfoldable pub operand_ranges : List InnerFunction → Instruction → Ranges → Ranges
operand_ranges fs i r = store_value i.order i.value (each (start_if i.order i.order) (i.operands ++ context_of fs i.value) r)

-- the ranges: lvalues, then, "yet goes on for an empty one", what only an instruction with a list does
unfoldable pub instruction_ranges : List InnerFunction → Instruction → Ranges → Ranges
instruction_ranges fs i r = pick (is_listed i) (operand_ranges fs i (name_lvalues i r)) (name_lvalues i r)

-- an instruction; document 02, order 5: "The pass over operands leaves an instruction without a list after its lvalues and the Read marks"
unfoldable pub instruction : List InnerFunction → Instruction → Pass → Pass
instruction fs i p = record {
  ranges = instruction_ranges fs i p.ranges;
  contexts = pick (is_listed i) (context_marked (instruction_marks i p.ranges) i.value p.contexts) p.contexts;
  phis = p.phis;
  instructions = p.instructions ++ instruction_places (instruction_marks i p.ranges) i;
  terminals = p.terminals;
}

-- ---- terminals
-- Return's value is Read in a function expression, else Freeze; other operands are Read
unfoldable pub terminal_places : Bool → Terminal → List Place
terminal_places fe (Other o ps) = map (with_effect read_effect) ps
terminal_places fe (Return o v l) = with_effect (pick fe read_effect freeze_effect) v ∷ []
terminal_places fe (MaybeThrow o l) = []

-- a terminal
unfoldable pub terminal : Bool → Terminal → Pass → Pass
terminal fe t p = record {
  ranges = p.ranges;
  contexts = p.contexts;
  phis = p.phis;
  instructions = p.instructions;
  terminals = p.terminals ++ terminal_places fe t;
}

-- ---- the pass
-- a block: phis, instructions, terminal
unfoldable pub block : Bool → List InnerFunction → Block → Pass → Pass
block fe fs b p = terminal fe b.terminal (each (instruction fs) b.instructions (phis (first_order b.instructions b.terminal) b.phis p))

-- the sheet's starts, 0 from N on
unfoldable pub sheet_starts : List Identifier → List EvaluationOrder
sheet_starts ids = map (λ (i : Identifier). i.start) ids ++ replicate (most_identifiers - length ids) 0

-- the ends before the pass: those after the real walks. "The chain property is about ends before this pass"
unfoldable pub ends_before : Sheet → List EvaluationOrder
ends_before s = (after_real s).ends

-- what the pass begins on
unfoldable pub before_pass : Sheet → Pass
before_pass s = record {
  ranges = record { starts = sheet_starts s.identifiers; ends = ends_before s };
  contexts = map (λ (f : InnerFunction). f.context) s.functions;
  phis = [];
  instructions = [];
  terminals = [];
}

-- what it leaves: one block after another
unfoldable pub after_pass : Sheet → Pass
after_pass s = each (block s.flags.function_expression s.functions) s.blocks (before_pass s)
