-- Document 01, "The sheet", the other way: the words of a sheet, each section after its count; and which trees are sheets within their limits.
use Rattle.std.specs.Prelude.{ℕ, ◌≤◌, ◌<◌, ◌≡◌, Bool, true, false, List, [], ◌∷◌, ◌++◌, map, length, leb}
use Rattle.std.proofs.Math.Option.{Option, none, some}
use Rattle.model.specs.Limits.{flag_count, most_identifiers, most_range, most_functions, most_inner_diagnostics, most_inner_context, most_diagnostic, most_params, most_context, returns_count, most_blocks, most_block_number, most_count, most_order, most_lvalues, most_operands, no_operands, absent_count}
use Rattle.model.specs.Lists.{Every, one_if}
use Rattle.model.specs.Sheet.{Flags, IdentifierType, other, primitive, jsx, Identifier, Diagnostic, InnerFunction, Place, unused_place, Effect, Operand, Phi, EffectList, InstructionValue, Plain, Function, StoreContext, Instruction, list_of, Terminal, Other, Return, MaybeThrow, Block, Sheet}
use Rattle.model.specs.Traits.{reactive_traits}
use Rattle.model.specs.Effects.{row_of, is_create_function}
use Rattle.model.specs.Answer.{place_words, diagnostic_words, effect_words, section}
use Rattle.model.specs.Distinct.{Distinct, PhiDistinct}

-- ---- the words
-- "Flags, count 2"
abbrev pub flags_words : Flags → List ℕ
flags_words f = flag_count ∷ one_if f.function_expression ∷ one_if f.validations ∷ []

-- "type (0 other, 1 primitive, 2 JSX)"
abbrev pub type_word : IdentifierType → ℕ
type_word other = 0
type_word primitive = 1
type_word jsx = 2

-- "range start, range end, type"
abbrev pub identifier_words : Identifier → List ℕ
identifier_words i = i.start ∷ i.end ∷ type_word i.type ∷ []

-- "a count, then that many pairs"; "after its diagnostics, a count of context places and those places"
abbrev pub function_words : InnerFunction → List ℕ
function_words f = section diagnostic_words f.diagnostics ++ section place_words f.context

-- "an effect count and the effects"
abbrev pub effects_words : EffectList → List ℕ
effects_words l = section effect_words l

-- an instruction's: a count of 4,294,967,295 for an absent list
abbrev pub listed_words : Option EffectList → List ℕ
listed_words none = absent_count ∷ []
listed_words (some l) = effects_words l

-- "for each operand a predecessor's number and a place"
abbrev pub operand_words : Operand → List ℕ
operand_words o = o.predecessor ∷ place_words o.place

-- "each phi a place, an operand count, and the operands"
abbrev pub phi_words : Phi → List ℕ
phi_words p = place_words p.place ++ section operand_words p.operands

-- "a value word: 0 plain, 1 then an inner function number, 2 then the identifier that StoreContext stores"
abbrev pub value_words : InstructionValue → List ℕ
value_words Plain = 0 ∷ []
value_words (Function k) = 1 ∷ k ∷ []
value_words (StoreContext x) = 2 ∷ x ∷ []

-- "each an order, an effect count and the effects"; after the order "its lvalue place; its value lvalues, then its operands; and a value word"
abbrev pub instruction_words : Instruction → List ℕ
instruction_words i =
    i.order
    ∷ (place_words i.lvalue
    ++ (section place_words i.value_lvalues
    ++ (section place_words i.operands
    ++ (value_words i.value
    ++ listed_words i.effects))))

-- "terminal kind (0 other, 1 Return, 2 MaybeThrow) and order; for 1 a place; for 1 and 2 an effect count and effects"; at its end its operands
abbrev pub terminal_words : Terminal → List ℕ
terminal_words (Other o ps) = 0 ∷ o ∷ section place_words ps
terminal_words (Return o p l) = 1 ∷ o ∷ (place_words p ++ (effects_words l ++ (no_operands ∷ [])))
terminal_words (MaybeThrow o l) = 2 ∷ o ∷ (effects_words l ++ (no_operands ∷ []))

-- a block after its number
abbrev pub block_rest : Block → List ℕ
block_rest b = section phi_words b.phis ++ (section instruction_words b.instructions ++ terminal_words b.terminal)

-- "number; phis; instructions; terminal"
abbrev pub block_words : Block → List ℕ
block_words b = b.number ∷ block_rest b

-- "Sections in a fixed order, each after its count"
unfoldable pub sheet_words : Sheet → List ℕ
sheet_words s =
    flags_words s.flags
    ++ (section identifier_words s.identifiers
    ++ (section function_words s.functions
    ++ (section place_words s.params
    ++ (section place_words s.context
    ++ (returns_count ∷ (place_words s.returns
    ++ section block_words s.blocks))))))

-- ---- the limits
-- "range start, range end (each at most 1,000,000)"
abbrev pub IdentifierFits : Identifier → Type 0
IdentifierFits i = (i.start ≤ most_range) × (i.end ≤ most_range)

-- identity and instance, "each at most 65,535"
abbrev pub DiagnosticFits : Diagnostic → Type 0
DiagnosticFits d = (d.identity ≤ most_diagnostic) × (d.instance ≤ most_diagnostic)

-- "identifier (below N); traits, the effect's position in `Effect`"
abbrev pub PlaceFits : ℕ → Place → Type 0
PlaceFits n p = (p.identifier < n) × (p.effect < reactive_traits)

-- a list of places after a count of its own limit
abbrev pub PlacesFit : ℕ → ℕ → List Place → Type 0
PlacesFit n most l = (length l ≤ most) × Every (PlaceFits n) l

-- "a count (at most 64), then that many pairs"; "a count of context places (at most 64)"
abbrev pub FunctionFits : ℕ → InnerFunction → Type 0
FunctionFits n f = ((length f.diagnostics ≤ most_inner_diagnostics) × Every DiagnosticFits f.diagnostics) × PlacesFit n most_inner_context f.context

-- a place if the kind uses it, else "unused places are 0", but for an instance as the first word
abbrev pub UsedFits : Bool → ℕ → ℕ → Place → Type 0
UsedFits true n instance p = PlaceFits n p
UsedFits false n instance p = (p.identifier ≤ instance) × (p ≡ unused_place p.identifier)

-- for CreateFunction an inner function below their count, else at most what the table says
abbrev pub ExtraFits : Bool → ℕ → ℕ → ℕ → Type 0
ExtraFits true m most x = x < m
ExtraFits false m most x = x ≤ most

-- n identifiers, m inner functions
abbrev pub EffectFits : ℕ → ℕ → Effect → Type 0
EffectFits n m e =
    UsedFits (leb 1 (row_of e.kind).places) n 0 e.first
    × UsedFits (leb 2 (row_of e.kind).places) n (row_of e.kind).instance e.second
    × ExtraFits (is_create_function e.kind) m (row_of e.kind).extra e.extra

-- "Counts without a limit of their own are at most 1,024"
abbrev pub EffectsFit : ℕ → ℕ → EffectList → Type 0
EffectsFit n m l = (length l ≤ most_count) × Every (EffectFits n m) l

-- a predecessor's number and a place
abbrev pub OperandFits : ℕ → Operand → Type 0
OperandFits n o = (o.predecessor ≤ most_block_number) × PlaceFits n o.place

-- no predecessor is named twice
abbrev pub PhiFits : ℕ → Phi → Type 0
PhiFits n p = PlaceFits n p.place × (length p.operands ≤ most_count) × Every (OperandFits n) p.operands × PhiDistinct p

-- an inner function number below their count, or an identifier below N
abbrev pub ValueFits : ℕ → ℕ → InstructionValue → Type 0
ValueFits n m Plain = Unit {0}
ValueFits n m (Function k) = k < m
ValueFits n m (StoreContext x) = x < n

-- "An order is at most 999,999"
pub record InstructionFits (n m : ℕ) (i : Instruction) : Type 0 where
  pub order : i.order ≤ most_order
  pub lvalue : PlaceFits n i.lvalue
  pub value_lvalues : PlacesFit n most_lvalues i.value_lvalues
  pub operands : PlacesFit n most_operands i.operands
  pub value : ValueFits n m i.value
  pub effects : EffectsFit n m (list_of i)

-- a terminal's value, effects and operands
abbrev pub TerminalFits : ℕ → ℕ → Terminal → Type 0
TerminalFits n m (Other o ps) = (o ≤ most_order) × PlacesFit n most_operands ps
TerminalFits n m (Return o p l) = (o ≤ most_order) × PlaceFits n p × EffectsFit n m l
TerminalFits n m (MaybeThrow o l) = (o ≤ most_order) × EffectsFit n m l

-- a block, its number aside
pub record BlockFits (n m : ℕ) (b : Block) : Type 0 where
  pub number : b.number ≤ most_block_number
  pub phi_count : length b.phis ≤ most_count
  pub phis : Every (PhiFits n) b.phis
  pub instruction_count : length b.instructions ≤ most_count
  pub instructions : Every (InstructionFits n m) b.instructions
  pub terminal : TerminalFits n m b.terminal

-- a sheet within the limits that the reading of its words asks for
pub record SheetFits (s : Sheet) : Type 0 where
  pub identifier_count : length s.identifiers ≤ most_identifiers
  pub identifiers : Every IdentifierFits s.identifiers
  pub function_count : length s.functions ≤ most_functions
  pub functions : Every (FunctionFits (length s.identifiers)) s.functions
  pub param_count : length s.params ≤ most_params
  pub params : Every (PlaceFits (length s.identifiers)) s.params
  pub context_count : length s.context ≤ most_context
  pub context : Every (PlaceFits (length s.identifiers)) s.context
  pub returns : PlaceFits (length s.identifiers) s.returns
  pub block_count : length s.blocks ≤ most_blocks
  pub blocks : Every (BlockFits (length s.identifiers) (length s.functions)) s.blocks
  pub numbers : Distinct (map (λ (b : Block). b.number) s.blocks)
