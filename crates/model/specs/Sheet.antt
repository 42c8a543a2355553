-- Document 01, "The sheet": what a sheet says, as a tree. How it stands in words is in Reading and Sections.
-- Left out: nothing. Stricter: a number below its limit is a plain number here; Reading has the limits.
use Rattle.std.specs.Prelude.{ℕ, Bool, false, List, [], ◌∷◌}
use Rattle.std.proofs.Math.Option.{Option, none, some}
use Rattle.model.specs.Lists.{is_some}

-- the Rust's `IdentifierId`, `BlockId`, `FunctionId` and `EvaluationOrder`
abbrev pub IdentifierId : Type 0
IdentifierId = ℕ

-- a block's number
abbrev pub BlockId : Type 0
BlockId = ℕ

-- an inner function's number
abbrev pub FunctionId : Type 0
FunctionId = ℕ

-- an instruction's order, and a range's ends
abbrev pub EvaluationOrder : Type 0
EvaluationOrder = ℕ

-- "Flags, count 2: function expression, validations"
pub record Flags : Type 0 where
  pub function_expression : Bool
  pub validations : Bool

-- "type (0 other, 1 primitive, 2 JSX)"
pub data IdentifierType : Type 0 where
  other primitive jsx : IdentifierType

-- "Identifiers: range start, range end (0 is unset), type"
pub record Identifier : Type 0 where
  pub start : EvaluationOrder
  pub end : EvaluationOrder
  pub type : IdentifierType

-- "`AliasingDiagnostic` has an identity and an instance"
pub record Diagnostic : Type 0 where
  pub identity : ℕ
  pub instance : ℕ

-- "A place is three words: identifier; traits, the effect's position in `Effect` counted from 0 plus 8 if reactive; span, 0 for none"
pub record Place : Type 0 where
  pub identifier : IdentifierId
  pub effect : ℕ
  pub reactive : Bool
  pub span : ℕ

-- a place with no traits and no span
abbrev pub plain_place : IdentifierId → Place
plain_place i = record { identifier = i; effect = 0; reactive = false; span = 0 }

-- a place that is not used: its first word, for kinds 14 to 16 the instance
abbrev pub unused_place : ℕ → Place
unused_place i = plain_place i

-- "unused places are 0"
abbrev pub no_place : Place
no_place = unused_place 0

-- "Inner function lists hold and count pairs"; "An inner function adds, after its diagnostics, context places"
pub record InnerFunction : Type 0 where
  pub diagnostics : List Diagnostic
  pub context : List Place

-- stands for an inner function that is not there, which no accepted sheet names
abbrev pub no_function : InnerFunction
no_function = record { diagnostics = []; context = [] }

-- "Kind is the position in `AliasingEffect`, Freeze 0 to Render 17": the Rust's names, in its order
pub data EffectKind : Type 0 where
  Freeze Mutate MutateConditionally MutateTransitive MutateTransitiveConditionally : EffectKind
  Capture Alias MaybeAlias Assign Create CreateFrom ImmutableCapture Apply CreateFunction : EffectKind
  MutateFrozen MutateGlobal Impure Render : EffectKind

-- "An effect is eight words: kind, first place, second place, extra"
pub record Effect : Type 0 where
  pub kind : EffectKind
  pub first : Place
  pub second : Place
  pub extra : ℕ

-- "for each operand a predecessor's number and a place"
pub record Operand : Type 0 where
  pub predecessor : BlockId
  pub place : Place

-- "each phi a place, an operand count, and the operands"
pub record Phi : Type 0 where
  pub place : Place
  pub operands : List Operand

-- "An absent effect list is written as count 0"; from document 02, order 5 on only a terminal's
abbrev pub EffectList : Type 0
EffectList = List Effect

-- document 02, order 4: "a value word: 0 plain, 1 then an inner function number (FunctionExpression, ObjectMethod), 2 then the identifier that StoreContext stores"
pub data InstructionValue : Type 0 where
  Plain : InstructionValue
  Function : FunctionId → InstructionValue
  StoreContext : IdentifierId → InstructionValue

-- "each an order, an effect count and the effects"; "An instruction adds, after its order, its lvalue place; its value lvalues, then its operands; and a value word"
pub record Instruction : Type 0 where
  pub order : EvaluationOrder
  pub lvalue : Place
  pub value_lvalues : List Place
  pub operands : List Place
  pub value : InstructionValue
  -- document 02, order 5: "An effect list left out is not an empty one"
  pub effects : Option EffectList

-- a list, empty if it is absent
abbrev pub present : Option EffectList → EffectList
present none = []
present (some l) = l

-- whether an instruction has a list of effects
abbrev pub is_listed : Instruction → Bool
is_listed i = is_some i.effects

-- an instruction's effects: an absent list has none
abbrev pub list_of : Instruction → EffectList
list_of i = present i.effects

-- the lvalue place, then the value lvalues
abbrev pub lvalues_of : Instruction → List Place
lvalues_of i = i.lvalue ∷ i.value_lvalues

-- "terminal kind (0 other, 1 Return, 2 MaybeThrow) and order; for 1 a place; for 1 and 2 effects"; "A terminal adds, at its end, its operands; for Return and MaybeThrow that count is 0"
pub data Terminal : Type 0 where
  Other : EvaluationOrder → List Place → Terminal
  Return : EvaluationOrder → Place → EffectList → Terminal
  MaybeThrow : EvaluationOrder → EffectList → Terminal

-- a terminal's order
abbrev pub order_of : Terminal → EvaluationOrder
order_of (Other o ps) = o
order_of (Return o p l) = o
order_of (MaybeThrow o l) = o

-- "number; phis; instructions; terminal"
pub record Block : Type 0 where
  pub number : BlockId
  pub phis : List Phi
  pub instructions : List Instruction
  pub terminal : Terminal

-- "Sections in a fixed order". "A spread parameter is its place"
pub record Sheet : Type 0 where
  pub flags : Flags
  pub identifiers : List Identifier
  pub functions : List InnerFunction
  pub params : List Place
  pub context : List Place
  pub returns : Place
  pub blocks : List Block
