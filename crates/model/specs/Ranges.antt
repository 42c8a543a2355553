-- What an accepted sheet's tree is known to hold: its sections keep to their limits, every identifier is below N, every inner function below their count (document 01, "The sheet").
use Rattle.std.specs.Prelude.{ℕ, ◌<◌, ◌≤◌, ◌≡◌, true, List, length, leb}
use Rattle.model.specs.Limits.{most_identifiers, most_functions, most_params, most_context, most_inner_context, most_order}
use Rattle.model.specs.Lists.{Every}
use Rattle.model.specs.Sheet.{InnerFunction, Place, Effect, Operand, Phi, InstructionValue, Plain, Function, StoreContext, Instruction, list_of, order_of, Terminal, Other, Return, MaybeThrow, Block, Sheet}
use Rattle.model.specs.Effects.{row_of, is_create_function}

-- "identifier (below N)"
abbrev pub PlaceBelow : ℕ → Place → Type 0
PlaceBelow n p = p.identifier < n

-- "(inner function, below their count)"
abbrev pub EffectBelow : ℕ → ℕ → Effect → Type 0
EffectBelow n m e =
    PlaceBelow n e.first
    × (leb 2 (row_of e.kind).places ≡ true → PlaceBelow n e.second)
    × (is_create_function e.kind ≡ true → e.extra < m)

-- a phi and its operands
abbrev pub PhiBelow : ℕ → Phi → Type 0
PhiBelow n p = PlaceBelow n p.place × Every (λ (o : Operand). PlaceBelow n o.place) p.operands

-- the places of a list
abbrev pub PlacesBelow : ℕ → List Place → Type 0
PlacesBelow n = Every (PlaceBelow n)

-- an inner function's context
abbrev pub FunctionBelow : ℕ → InnerFunction → Type 0
FunctionBelow n f = PlacesBelow n f.context × (length f.context ≤ most_inner_context)

-- an inner function number, or what StoreContext stores
abbrev pub ValueBelow : ℕ → ℕ → InstructionValue → Type 0
ValueBelow n m Plain = Unit {0}
ValueBelow n m (Function k) = k < m
ValueBelow n m (StoreContext x) = x < n

-- an instruction
pub record InstructionBelow (n m : ℕ) (i : Instruction) : Type 0 where
  pub order : i.order ≤ most_order
  pub lvalue : PlaceBelow n i.lvalue
  pub value_lvalues : PlacesBelow n i.value_lvalues
  pub operands : PlacesBelow n i.operands
  pub value : ValueBelow n m i.value
  pub effects : Every (EffectBelow n m) (list_of i)

-- a terminal's value, effects and operands
abbrev pub TerminalBelow : ℕ → ℕ → Terminal → Type 0
TerminalBelow n m (Other o ps) = PlacesBelow n ps
TerminalBelow n m (Return o p l) = PlaceBelow n p × Every (EffectBelow n m) l
TerminalBelow n m (MaybeThrow o l) = Every (EffectBelow n m) l

-- all of a block
abbrev pub BlockBelow : ℕ → ℕ → Block → Type 0
BlockBelow n m b = Every (PhiBelow n) b.phis × Every (InstructionBelow n m) b.instructions × (TerminalBelow n m b.terminal × (order_of b.terminal ≤ most_order))

pub record SheetBelow (s : Sheet) : Type 0 where
  pub identifiers : length s.identifiers ≤ most_identifiers
  pub function_count : length s.functions ≤ most_functions
  pub functions : Every (FunctionBelow (length s.identifiers)) s.functions
  pub param_count : length s.params ≤ most_params
  pub context_count : length s.context ≤ most_context
  pub params : Every (PlaceBelow (length s.identifiers)) s.params
  pub context : Every (PlaceBelow (length s.identifiers)) s.context
  pub returns : PlaceBelow (length s.identifiers) s.returns
  pub blocks : Every (BlockBelow (length s.identifiers) (length s.functions)) s.blocks
