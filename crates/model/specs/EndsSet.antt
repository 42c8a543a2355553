-- Document 02, order 4: "a second property says which ends the pass sets".
use Rattle.std.specs.Prelude.{suc, ◌≤◌, ◌<◌, ◌≡◌, Bool, true, false, ◌&&◌, ◌⊎◌, length, get_or, eqb}
use mathlib.Core.List.{List, map, Memᴰ}
use Rattle.model.specs.Lists.{among, gather, each}
use Rattle.model.specs.Sheet.{IdentifierId, EvaluationOrder, Place, InstructionValue, Plain, Function, StoreContext, Instruction, is_listed, lvalues_of, Block}
use Rattle.model.specs.Operands.{Ranges, or_if_unset, end_past}

-- the instructions of the blocks, in sheet order
unfoldable pub instructions_of : List Block → List Instruction
instructions_of = gather (λ (b : Block). b.instructions)

-- "some instruction has the identifier among its lvalues"
unfoldable pub is_lvalue : IdentifierId → Instruction → Bool
is_lvalue x i = among x (map (λ (p : Place). p.identifier) (lvalues_of i))

-- the value is a StoreContext of the identifier
abbrev pub is_stored : IdentifierId → InstructionValue → Bool
is_stored x Plain = false
is_stored x (Function k) = false
is_stored x (StoreContext y) = eqb x y

-- "stores the identifier by StoreContext"; document 02, order 5: "counts no store without a list"
unfoldable pub stores : IdentifierId → Instruction → Bool
stores x i = is_listed i && is_stored x i.value

-- the instruction is one that moves x's end e: "it is 0 and [the] instruction has the identifier among its lvalues, or [it is] of order at least this end [and] stores the identifier"
abbrev pub Sets : IdentifierId → EvaluationOrder → Instruction → Type 0
Sets x e i = ((e ≡ 0) × (is_lvalue x i ≡ true)) ⊎ ((e ≤ i.order) × (stores x i ≡ true))

-- such an instruction among these
pub record SetBy (x : IdentifierId) (e : EvaluationOrder) (is : List Instruction) : Type 0 where
  pub instruction : Instruction
  pub listed : Memᴰ instruction is
  pub sets : Sets x e instruction

-- an lvalue of an instruction of order o sets an end that is 0
abbrev pub lvalue_end : Bool → EvaluationOrder → EvaluationOrder → EvaluationOrder
lvalue_end true o e = or_if_unset e (suc o)
lvalue_end false o e = e

-- a store of order o moves an end that is not above o
abbrev pub store_end : Bool → EvaluationOrder → EvaluationOrder → EvaluationOrder
store_end true o e = end_past o e
store_end false o e = e

-- what an instruction makes of an end: its lvalues, then its store
unfoldable pub end_after : IdentifierId → Instruction → EvaluationOrder → EvaluationOrder
end_after x i e = store_end (stores x i) i.order (lvalue_end (is_lvalue x i) i.order e)

-- an identifier's end
abbrev pub end_of : Ranges → IdentifierId → EvaluationOrder
end_of r x = get_or r.ends x 0

-- an identifier's start
abbrev pub start_of : Ranges → IdentifierId → EvaluationOrder
start_of r x = get_or r.starts x 0

-- the end is not what it was
abbrev pub Moved : Ranges → Ranges → IdentifierId → Type 0
Moved before after x = end_of after x ≡ end_of before x → ⊥

-- the pass over these instructions, from the ranges before it to those after it
pub record EndsSet (is : List Instruction) (before after : Ranges) : Type 0 where
  -- "an end moves exactly if": if there is such an instruction, by the end before the pass
  pub moves : (x : IdentifierId) → x < length before.ends → SetBy x (end_of before x) is → Moved before after x
  -- and only then; "it is then the order, plus one, of such an instruction"
  pub moved : (x : IdentifierId) → Moved before after x → (s : SetBy x (end_of before x) is) × (end_of after x ≡ suc s.instruction.order)
  -- "and no end falls"
  pub rises : (x : IdentifierId) → end_of before x ≤ end_of after x
  -- an end that no such instruction names stays
  pub stays : (x : IdentifierId) → (SetBy x (end_of before x) is → ⊥) → end_of after x ≡ end_of before x
  -- which of them: each identifier's end goes its own way, through the instructions in sheet order
  pub which : (x : IdentifierId) → x < length before.ends → end_of after x ≡ each (end_after x) is (end_of before x)
  -- a start moves only from 0
  pub starts : (x : IdentifierId) → 0 < start_of before x → start_of after x ≡ start_of before x
  -- there is a range for each identifier, as before
  pub start_count : length after.starts ≡ length before.starts
  pub end_count : length after.ends ≡ length before.ends
