-- What the second reading's parts say: each by the words at the position where it stands.
use Rattle.std.specs.Prelude.{ℕ, ◌+◌, ◌≤◌, ◌≡◌, Bool, List}
use Rattle.model.specs.Reading.{Position}
use Rattle.model.specs.Sheet.{Operand as ModelOperand}
use Rattle.hir.specs.Says.{place_is, value_is}
use Rattle.hir.specs.Words.{word_at, counts, present_count, place_at, value_from, lvalues_at, operands_at, value_at, effects_at}
use Rattle.model.specs.Limits.{place_width}
use Rattle.hir.specs.declared.at.List.{List as Listed}
use Rattle.hir.specs.declared.at.Operand.{Operand}
use Rattle.hir.specs.declared.at.Phi.{Phi}
use Rattle.hir.specs.declared.at.Value.{Value}
use Rattle.hir.specs.declared.at.Instruction.{Instruction}
use Rattle.hir.specs.declared.at.Terminal.{Terminal}
use Rattle.hir.specs.declared.at.Terminal.TheVariants.{Other, Return, MaybeThrow}

-- the operand as the definitions have it
abbrev pub operand_is : Operand → ModelOperand
operand_is o = record { predecessor = o.predecessor.0; place = place_is o.place }

-- a count, and what it counts from the next word on
pub record ListAt (ws : List ℕ) (c : Position) (r : Listed) : Type 0 where
  pub count : r.count ≡ word_at ws c
  pub first : r.first ≡ c + 1

-- a phi: its place, then its operands
pub record PhiAt (ws : List ℕ) (c : Position) (r : Phi) : Type 0 where
  pub place : place_is r.place ≡ place_at ws c
  pub operands : ListAt ws (c + place_width) r.operands

-- an instruction's value, and the position after it
pub record ValueAt (ws : List ℕ) (c : Position) (r : Value) : Type 0 where
  pub value : value_is r.value ≡ (value_from ws c).what
  pub next : r.next ≡ (value_from ws c).next

-- an instruction's effects, none of an absent list, and whether the list is there
pub record EffectsAt (ws : List ℕ) (c : Position) (b : Bool) (r : Listed) : Type 0 where
  pub listed : b ≡ counts (word_at ws c)
  pub count : r.count ≡ present_count (word_at ws c)
  pub first : r.first ≡ c + 1

-- an instruction: its order, its lvalue, its value lvalues, its operands, its value, then its effects
pub record InstructionAt (ws : List ℕ) (c : Position) (r : Instruction) : Type 0 where
  pub order : r.order.0 ≡ word_at ws c
  pub lvalue : place_is r.lvalue ≡ place_at ws (c + 1)
  pub value_lvalues : ListAt ws (lvalues_at c) r.value_lvalues
  pub operands : ListAt ws (operands_at ws c) r.operands
  pub value : value_is r.value ≡ (value_from ws (value_at ws c)).what
  pub effects : EffectsAt ws (effects_at ws c) r.listed r.effects

-- a terminal by its kind (0 other, 1 Return, 2 MaybeThrow), behind which stands its order
abbrev pub TerminalAt : List ℕ → Position → Terminal → Type 0
TerminalAt ws c (Other operands) = (word_at ws c ≡ 0) × ListAt ws (c + 2) operands
TerminalAt ws c (Return value effects) = (word_at ws c ≡ 1) × ((place_is value ≡ place_at ws (c + 2)) × ListAt ws (c + 2 + place_width) effects)
TerminalAt ws c (MaybeThrow effects) = (2 ≤ word_at ws c) × ListAt ws (c + 2) effects
