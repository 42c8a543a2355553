-- The words of a phi operand, a phi and a block are in their ranges.
use Rattle.model.specs.Limits.{most_identifiers}
use Rattle.model.specs.Lists.{Every}
use Rattle.model.specs.Sheet.{Operand, Phi, Block}
use Rattle.model.specs.Ranges.{PlaceBelow, PhiBelow}
use Rattle.instructions.specs.Ranges.{InstructionInRange, TerminalInRange}

-- a phi operand: its place
abbrev pub OperandInRange : Operand → Type 0
OperandInRange o = PlaceBelow most_identifiers o.place

-- a phi: its place and its operands
abbrev pub PhiInRange : Phi → Type 0
PhiInRange = PhiBelow most_identifiers

-- a block: all of it
pub record BlockInRange (k : Block) : Type 0 where
  pub phis : Every PhiInRange k.phis
  pub instructions : Every InstructionInRange k.instructions
  pub terminal : TerminalInRange k.terminal
