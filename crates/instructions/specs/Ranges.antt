-- The parts of an accepted sheet have their words in their ranges: document 01, refusal 5.
use Rattle.std.specs.Prelude.{◌≤◌, ◌<◌, true, false, ◌≡◌, leb}
use Rattle.model.specs.Limits.{most_identifiers, most_functions}
use Rattle.model.specs.Lists.{Every}
use Rattle.model.specs.Sheet.{Effect, Instruction, list_of, Terminal, Other, Return, MaybeThrow}
use Rattle.model.specs.Effects.{row_of, is_create_function}
use Rattle.model.specs.Ranges.{PlaceBelow}

-- an effect: its places, and its extra word by its kind
pub record InRange (e : Effect) : Type 0 where
  pub first : PlaceBelow most_identifiers e.first
  pub second : leb 2 (row_of e.kind).places ≡ true → PlaceBelow most_identifiers e.second
  pub function : is_create_function e.kind ≡ true → e.extra < most_functions
  pub extra : is_create_function e.kind ≡ false → e.extra ≤ (row_of e.kind).extra

-- an instruction: its effects
abbrev pub InstructionInRange : Instruction → Type 0
InstructionInRange i = Every InRange (list_of i)

-- a terminal: its value and its effects
abbrev pub TerminalInRange : Terminal → Type 0
TerminalInRange (Other o ps) = Unit {0}
TerminalInRange (Return o p l) = PlaceBelow most_identifiers p × Every InRange l
TerminalInRange (MaybeThrow o l) = Every InRange l
