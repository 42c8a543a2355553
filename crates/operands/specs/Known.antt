-- What the pass knows of a sheet that was accepted: its inner functions, and each instruction by its parts.
use Rattle.std.specs.Prelude.{ℕ, ◌≤◌, ◌<◌, ◌≡◌, true, List, leb, length, get_or}
use Rattle.model.specs.Limits.{most_identifiers, most_functions, place_width, effect_width}
use Rattle.model.specs.Lists.{Every}
use Rattle.model.specs.Sheet.{InnerFunction, no_function, Place, Effect, EffectList, Instruction as ModelInstruction, list_of}
use Rattle.model.specs.Effects.{row_of}
use Rattle.model.specs.Ranges.{PlaceBelow, FunctionBelow, InstructionBelow}
use Rattle.hir.specs.Says.{place_is, value_is}
use Rattle.hir.specs.Words.{Part, wide, place_at, effect_at, several, listed_if}
use Rattle.hir.specs.declared.at.List.{List as Listed}
use Rattle.hir.specs.declared.at.Instruction.{Instruction}
use Rattle.workspace.specs.Layout.{LEAST}
use Rattle.copies.specs.Functions.{Functions}

-- the inner functions of a sheet
abbrev pub InnerFunctions : Type 0
InnerFunctions = List InnerFunction

-- the words in which their lists stand
abbrev pub Lists : Type 0
Lists = List ℕ

-- the places of a list
abbrev pub places_at : List ℕ → Listed → Part (List Place)
places_at sheet l = several l.count (wide place_width place_at) sheet l.first

-- the effects of a list
abbrev pub effects_in : List ℕ → Listed → Part EffectList
effects_in sheet l = several l.count (wide effect_width effect_at) sheet l.first

-- the identifier of "into", where the kind has one, has a word
abbrev pub IntoBelow : Effect → Type 0
IntoBelow e = leb 2 (row_of e.kind).places ≡ true → e.second.identifier < most_identifiers

-- the list stands in the sheet, and every identifier of it has a word
pub record PlacesIn (sheet : List ℕ) (l : Listed) : Type 0 where
  pub inside : (places_at sheet l).next ≤ length sheet
  pub below : Every (PlaceBelow most_identifiers) (places_at sheet l).what

-- the instruction as the definitions have it
abbrev pub instruction_is : List ℕ → Instruction → ModelInstruction
instruction_is sheet i = record {
  order = i.order.0;
  lvalue = place_is i.lvalue;
  value_lvalues = (places_at sheet i.value_lvalues).what;
  operands = (places_at sheet i.operands).what;
  value = value_is i.value;
  effects = listed_if i.listed (effects_in sheet i.effects).what;
}

-- fs are the inner functions whose lists these are
pub record Known (lists ws : List ℕ) (fs : List InnerFunction) : Type 0 where
  pub size : LEAST ≤ length ws
  pub functions : Functions lists ws fs
  pub contexts : Every (FunctionBelow most_identifiers) fs
  pub count : length fs ≤ most_functions

-- the parts of an instruction of a sheet with these inner functions
pub record InstructionIn (sheet : List ℕ) (fs : List InnerFunction) (i : Instruction) : Type 0 where
  pub below : InstructionBelow most_identifiers (length fs) (instruction_is sheet i)
  pub value_lvalues : (places_at sheet i.value_lvalues).next ≤ length sheet
  pub operands : (places_at sheet i.operands).next ≤ length sheet
  pub effects : (effects_in sheet i.effects).next ≤ length sheet
  -- an absent list is kept as an empty one
  pub present : list_of (instruction_is sheet i) ≡ (effects_in sheet i.effects).what

-- the same, where these functions stand in the lists
pub record InstructionKnown (sheet lists ws : List ℕ) (fs : List InnerFunction) (i : Instruction) : Type 0 where
  pub known : Known lists ws fs
  pub parts : InstructionIn sheet fs i

-- the context places of inner function k stand in this list
pub record ContextOf (lists ws : List ℕ) (k : ℕ) (l : Listed) : Type 0 where
  pub is : (fs : List InnerFunction) → Known lists ws fs → k < length fs → (places_at lists l).what ≡ (get_or fs k no_function).context
  pub inside : (places_at lists l).next ≤ length lists
