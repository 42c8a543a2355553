-- Document 01, "The sheet": for every part what its words say, and where it ends. Nothing is refused here: of an accepted sheet each part that
-- was read is the one that stands there (proofs/SheetStanding).
use Rattle.std.specs.Prelude.{ℕ, zero, suc, ◌+◌, Bool, true, false, not, List, [], ◌∷◌, get_or, eqb}
use Rattle.std.proofs.Math.Option.{Option, none, some}
use Rattle.model.specs.Limits.{flags_width, identifier_width, diagnostic_width, place_width, effect_width, operand_width, absent_count}
use Rattle.model.specs.Lists.{pick}
use Rattle.model.specs.Sheet.{Flags, Identifier, Diagnostic, InnerFunction, Place, Effect, Operand, Phi, EffectList, InstructionValue, Plain, Function, StoreContext, Instruction, Terminal, Other, Return, MaybeThrow, Block, Sheet}
use Rattle.model.specs.Traits.{effect_of, reactive_of}
use Rattle.model.specs.Effects.{kind_of}
use Rattle.model.specs.Reading.{Position}
use Rattle.model.specs.Sections.{type_of}

-- a part, and the position after it
pub record Part (A : Type 0) : Type 0 where
  pub what : A
  pub next : Position

-- how a part stands in the words from a position on
abbrev pub Standing : Type 0 → Type 0
Standing A = List ℕ → Position → Part A

-- the word at c
abbrev pub word_at : List ℕ → Position → ℕ
word_at ws c = get_or ws c 0

-- ---- parts of a fixed width
module _ {A : Type 0} where
  -- a part of so many words
  abbrev pub wide : ℕ → (List ℕ → Position → A) → Standing A
  wide width f ws c = record { what = f ws c; next = c + width }

-- a place by its three words
abbrev pub place_of : ℕ → ℕ → ℕ → Place
place_of i t s = record { identifier = i; effect = effect_of t; reactive = reactive_of t; span = s }

-- the place from c on
abbrev pub place_at : List ℕ → Position → Place
place_at ws c = place_of (word_at ws c) (word_at ws (c + 1)) (word_at ws (c + 2))

-- the effect from c on: kind, first place, second place, extra
abbrev pub effect_at : List ℕ → Position → Effect
effect_at ws c = record {
  kind = kind_of (word_at ws c);
  first = place_of (word_at ws (c + 1)) (word_at ws (c + 2)) (word_at ws (c + 3));
  second = place_of (word_at ws (c + 4)) (word_at ws (c + 5)) (word_at ws (c + 6));
  extra = word_at ws (c + 7);
}

-- the operand from c on
abbrev pub operand_at : List ℕ → Position → Operand
operand_at ws c = record { predecessor = word_at ws c; place = place_of (word_at ws (c + 1)) (word_at ws (c + 2)) (word_at ws (c + 3)) }

-- the identifier from c on
abbrev pub identifier_at : List ℕ → Position → Identifier
identifier_at ws c = record { start = word_at ws c; end = word_at ws (c + 1); type = type_of (word_at ws (c + 2)) }

-- the diagnostic from c on
abbrev pub diagnostic_at : List ℕ → Position → Diagnostic
diagnostic_at ws c = record { identity = word_at ws c; instance = word_at ws (c + 1) }

-- ---- several parts
module _ {A : Type 0} where
  -- k parts one after another
  unfoldable pub several : ℕ → Standing A → Standing (List A)
  several zero f ws c = record { what = []; next = c }
  several (suc k) f ws c = record { what = (f ws c).what ∷ (several k f ws (f ws c).next).what; next = (several k f ws (f ws c).next).next }

  -- where a part stands, in its place
  abbrev pub placed : Standing A → Standing Position
  placed f ws c = record { what = c; next = (f ws c).next }

  -- a count, then that many parts
  unfoldable pub listed : Standing A → Standing (List A)
  listed f ws c = several (word_at ws c) f ws (c + 1)

-- "an effect count and the effects"
abbrev pub effects_from : Standing EffectList
effects_from = listed (wide effect_width effect_at)

-- whether an instruction's effect count counts: 4,294,967,295 says that the list is absent
abbrev pub counts : ℕ → Bool
counts w = not (eqb w absent_count)

-- and how many effects it has then
abbrev pub present_count : ℕ → ℕ
present_count w = pick (counts w) w 0

-- an instruction's effects: none of an absent list
abbrev pub present_from : Standing EffectList
present_from ws c = several (present_count (word_at ws c)) (wide effect_width effect_at) ws (c + 1)

-- the list, if it is there
abbrev pub listed_if : Bool → EffectList → Option EffectList
listed_if true l = some l
listed_if false l = none

-- "An effect list left out is not an empty one"
abbrev pub list_from : Standing (Option EffectList)
list_from ws c = record { what = listed_if (counts (word_at ws c)) (present_from ws c).what; next = (present_from ws c).next }

-- a count and places
abbrev pub places_from : Standing (List Place)
places_from = listed (wide place_width place_at)

-- "a count, then that many pairs"
abbrev pub diagnostics_from : Standing (List Diagnostic)
diagnostics_from = listed (wide diagnostic_width diagnostic_at)

-- the pairs; "after its diagnostics, a count of context places and those places"
unfoldable pub function_from : Standing InnerFunction
function_from ws c =
    let diagnostics : Part (List Diagnostic) = diagnostics_from ws c in
    let context : Part (List Place) = places_from ws diagnostics.next in
    record { what = record { diagnostics = diagnostics.what; context = context.what }; next = context.next }

-- "each phi a place, an operand count, and the operands"
unfoldable pub phi_from : Standing Phi
phi_from ws c = record {
  what = record { place = place_at ws c; operands = (listed (wide operand_width operand_at) ws (c + place_width)).what };
  next = (listed (wide operand_width operand_at) ws (c + place_width)).next;
}

-- by the value word, what follows it: "0 plain, 1 then an inner function number, 2 then the identifier that StoreContext stores"
unfoldable pub value_of : ℕ → Standing InstructionValue
value_of zero ws c = record { what = Plain; next = c }
value_of (suc zero) ws c = record { what = Function (word_at ws c); next = c + 1 }
value_of (suc (suc k)) ws c = record { what = StoreContext (word_at ws c); next = c + 1 }

-- "a value word", then the rest
abbrev pub value_from : Standing InstructionValue
value_from ws c = value_of (word_at ws c) ws (c + 1)

-- where the parts of the instruction at c stand: its value lvalues, its operands, its value and its effects
abbrev pub lvalues_at : Position → Position
lvalues_at c = c + 1 + place_width

abbrev pub operands_at : List ℕ → Position → Position
operands_at ws c = (places_from ws (lvalues_at c)).next

abbrev pub value_at : List ℕ → Position → Position
value_at ws c = (places_from ws (operands_at ws c)).next

abbrev pub effects_at : List ℕ → Position → Position
effects_at ws c = (value_from ws (value_at ws c)).next

-- "each an order, an effect count and the effects"; after the order "its lvalue place; its value lvalues, then its operands; and a value word"
unfoldable pub instruction_from : Standing Instruction
instruction_from ws c = record {
  what = record {
    order = word_at ws c;
    lvalue = place_at ws (c + 1);
    value_lvalues = (places_from ws (lvalues_at c)).what;
    operands = (places_from ws (operands_at ws c)).what;
    value = (value_from ws (value_at ws c)).what;
    effects = (list_from ws (effects_at ws c)).what;
  };
  next = (list_from ws (effects_at ws c)).next;
}

-- by the kind (0 other, 1 Return, 2 MaybeThrow) and the order, what follows them: "for 1 a place; for 1 and 2 an effect count and effects"; at its end its operands
unfoldable pub terminal_of : ℕ → ℕ → Standing Terminal
terminal_of zero o ws c = record { what = Other o (places_from ws c).what; next = (places_from ws c).next }
terminal_of (suc zero) o ws c = record { what = Return o (place_at ws c) (effects_from ws (c + place_width)).what; next = (effects_from ws (c + place_width)).next + 1 }
terminal_of (suc (suc k)) o ws c = record { what = MaybeThrow o (effects_from ws c).what; next = (effects_from ws c).next + 1 }

-- "terminal kind and order", then the rest
unfoldable pub terminal_from : Standing Terminal
terminal_from ws c = terminal_of (word_at ws c) (word_at ws (c + 1)) ws (c + 2)

-- where a block's phis end, and its instructions
abbrev pub phis_from : Standing (List Phi)
phis_from = listed phi_from

abbrev pub instructions_from : Standing (List Instruction)
instructions_from = listed instruction_from

-- "number; phis; instructions; terminal"
unfoldable pub block_from : Standing Block
block_from ws c =
    let phis : Part (List Phi) = phis_from ws (c + 1) in
    let instructions : Part (List Instruction) = instructions_from ws phis.next in
    let terminal : Part Terminal = terminal_from ws instructions.next in
    record { what = record { number = word_at ws c; phis = phis.what; instructions = instructions.what; terminal = terminal.what }; next = terminal.next }

-- ---- the sheet
-- the flags from c on
abbrev pub flags_at : List ℕ → Position → Flags
flags_at ws c = record { function_expression = eqb (word_at ws (c + 1)) 1; validations = eqb (word_at ws (c + 2)) 1 }

-- where the sections of a sheet that begins at c stand, each by its count
pub record Sections : Type 0 where
  pub identifiers : Position
  pub functions : Position
  pub params : Position
  pub context : Position
  pub returns : Position
  pub blocks : Position
  pub end : Position

abbrev pub identifiers_from : Standing (List Identifier)
identifiers_from = listed (wide identifier_width identifier_at)

abbrev pub functions_from : Standing (List InnerFunction)
functions_from = listed function_from

abbrev pub blocks_from : Standing (List Block)
blocks_from = listed block_from

-- "Sections in a fixed order, each after its count"
unfoldable pub sections_from : List ℕ → Position → Sections
sections_from ws c =
    let functions : Position = (identifiers_from ws (c + flags_width)).next in
    let params : Position = (functions_from ws functions).next in
    let context : Position = (places_from ws params).next in
    let returns : Position = (places_from ws context).next in
    let blocks : Position = returns + 1 + place_width in
    record { identifiers = c + flags_width; functions = functions; params = params; context = context; returns = returns; blocks = blocks; end = (blocks_from ws blocks).next }

-- what the words say
unfoldable pub sheet_from : Standing Sheet
sheet_from ws c =
    let at : Sections = sections_from ws c in
    record {
      what = record {
        flags = flags_at ws c;
        identifiers = (identifiers_from ws at.identifiers).what;
        functions = (functions_from ws at.functions).what;
        params = (places_from ws at.params).what;
        context = (places_from ws at.context).what;
        returns = place_at ws (at.returns + 1);
        blocks = (blocks_from ws at.blocks).what;
      };
      next = at.end;
    }
