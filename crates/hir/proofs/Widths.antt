-- How wide parts are, and that none ends before it begins.
use Prim.Native.Nat.{ℕ, zero, suc, ◌+◌, ◌*◌, ◌≤◌}
use native.Mathlib.Omega.{arith}
use mathlib.Core.Path.{◌≡◌, refl}
use mathlib.Core.List.{List}
use Rattle.model.specs.Reading.{Position}
use Rattle.hir.specs.Words.{Standing, word_at, wide, place_at, effect_at, operand_at, identifier_at, diagnostic_at, several, listed, effects_from, present_count, places_from, diagnostics_from, function_from, phi_from, value_of, value_from, lvalues_at, operands_at, value_at, effects_at, instruction_from, terminal_of, terminal_from, phis_from, instructions_from, block_from, Sections, sections_from}
use Rattle.model.specs.Limits.{place_width, effect_width, operand_width, identifier_width, diagnostic_width, flags_width}

-- no part ends before it begins
abbrev pub Rises : {A : Type 0} → Standing A → Type 0
Rises f = (ws : List ℕ) (c : Position) → c ≤ (f ws c).next

module _ {A : Type 0} where
  -- k parts of so many words
  pub several_wide : (width k : ℕ) (f : List ℕ → Position → A) (ws : List ℕ) (c : Position) → (several k (wide width f) ws c).next ≡ c + k * width
  unfolding several
  several_wide width zero f ws c = omega arith
  several_wide width (suc k) f ws c = omega (arith, several_wide width k f ws (c + width))

  pub several_rises : (k : ℕ) (f : Standing A) → Rises f → Rises (several k f)
  unfolding several
  several_rises zero f h ws c = omega arith
  several_rises (suc k) f h ws c = omega (arith, h ws c, several_rises k f h ws (f ws c).next)

  -- a count stands before what it counts
  pub listed_rises : (f : Standing A) → Rises f → (ws : List ℕ) (c : Position) → c + 1 ≤ (listed f ws c).next
  unfolding listed
  listed_rises f h ws c = several_rises (word_at ws c) f h ws (c + 1)

  pub wide_rises : (width : ℕ) (f : List ℕ → Position → A) → Rises (wide width f)
  wide_rises width f ws c = omega arith

pub effects_rise : (ws : List ℕ) (c : Position) → c + 1 ≤ (effects_from ws c).next
effects_rise = listed_rises (wide effect_width effect_at) (wide_rises effect_width effect_at)

pub phi_rises : (ws : List ℕ) (c : Position) → c + place_width + 1 ≤ (phi_from ws c).next
unfolding phi_from
phi_rises ws c = listed_rises (wide operand_width operand_at) (wide_rises operand_width operand_at) ws (c + place_width)

pub places_rise : (ws : List ℕ) (c : Position) → c + 1 ≤ (places_from ws c).next
places_rise = listed_rises (wide place_width place_at) (wide_rises place_width place_at)

-- where the places of a list end
pub places_end : (ws : List ℕ) (c : Position) → (places_from ws c).next ≡ c + 1 + word_at ws c * place_width
unfolding listed
places_end ws c = several_wide place_width (word_at ws c) place_at ws (c + 1)

value_of_rises : (k : ℕ) → Rises (value_of k)
unfolding value_of
value_of_rises zero ws c = omega arith
value_of_rises (suc zero) ws c = omega arith
value_of_rises (suc (suc k)) ws c = omega arith

pub value_rises : (ws : List ℕ) (c : Position) → c + 1 ≤ (value_from ws c).next
value_rises ws c = value_of_rises (word_at ws c) ws (c + 1)

-- the parts of an instruction, one behind the other
pub record InstructionParts (ws : List ℕ) (c : Position) : Type 0 where
  pub operands : lvalues_at c + 1 ≤ operands_at ws c
  pub value : operands_at ws c + 1 ≤ value_at ws c
  pub effects : value_at ws c + 1 ≤ effects_at ws c
  pub next : effects_at ws c + 1 ≤ (instruction_from ws c).next

pub instruction_parts : (ws : List ℕ) (c : Position) → InstructionParts ws c
unfolding instruction_from
instruction_parts ws c = record {
  operands = places_rise ws (lvalues_at c);
  value = places_rise ws (operands_at ws c);
  effects = value_rises ws (value_at ws c);
  next = several_rises (present_count (word_at ws (effects_at ws c))) (wide effect_width effect_at) (wide_rises effect_width effect_at) ws (effects_at ws c + 1);
}

pub instruction_rises : (ws : List ℕ) (c : Position) → c + 2 ≤ (instruction_from ws c).next
instruction_rises ws c =
    let p : InstructionParts ws c = instruction_parts ws c in
    omega (arith, p.operands, p.value, p.effects, p.next)

terminal_of_rises : (k o : ℕ) (ws : List ℕ) (c : Position) → c + 1 ≤ (terminal_of k o ws c).next
unfolding terminal_of
terminal_of_rises zero o ws c = places_rise ws c
terminal_of_rises (suc zero) o ws c = omega (arith, effects_rise ws (c + place_width))
terminal_of_rises (suc (suc k)) o ws c = omega (arith, effects_rise ws c)

pub terminal_rises : (ws : List ℕ) (c : Position) → c + 3 ≤ (terminal_from ws c).next
unfolding terminal_from
terminal_rises ws c = omega (arith, terminal_of_rises (word_at ws c) (word_at ws (c + 1)) ws (c + 2))

-- what a Return has behind its order
pub return_rises : (ws : List ℕ) (c : Position) → word_at ws c ≡ 1 → c + 2 + place_width + 1 ≤ (terminal_from ws c).next
unfolding terminal_from terminal_of
return_rises ws c e = rw e (omega (arith, effects_rise ws (c + 2 + place_width)))

phi_follows : Rises phi_from
phi_follows ws c = omega (arith, phi_rises ws c)

instruction_follows : Rises instruction_from
instruction_follows ws c = omega (arith, instruction_rises ws c)

pub block_rises : (ws : List ℕ) (c : Position) → c + 1 ≤ (block_from ws c).next
unfolding block_from
block_rises ws c =
    let p : Position = (phis_from ws (c + 1)).next in
    let i : Position = (instructions_from ws p).next in
    omega (arith, listed_rises phi_from phi_follows ws (c + 1), listed_rises instruction_from instruction_follows ws p, terminal_rises ws i)

pub function_rises : (ws : List ℕ) (c : Position) → c + 1 ≤ (function_from ws c).next
unfolding function_from
function_rises ws c = omega (arith, listed_rises (wide diagnostic_width diagnostic_at) (wide_rises diagnostic_width diagnostic_at) ws c, places_rise ws (diagnostics_from ws c).next)

pub function_follows : Rises function_from
function_follows ws c = omega (arith, function_rises ws c)

block_follows : Rises block_from
block_follows ws c = omega (arith, block_rises ws c)

-- each section stands behind the one before it
pub record Follow (c : Position) (at : Sections) : Type 0 where
  pub identifiers : at.identifiers ≡ c + flags_width
  pub functions : at.identifiers + 1 ≤ at.functions
  pub params : at.functions + 1 ≤ at.params
  pub context : at.params + 1 ≤ at.context
  pub returns : at.context + 1 ≤ at.returns
  pub blocks : at.blocks ≡ at.returns + 1 + place_width
  pub end : at.blocks + 1 ≤ at.end

pub sections_follow : (ws : List ℕ) (c : Position) → Follow c (sections_from ws c)
unfolding sections_from
sections_follow ws c =
    let places = places_rise ws in
    record {
      identifiers = refl;
      functions = listed_rises (wide identifier_width identifier_at) (wide_rises identifier_width identifier_at) ws _;
      params = listed_rises function_from function_follows ws _;
      context = places _;
      returns = places _;
      blocks = refl;
      end = listed_rises block_from block_follows ws _;
    }
