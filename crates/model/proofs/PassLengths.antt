-- How many places the pass over operands gives of instructions.
use Prim.Native.Nat.{ℕ, ◌+◌}
use native.Mathlib.Omega.{arith}
use mathlib.Core.Path.{◌≡◌, refl, ◌∙◌}
use mathlib.Core.Bool.{Bool, true, false}
use mathlib.Core.List.{List, [], ◌∷◌, map}
use lib.ListN.{length, get_or, length-append, length-map, length-set}
use Rattle.model.specs.Lists.{pick, each, tally}
use Rattle.model.specs.Sheet.{InnerFunction, Place, InstructionValue, Plain, Function, StoreContext, Instruction, is_listed, lvalues_of}
use Rattle.model.specs.Traits.{read_effect, conditionally_mutate_effect}
use Rattle.model.specs.Marks.{Mark, with_mark}
use Rattle.model.specs.Operands.{Pass, instruction_marks, instruction_places, context_marked, instruction}

-- an instruction's places: its lvalues and its operands
abbrev pub place_count : Instruction → ℕ
place_count i = length (lvalues_of i) + length i.operands

places_counted : (ms : List Mark) (i : Instruction) → length (instruction_places ms i) ≡ place_count i
places_counted ms i =
    let ls : List Place = map (with_mark ms conditionally_mutate_effect) (lvalues_of i) in
    omega (arith, length-append ls (map (with_mark ms read_effect) i.operands), length-map (lvalues_of i) (with_mark ms conditionally_mutate_effect), length-map i.operands (with_mark ms read_effect))

contexts_counted : (ms : List Mark) (v : InstructionValue) (cs : List (List Place)) → length (context_marked ms v cs) ≡ length cs
contexts_counted ms Plain cs = refl
contexts_counted ms (Function k) cs = length-set cs k (map (with_mark ms read_effect) (get_or cs k []))
contexts_counted ms (StoreContext x) cs = refl

listed_contexts : (b : Bool) (ms : List Mark) (v : InstructionValue) (cs : List (List Place)) → length (pick b (context_marked ms v cs) cs) ≡ length cs
listed_contexts true ms v cs = contexts_counted ms v cs
listed_contexts false ms v cs = refl

-- what a list of instructions adds: places of instructions alone
pub record Added (is : List Instruction) (p q : Pass) : Type 0 where
  pub instructions : length q.instructions ≡ length p.instructions + tally place_count is
  pub phis : q.phis ≡ p.phis
  pub terminals : q.terminals ≡ p.terminals
  pub contexts : length q.contexts ≡ length p.contexts

pub instructions_added : (fs : List InnerFunction) (is : List Instruction) (p : Pass) → Added is p (each (instruction fs) is p)
unfolding instruction
instructions_added fs [] p = record { instructions = omega arith; phis = refl; terminals = refl; contexts = refl }
instructions_added fs (i ∷ is) p =
    let ms : List Mark = instruction_marks i p.ranges in
    let a = instructions_added fs is (instruction fs i p) in
    record {
      instructions = omega (arith, a.instructions, length-append p.instructions (instruction_places ms i), places_counted ms i);
      phis = a.phis;
      terminals = a.terminals;
      contexts = a.contexts ∙ listed_contexts (is_listed i) ms i.value p.contexts;
    }
