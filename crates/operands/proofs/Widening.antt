-- What is below a number is below a greater one.
use Prim.Native.Nat.{ℕ, ◌≤◌}
use native.Mathlib.Omega.{arith}
use mathlib.Core.List.{List}
use Rattle.model.specs.Lists.{Every}
use Rattle.model.specs.Sheet.{InnerFunction, Place, Effect, Operand, Phi, InstructionValue, Plain, Function, StoreContext, Instruction, list_of, Terminal, Other, Return, MaybeThrow, Block}
use Rattle.model.specs.Ranges.{PlaceBelow, PlacesBelow, EffectBelow, PhiBelow, FunctionBelow, ValueBelow, InstructionBelow, TerminalBelow, BlockBelow}
use Rattle.model.proofs.Everywhere.{every_mem}

every_wider : {A : Type 0} (P Q : A → Type 0) → ((a : A) → P a → Q a) → (l : List A) → Every P l → Every Q l
every_wider P Q f l h = every_mem P Q l (λ a m p. f a p) h

module _ {n n' : ℕ} (h : n ≤ n') where
  place_wider : (p : Place) → PlaceBelow n p → PlaceBelow n' p
  place_wider p b = omega (arith, b, h)

  places_wider : (l : List Place) → PlacesBelow n l → PlacesBelow n' l
  places_wider = every_wider (PlaceBelow n) (PlaceBelow n') place_wider

  function_wider : (f : InnerFunction) → FunctionBelow n f → FunctionBelow n' f
  function_wider f b = (places_wider f.context b.0, b.1)

  phi_wider : (p : Phi) → PhiBelow n p → PhiBelow n' p
  phi_wider p b =
      (place_wider p.place b.0, every_wider (λ (o : Operand). PlaceBelow n o.place) (λ (o : Operand). PlaceBelow n' o.place) (λ o x. place_wider o.place x) p.operands b.1)

  pub functions_wider : (l : List InnerFunction) → Every (FunctionBelow n) l → Every (FunctionBelow n') l
  functions_wider = every_wider (FunctionBelow n) (FunctionBelow n') function_wider

  module _ (m : ℕ) where
    effect_wider : (e : Effect) → EffectBelow n m e → EffectBelow n' m e
    effect_wider e b = (place_wider e.first b.0, (λ q. place_wider e.second (b.1 q)), b.2)

    effects_wider : (l : List Effect) → Every (EffectBelow n m) l → Every (EffectBelow n' m) l
    effects_wider = every_wider (EffectBelow n m) (EffectBelow n' m) effect_wider

    value_wider : (v : InstructionValue) → ValueBelow n m v → ValueBelow n' m v
    value_wider Plain b = b
    value_wider (Function k) b = b
    value_wider (StoreContext x) b = omega (arith, b, h)

    instruction_wider : (i : Instruction) → InstructionBelow n m i → InstructionBelow n' m i
    instruction_wider i b = record {
      order = b.order;
      lvalue = place_wider i.lvalue b.lvalue;
      value_lvalues = places_wider i.value_lvalues b.value_lvalues;
      operands = places_wider i.operands b.operands;
      value = value_wider i.value b.value;
      effects = effects_wider (list_of i) b.effects;
    }

    terminal_wider : (t : Terminal) → TerminalBelow n m t → TerminalBelow n' m t
    terminal_wider (Other o ps) b = places_wider ps b
    terminal_wider (Return o p l) b = (place_wider p b.0, effects_wider l b.1)
    terminal_wider (MaybeThrow o l) b = effects_wider l b

    block_wider : (k : Block) → BlockBelow n m k → BlockBelow n' m k
    block_wider k b = (
      every_wider (PhiBelow n) (PhiBelow n') phi_wider k.phis b.0,
      every_wider (InstructionBelow n m) (InstructionBelow n' m) instruction_wider k.instructions b.1,
      (terminal_wider k.terminal b.2.0, b.2.1),
    )

    pub blocks_wider : (l : List Block) → Every (BlockBelow n m) l → Every (BlockBelow n' m) l
    blocks_wider = every_wider (BlockBelow n m) (BlockBelow n' m) block_wider
