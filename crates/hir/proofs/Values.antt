-- An instruction's value by its word, and the parts of an instruction by the lists before them.
use Prim.Native.Nat.{ℕ, zero, suc, ◌+◌, ◌*◌, ◌≤◌}
use native.Mathlib.Omega.{arith}
use mathlib.Core.Path.{◌≡◌, refl, subst}
use mathlib.Core.Bool.{Bool}
use mathlib.Core.List.{List}
use lib.ListN.{length}
use Rattle.model.specs.Limits.{place_width}
use Rattle.model.specs.Sheet.{Plain, Function, StoreContext}
use Rattle.model.specs.Reading.{Position}
use Rattle.hir.specs.Words.{word_at, places_from, value_of, value_from, lvalues_at, operands_at, value_at, effects_at, instruction_from}
use Rattle.hir.specs.Parts.{ListAt, ValueAt, EffectsAt}
use Rattle.hir.specs.declared.at.List.{List as Listed}
use Rattle.hir.specs.declared.at.Value.{Value}
use Rattle.hir.proofs.Standing.{part}
use Rattle.hir.proofs.Widths.{places_end, InstructionParts, instruction_parts}

module _ (ws : List ℕ) (c : Position) where
  pub value_zero : word_at ws c ≡ 0 → value_from ws c ≡ part Plain (c + 1)
  unfolding value_of
  value_zero e = rw e

  pub value-one : word_at ws c ≡ 1 → value_from ws c ≡ part (Function (word_at ws (c + 1))) (c + 1 + 1)
  unfolding value_of
  value-one e = rw e

  pub value_more : (Unit {0} × ¬ (word_at ws c ≡ 0)) × ¬ (word_at ws c ≡ 1) → value_from ws c ≡ part (StoreContext (word_at ws (c + 1))) (c + 1 + 1)
  unfolding value_of
  value_more h = go (word_at ws c) h.0.1 h.1
    where
      go : (w : ℕ) → ¬ (w ≡ 0) → ¬ (w ≡ 1) → value_of w ws (c + 1) ≡ part (StoreContext (word_at ws (c + 1))) (c + 1 + 1)
      go zero a b = absurd (a refl)
      go (suc zero) a b = absurd (b refl)
      go (suc (suc w)) a b = refl

-- a list, a value and effects by another name of their position
pub list_as : {ws : List ℕ} {c d : Position} {l : Listed} → ListAt ws c l → c ≡ d → ListAt ws d l
list_as {ws} {l = l} k e = subst (λ (x : Position). ListAt ws x l) e k

pub value_as : {ws : List ℕ} {c d : Position} {v : Value} → ValueAt ws c v → c ≡ d → ValueAt ws d v
value_as {ws} {v = v} k e = subst (λ (x : Position). ValueAt ws x v) e k

pub effects_as : {ws : List ℕ} {c d : Position} {b : Bool} {l : Listed} → EffectsAt ws c b l → c ≡ d → EffectsAt ws d b l
effects_as {ws} {b = b} {l} k e = subst (λ (x : Position). EffectsAt ws x b l) e k

-- where the places of a list end
pub list_end : (ws : List ℕ) (c : Position) {l : Listed} → ListAt ws c l → l.first + place_width * l.count ≡ (places_from ws c).next
list_end ws c k = omega (arith, places_end ws c, k.first, k.count)

module _ (ws : List ℕ) (c : Position) (inside : (instruction_from ws c).next ≤ length ws) where
  -- each part of an instruction stands in the words
  pub lvalues_inside : lvalues_at c + 1 ≤ length ws
  lvalues_inside = let p : InstructionParts ws c = instruction_parts ws c in omega (arith, p.operands, p.value, p.effects, p.next, inside)

  pub operands_inside : operands_at ws c + 1 ≤ length ws
  operands_inside = let p : InstructionParts ws c = instruction_parts ws c in omega (arith, p.value, p.effects, p.next, inside)

  pub value_inside : value_at ws c + 1 ≤ length ws
  value_inside = let p : InstructionParts ws c = instruction_parts ws c in omega (arith, p.effects, p.next, inside)

  pub effects_inside : effects_at ws c + 1 ≤ length ws
  effects_inside = let p : InstructionParts ws c = instruction_parts ws c in omega (arith, p.next, inside)
