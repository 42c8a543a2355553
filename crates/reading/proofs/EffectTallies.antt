-- What the effects of instructions weigh: block by block, or all at once.
use Prim.Native.Nat.{ℕ}
use native.Mathlib.Omega.{arith}
use mathlib.Core.Path.{◌≡◌, ◌∙◌, refl}
use mathlib.Core.List.{List, [], ◌∷◌}
use Rattle.model.specs.Lists.{gather, tally}
use Rattle.model.specs.Sheet.{Effect, Instruction, list_of, Block, Sheet}
use Rattle.model.specs.Totals.{instruction_effects}
use Rattle.model.proofs.Stored.{tally_append}

module _ {A B : Type 0} (f : B → ℕ) (g : A → List B) where
  tally_gather : (l : List A) → tally f (gather g l) ≡ tally (λ (a : A). tally f (g a)) l
  tally_gather [] = refl
  tally_gather (a ∷ l) = omega (arith, tally_append f (g a) (gather g l), tally_gather l)

-- those of a list of instructions
abbrev pub tally_in : (Effect → ℕ) → List Instruction → ℕ
tally_in f = tally (λ (i : Instruction). tally f (list_of i))

pub tally_effects : (f : Effect → ℕ) (s : Sheet) → tally f (instruction_effects s) ≡ tally (λ (b : Block). tally_in f b.instructions) s.blocks
unfolding instruction_effects
tally_effects f s =
    tally_gather f (λ (b : Block). gather list_of b.instructions) s.blocks
    ∙ (λ j. tally (λ (b : Block). tally_gather f list_of b.instructions j) s.blocks)
