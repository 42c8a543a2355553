-- That a block has come matters to none of its instructions.
use mathlib.Core.Path.{◌≡◌, refl, ap, ◌∙◌}
use mathlib.Core.List.{List, [], ◌∷◌}
use Rattle.model.specs.Lists.{each}
use Rattle.model.specs.Sheet.{BlockId, EvaluationOrder, EffectKind, Freeze, Mutate, MutateConditionally, MutateTransitive, MutateTransitiveConditionally, Capture, Alias, MaybeAlias, Assign, Create, CreateFrom, ImmutableCapture, Apply, CreateFunction, MutateFrozen, MutateGlobal, Impure, Render, Effect, Instruction, list_of}
use Rattle.model.specs.Built.{Built, comes}
use Rattle.model.specs.Building.{instruction_effect, instruction}

module _ (n : BlockId) where
  each_comes : {A : Type 0} (f : A → Built → Built) → ((a : A) (b : Built) → f a (comes n b) ≡ comes n (f a b)) → (l : List A) (b : Built) → each f l (comes n b) ≡ comes n (each f l b)
  each_comes f h [] b = refl
  each_comes f h (a ∷ l) b = ap (each f l) (h a b) ∙ each_comes f h l (f a b)

  effect-comes : (k : EffectKind) (o : EvaluationOrder) (e : Effect) (b : Built) → instruction_effect k o e (comes n b) ≡ comes n (instruction_effect k o e b)
  unfolding instruction_effect
  effect-comes Freeze o e b = refl
  effect-comes Mutate o e b = refl
  effect-comes MutateConditionally o e b = refl
  effect-comes MutateTransitive o e b = refl
  effect-comes MutateTransitiveConditionally o e b = refl
  effect-comes Capture o e b = refl
  effect-comes Alias o e b = refl
  effect-comes MaybeAlias o e b = refl
  effect-comes Assign o e b = refl
  effect-comes Create o e b = refl
  effect-comes CreateFrom o e b = refl
  effect-comes ImmutableCapture o e b = refl
  effect-comes Apply o e b = refl
  effect-comes CreateFunction o e b = refl
  effect-comes MutateFrozen o e b = refl
  effect-comes MutateGlobal o e b = refl
  effect-comes Impure o e b = refl
  effect-comes Render o e b = refl

  instruction-comes : (i : Instruction) (b : Built) → instruction i (comes n b) ≡ comes n (instruction i b)
  unfolding instruction
  instruction-comes i b = each_comes (λ (e : Effect). instruction_effect e.kind i.order e) (λ e. effect-comes e.kind i.order e) (list_of i) b

  pub instructions_come : (l : List Instruction) (b : Built) → each instruction l (comes n b) ≡ comes n (each instruction l b)
  instructions_come = each_comes instruction instruction-comes
