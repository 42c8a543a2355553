-- Whether refusal 10 applies to an accepted sheet is what is told of it.
use Prim.Native.Nat.{ℕ, ◌+◌}
use native.Mathlib.Omega.{arith}
use mathlib.Core.Path.{◌≡◌, ◌∙◌, refl, sym, ap}
use mathlib.Core.Bool.{Bool, true, false, ◌||◌}
use mathlib.Core.List.{List, [], ◌∷◌}
use lib.Dec.{ltb}
use borrow.Author.Tests.{lt-ltb}
use Rattle.model.specs.Lists.{tally, one_if}
use Rattle.model.specs.Sheet.{EffectKind, Freeze, Mutate, MutateConditionally, MutateTransitive, MutateTransitiveConditionally, Capture, Alias, MaybeAlias, Assign, Create, CreateFrom, ImmutableCapture, Apply, CreateFunction, MutateFrozen, MutateGlobal, Impure, Render, Effect, Block, Sheet}
use Rattle.model.specs.Effects.{Role, relation, mutation, render, diagnosis, nothing, row_of, is_apply, any_apply}
use Rattle.model.specs.Totals.{instruction_effects}
use Rattle.model.specs.Call.{read, IsSheet, applies}
use Rattle.reading.specs.Judging.{Told}
use Rattle.reading.specs.Whole.{told, acceptance, judgement_of}
use Rattle.reading.proofs.Accepted.{accepted_told}
use Rattle.reading.proofs.EffectTallies.{tally_in, tally_effects}

-- a test of which only effects that are for nothing are asked
abbrev pub if_nothing : Role → Bool → Bool
if_nothing relation b = false
if_nothing mutation b = false
if_nothing render b = false
if_nothing diagnosis b = false
if_nothing nothing b = b

-- Apply is for nothing
pub apply_role : (k : EffectKind) → if_nothing (row_of k).role (is_apply k) ≡ is_apply k
unfolding row_of
apply_role Freeze = refl
apply_role Mutate = refl
apply_role MutateConditionally = refl
apply_role MutateTransitive = refl
apply_role MutateTransitiveConditionally = refl
apply_role Capture = refl
apply_role Alias = refl
apply_role MaybeAlias = refl
apply_role Assign = refl
apply_role Create = refl
apply_role CreateFrom = refl
apply_role ImmutableCapture = refl
apply_role Apply = refl
apply_role CreateFunction = refl
apply_role MutateFrozen = refl
apply_role MutateGlobal = refl
apply_role Impure = refl
apply_role Render = refl

-- one for an effect that is Apply
abbrev pub one_apply : Effect → ℕ
one_apply e = one_if (is_apply e.kind)

some_apply : (l : List Effect) → any_apply l ≡ ltb 0 (tally one_apply l)
some_apply [] = refl
some_apply (e ∷ l) = go (is_apply e.kind) (tally one_apply l) (some_apply l)
  where
    go : (b : Bool) (n : ℕ) → any_apply l ≡ ltb 0 n → b || any_apply l ≡ ltb 0 (one_if b + n)
    go true n h = sym (lt-ltb 0 (1 + n) (omega arith))
    go false n h = let e : n ≡ 0 + n = omega arith in h ∙ ap (ltb 0) e

-- how many there are, block by block
abbrev pub count_applies : Sheet → ℕ
count_applies s = tally (λ (b : Block). tally_in one_apply b.instructions) s.blocks

pub applies_counted : (s : Sheet) → applies s ≡ ltb 0 (count_applies s)
unfolding applies
applies_counted s = some_apply (instruction_effects s) ∙ ap (ltb 0) (tally_effects one_apply s)

one_told : (b : Bool) → b ≡ ltb 0 (one_if b)
one_told true = refl
one_told false = refl

told-applies : (s : Sheet) → applies s ≡ ltb 0 (told s).applies
unfolding told
told-applies s = one_told (applies s)

pub accepted_applies : (ws : List ℕ) (t : Told) → judgement_of (read ws) ≡ acceptance t → (s : Sheet) → IsSheet ws s → applies s ≡ ltb 0 t.applies
accepted_applies ws t e s is = told-applies s ∙ ap (λ (u : Told). ltb 0 u.applies) (accepted_told ws t e s is)
