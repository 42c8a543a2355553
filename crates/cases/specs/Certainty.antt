-- Document 02, order 8, "How sure a parameter's mutation is": small sheets, by which kind their parameters are reported, and that the order's conditions can be met. As rows of model's table.
use Rattle.std.specs.Prelude.{ℕ, ◌≡◌}
use mathlib.Core.List.{List, [], ◌∷◌, ◌++◌, Memᴰ}
use Rattle.model.specs.Sheet.{IdentifierId, EffectKind, MutateTransitive, Place, Sheet}
use Rattle.model.specs.Call.{IsSheet}
use Rattle.model.specs.Bench.{effects_are, Case}
use Rattle.model.specs.Small.{mark, effect, one, two, operand, phi, instruction, throwing, flags, block, block_of, whole, sheet, case}
use Rattle.model.specs.Demand3.{NoPhis}
use Rattle.model.specs.Certainty.{MutatedDefinitely, Reported, AllTransitive}

-- one instruction with these effects, on five identifiers with these parameters and returns 4
abbrev of_effects : List ℕ → List (List ℕ) → List ℕ
of_effects ps es = sheet 5 ps 4 (block 0 [] es ∷ [])

-- CreateFrom 0 into 1, Capture 1 into 2, Capture 2 into 3, MutateTransitive 3: back along two captures and a created-from
abbrev pub through_captures : List ℕ
through_captures = of_effects (0 ∷ []) (two 10 0 1 ∷ one 9 2 ∷ two 5 1 2 ∷ one 9 3 ∷ two 5 2 3 ∷ one 3 3 ∷ [])

-- MaybeAlias 0 into 1, Alias 1 into 2; Alias 0 into 3, MaybeAlias 3 into 2: a MaybeAlias on both ways to parameter 0, whichever comes first
abbrev maybe_on_both : List (List ℕ)
maybe_on_both = one 9 1 ∷ one 9 2 ∷ one 9 3 ∷ two 7 0 1 ∷ two 6 1 2 ∷ two 6 0 3 ∷ two 7 3 2 ∷ []

-- then MutateTransitive 2, and only after it Alias 0 into 2
abbrev pub alias_too_late : List ℕ
alias_too_late = of_effects (0 ∷ []) (maybe_on_both ++ (one 3 2 ∷ two 6 0 2 ∷ []))

-- the table: which kind reports parameter 0
unfoldable pub certainties : List Case
certainties =
    case through_captures (effects_are (one 3 0 ∷ one 9 4 ∷ []))
    ∷ case alias_too_late (effects_are (one 4 0 ∷ one 9 4 ∷ []))
    -- the Alias before the mutation
    ∷ case (of_effects (0 ∷ []) (maybe_on_both ++ (two 6 0 2 ∷ one 3 2 ∷ []))) (effects_are (one 3 0 ∷ one 9 4 ∷ []))
    -- the same relation by MaybeAlias and by Alias
    ∷ case (of_effects (0 ∷ []) (one 9 1 ∷ two 7 0 1 ∷ two 6 0 1 ∷ one 3 1 ∷ [])) (effects_are (one 3 0 ∷ one 9 4 ∷ []))
    -- forwards over a MaybeAlias; the mutation's own identifier needs no step
    ∷ case (of_effects (0 ∷ 1 ∷ []) (two 7 0 1 ∷ one 3 0 ∷ [])) (effects_are (one 3 0 ∷ one 4 1 ∷ one 9 4 ∷ effect 5 (mark 1) (mark 0) 0 ∷ effect 5 (mark 0) (mark 1) 0 ∷ []))
    -- a parameter that is listed twice and is context as well: an effect for each place
    ∷ case (whole (flags 0 1) 2 [] (0 ∷ 0 ∷ []) (0 ∷ []) 1 (block 0 [] (one 4 0 ∷ one 3 0 ∷ []) ∷ [])) (effects_are (one 3 0 ∷ one 3 0 ∷ one 3 0 ∷ one 9 1 ∷ []))
    -- kind 1 in a terminal is no mutation
    ∷ case (sheet 2 (0 ∷ []) 1 (block_of 0 [] (instruction 1 (one 4 0 ∷ []) ∷ []) (throwing 2 (one 1 0 ∷ [])) ∷ [])) (effects_are (one 4 0 ∷ one 9 1 ∷ []))
    -- a parameter that is returns as well
    ∷ case (sheet 1 (0 ∷ []) 0 (block 0 [] (one 3 0 ∷ []) ∷ [])) (effects_are (one 3 0 ∷ one 9 0 ∷ []))
    -- created again after the mutation: it is still led to
    ∷ case (of_effects (0 ∷ []) (one 9 1 ∷ two 6 0 1 ∷ one 3 1 ∷ one 9 0 ∷ [])) (effects_are (one 3 0 ∷ one 9 4 ∷ []))
    ∷ []

-- a sheet that the order is about, whose parameter x is reported by this kind
pub record Meets (ws : List ℕ) (k : EffectKind) (x : IdentifierId) : Type 0 where
  pub tree : Sheet
  pub accepted : IsSheet ws tree
  pub no_phi : NoPhis tree.blocks
  pub transitive : AllTransitive tree
  pub param : Place
  pub listed : Memᴰ param tree.params
  pub named : param.identifier ≡ x
  pub reported : Reported k tree x

-- without "no phi": Alias 0 into 2, phi 3 of 0 and 1, Alias 3 into 2, MutateTransitive 0. The phi is taken forwards, and then not backwards
abbrev pub with_phi : List ℕ
with_phi =
    sheet 5 (0 ∷ 1 ∷ 2 ∷ []) 4
    (block 0 [] (two 6 0 2 ∷ []) ∷ block 1 [] [] ∷ block 2 (phi 3 (operand 0 0 ∷ operand 1 1 ∷ []) ∷ []) (two 6 3 2 ∷ one 3 0 ∷ []) ∷ [])

-- without "every mutation transitive": CreateFrom 0 into 0, Capture 1 into 0, Mutate 0. It is transitive only after a step, at an identifier that was accepted before
abbrev pub with_local : List ℕ
with_local = of_effects (0 ∷ 1 ∷ []) (two 10 0 0 ∷ two 5 1 0 ∷ one 1 0 ∷ [])

-- an accepted sheet where a Definite mutation leads to x without a maybe-alias step, and no kind 3 reports it
pub record Misses (ws : List ℕ) (x : IdentifierId) : Type 0 where
  pub tree : Sheet
  pub accepted : IsSheet ws tree
  pub definitely : MutatedDefinitely tree x
  pub unreported : ¬ Reported MutateTransitive tree x
