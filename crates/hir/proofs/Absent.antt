-- An instruction's effect list: it is there, or absent.
use Prim.Native.Nat.{ℕ, ◌+◌}
use mathlib.Core.Path.{◌≡◌, refl, sym, ap, ◌∙◌}
use mathlib.Core.Bool.{Bool, true, false}
use mathlib.Core.List.{List}
use mathlib.Core.Option.{Option, none, some}
use Rattle.model.specs.Limits.{effect_width}
use Rattle.model.specs.Lists.{pick}
use Rattle.model.specs.Sheet.{Effect, EffectList, present}
use Rattle.model.specs.Reading.{Position}
use Rattle.hir.specs.Words.{Part, Standing, word_at, wide, effect_at, several, listed, effects_from, counts, present_count, present_from, listed_if, list_from}
use Rattle.hir.specs.Parts.{EffectsAt}
use Rattle.hir.specs.declared.at.List.{List as Listed}

-- an effect
abbrev one_effect : Standing Effect
one_effect = wide effect_width effect_at

module _ (ws : List ℕ) (c : Position) where
  -- by whether the count counts
  abbrev effects_by : Bool → Part EffectList
  effects_by b = several (pick b (word_at ws c) 0) one_effect ws (c + 1)

  abbrev list_by : Bool → Part (Option EffectList)
  list_by b = record { what = listed_if b (effects_by b).what; next = (effects_by b).next }

  pub list_present : counts (word_at ws c) ≡ true → list_from ws c ≡ record { what = some (effects_from ws c).what; next = (effects_from ws c).next }
  unfolding listed
  list_present e = ap list_by e

  pub list_absent : counts (word_at ws c) ≡ false → list_from ws c ≡ record { what = none; next = c + 1 }
  unfolding several
  list_absent e = ap list_by e

  -- an absent list has no effects
  pub present_list : present (list_from ws c).what ≡ (present_from ws c).what
  unfolding several
  present_list = go (counts (word_at ws c))
    where
      go : (b : Bool) → present (list_by b).what ≡ (effects_by b).what
      go true = refl
      go false = refl

-- the effects that were found
pub effects_are_lem : (ws : List ℕ) (c : Position) {b : Bool} {l : Listed} → EffectsAt ws c b l → present_from ws c ≡ several l.count one_effect ws l.first
effects_are_lem ws c {l = l} h = sym (ap (λ (k : ℕ). several k one_effect ws l.first) h.count ∙ ap (several (present_count (word_at ws c)) one_effect ws) h.first)
