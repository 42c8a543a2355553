-- The tally of what is counted while reading: whether a total was passed, and what is asked of it.
use Prim.Native.Nat.{ℕ}
use mathlib.Core.Path.{◌≡◌, ap}
use mathlib.Core.Bool.{Bool, true, false}
use mathlib.Core.List.{List}
use Rattle.model.specs.Lists.{pick}
use Rattle.model.specs.Reading.{Position, got, refused}
use Rattle.model.specs.Totals.{Totals, over}
use Rattle.reading.specs.Judging.{Told, over_told, Tally, within, passed, standing, ask_tally}

-- both totals are those
abbrev pub Matches : Told → Totals → Type 0
Matches t u = (t.mutations ≡ u.mutations) × (t.renders ≡ u.renders)

-- so both are over a limit, or neither
pub told_over : (t : Told) (u : Totals) → Matches t u → over_told t ≡ over u
unfolding over_told over
told_over t u e = rw (e.0, e.1)

module _ (t : Told) where
  pub standing_within : over_told t ≡ false → standing t ≡ within t
  unfolding standing
  standing_within o = ap (λ (b : Bool). pick b passed (within t)) o

  pub standing_passed : over_told t ≡ true → standing t ≡ passed
  unfolding standing
  standing_passed o = ap (λ (b : Bool). pick b passed (within t)) o

  -- what is asked at an effect
  pub asked_on : (ws : List ℕ) (c : Position) → over_told t ≡ false → ask_tally (standing t) ws c ≡ got tt c
  asked_on ws c o = ap (λ (y : Tally). ask_tally y ws c) (standing_within o)

  pub asked_off : (ws : List ℕ) (c : Position) → over_told t ≡ true → ask_tally (standing t) ws c ≡ refused 8
  asked_off ws c o = ap (λ (y : Tally). ask_tally y ws c) (standing_passed o)
