-- The traits word: its parts, put together and taken apart again, and its parts by a comparison and a subtraction.
use Prim.Native.Nat.{ℕ, suc, ◌+◌, ◌-◌, ◌%◌, ◌≤◌, ◌<◌}
use native.Mathlib.Omega.{arith}
use mathlib.Core.Path.{◌≡◌}
use mathlib.Core.Bool.{Bool, true, false}
use borrow.Author.Tests.{le-leb, lt-leb}
use Rattle.model.specs.Limits.{most_traits}
use Rattle.model.specs.Traits.{reactive_traits, effect_of, reactive_of, traits_word}

pub traits_few : (e : ℕ) (r : Bool) → e < reactive_traits → traits_word e r ≤ most_traits
unfolding traits_word
traits_few e true h = omega (arith, h)
traits_few e false h = omega (arith, h)

pub effect_of_traits : (e : ℕ) (r : Bool) → e < reactive_traits → effect_of (traits_word e r) ≡ e
unfolding effect_of traits_word
effect_of_traits e true h = omega (arith, h)
effect_of_traits e false h = omega (arith, h)

pub reactive_of_traits : (e : ℕ) (r : Bool) → e < reactive_traits → reactive_of (traits_word e r) ≡ r
unfolding reactive_of traits_word
reactive_of_traits e true h = le-leb reactive_traits (e + reactive_traits) (omega arith)
reactive_of_traits e false h = lt-leb reactive_traits (e + 0) (omega (arith, h))

-- there are eight positions
pub effect-below : (t : ℕ) → effect_of t < reactive_traits
unfolding effect_of
effect-below t = omega arith

-- below 8 the word is the effect's position
pub effect-plain : (t : ℕ) → t < reactive_traits → effect_of t ≡ t
unfolding effect_of
effect-plain t h = omega (arith, h)

-- from 8 on the position is 8 less
pub effect_reactive : (t : ℕ) → reactive_traits ≤ t → t ≤ most_traits → effect_of t ≡ t - reactive_traits
unfolding effect_of
effect_reactive t h k = omega (arith, h, k)

-- no more than the lowest four bits say which effect it is
pub effect-low : (w : ℕ) → effect_of (w % suc most_traits) ≡ effect_of w
unfolding effect_of
effect-low w = omega arith
