-- How many entries a walk can still push: it bounds the queue.
use Rattle.std.specs.Prelude.{ℕ, zero, suc, ◌+◌, List, get_or}
use Rattle.aliasing.specs.Pushes.{deg}

-- what an identifier that was accepted at level z, and can push d entries at once, can still push
abbrev pub left : ℕ → ℕ → ℕ
left zero d = d + d
left (suc zero) d = d
left (suc (suc z)) d = 0

-- the same of the first n identifiers together
unfoldable pub phi : List ℕ → List ℕ → ℕ → ℕ
phi seen g zero = 0
phi seen g (suc n) = left (get_or seen n 0) (deg g n) + phi seen g n
