-- What a word of the queue means: an entry of the walk of document 01.
use Rattle.std.specs.Prelude.{ℕ, zero, suc, ◌/◌, ◌%◌, eqb}
use mathlib.Core.List.{List, [], map, reverse_aux}
use Rattle.model.specs.Walks.{Direction, backwards, forwards, Item}
use Rattle.workspace.specs.Pending.{kind_of}

-- 0 is backwards
abbrev pub direction_of : ℕ → Direction
direction_of zero = backwards
direction_of (suc k) = forwards

-- an entry by its word
unfoldable pub item_of : ℕ → Item
item_of w = record { identifier = w % 512; direction = direction_of (w / 1024 % 2); transitive = eqb (w / 512 % 2) 1; kind = kind_of (w / 2048 % 2) }

-- the queue by its words, of which the last was pushed last
unfoldable pub queue_of : List ℕ → List Item
queue_of l = reverse_aux (map item_of l) []
