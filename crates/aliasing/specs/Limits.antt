-- What a record's word has room for.
use Rattle.std.specs.Prelude.{ℕ}

-- a record's word has room for indexes below this: it holds 32 times the largest
abbrev pub index_room : ℕ
index_room = 134217728
