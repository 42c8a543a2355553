-- The graph's part of the workspace, as words: a value for each node, and its forward edges and its entries in rows.
use Rattle.std.specs.Prelude.{ℕ, ◌+◌, ◌-◌, ◌≤◌, ◌<◌, List, ◌≡◌, length, get_or, take, drop}
use Rattle.std.proofs.Math.Seq.{slice}
use Rattle.model.specs.Limits.{most_identifiers, most_relations}
use Rattle.workspace.specs.Layout.{LEAST, VALUE, FBOUND, FEDGE, BBOUND, BENTRY, QUEUE}

-- the words of the rows; what follows counts from their first word
unfoldable pub rows_of : List ℕ → List ℕ
rows_of ws = slice VALUE QUEUE ws

-- where the bounds of the forward edges stand in them
abbrev pub fbounds : ℕ
fbounds = FBOUND - VALUE

-- the forward edges
abbrev pub fedges : ℕ
fedges = FEDGE - VALUE

-- the bounds of the entries
abbrev pub bbounds : ℕ
bbounds = BBOUND - VALUE

-- the entries
abbrev pub bentries : ℕ
bentries = BENTRY - VALUE

-- how many lists of entries there are, four for each identifier
abbrev pub most_lists : ℕ
most_lists = 2048

-- the value of x
unfoldable pub value : List ℕ → ℕ → ℕ
value g x = get_or g x 0

-- where the forward edges of k begin, counted from the first row; the bound of a row is how many words there are from it on
unfoldable pub fb : List ℕ → ℕ → ℕ
fb g k = get_or g fbounds 0 - get_or g (fbounds + k) 0

-- where the entries of row k begin; node x has the rows 4x to 4x + 3
unfoldable pub bb : List ℕ → ℕ → ℕ
bb g k = get_or g bbounds 0 - get_or g (bbounds + k) 0

-- the forward edges of x
unfoldable pub row_f : List ℕ → ℕ → List ℕ
row_f g x = slice (fedges + fb g x) (fedges + fb g (x + 1)) g

-- the entries of row k
unfoldable pub row_b : List ℕ → ℕ → List ℕ
row_b g k = slice (bentries + bb g k) (bentries + bb g (k + 1)) g

-- no bound is above the first; the rows begin in order, and no more than most_relations words are in rows
pub record Good (g : List ℕ) : Type 0 where
  pub f_in : (k : ℕ) → k ≤ most_identifiers → get_or g (fbounds + k) 0 ≤ get_or g fbounds 0
  pub f_up : (k : ℕ) → k < most_identifiers → fb g k ≤ fb g (k + 1)
  pub f_top : (k : ℕ) → k ≤ most_identifiers → fb g k ≤ most_relations
  pub b_in : (k : ℕ) → k ≤ most_lists → get_or g (bbounds + k) 0 ≤ get_or g bbounds 0
  pub b_up : (k : ℕ) → k < most_lists → bb g k ≤ bb g (k + 1)
  pub b_top : (k : ℕ) → k ≤ most_lists → bb g k ≤ most_relations

-- what the walks ask of the workspace
pub record Indexed (ws : List ℕ) : Type 0 where
  pub size : LEAST ≤ length ws
  pub good : Good (rows_of ws)

-- words from b up to e may have changed, the others not
pub record Kept (b e : ℕ) (ws ws' : List ℕ) : Type 0 where
  pub low : take b ws' ≡ take b ws
  pub high : drop e ws' ≡ drop e ws
  pub same : length ws' ≡ length ws
