-- What stands in a buffer after the words of a file were loaded into it.
use Rattle.std.specs.Prelude.{ℕ, min, ◌≡◌, List, ◌++◌, length, take, drop}
use Rattle.model.specs.Files.{file_words}

-- r words of a file of these bytes were loaded
pub record Loads (bytes words : List ℕ) (r : ℕ) (words' : List ℕ) : Type 0 where
  -- all of them, or as many as there is room for
  pub count : r ≡ min (length (file_words bytes)) (length words)
  -- they are the buffer's first ones; the others are as before
  pub loaded : words' ≡ take r (file_words bytes) ++ drop r words
