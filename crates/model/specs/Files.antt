-- Document 01, "The sheet": "In a file a word is four bytes, lowest first"; "The answer": "a cut last word is filled up with zeros".
-- Left out: where the bytes come from.
use Rattle.std.specs.Prelude.{ℕ, ◌+◌, ◌*◌, List, [], ◌∷◌}

-- the word of four bytes, lowest first
abbrev pub file_word : ℕ → ℕ → ℕ → ℕ → ℕ
file_word a b c d = a + 256 * b + 65536 * c + 16777216 * d

-- the words of a file's bytes, the last one filled up with zeros
unfoldable pub file_words : List ℕ → List ℕ
file_words [] = []
file_words (a ∷ []) = file_word a 0 0 0 ∷ []
file_words (a ∷ b ∷ []) = file_word a b 0 0 ∷ []
file_words (a ∷ b ∷ c ∷ []) = file_word a b c 0 ∷ []
file_words (a ∷ b ∷ c ∷ d ∷ bytes) = file_word a b c d ∷ file_words bytes
