-- The words of a file, one by one: how many there are, and of which bytes each is made.
use Prim.Native.Nat.{ℕ, zero, suc, ◌+◌, ◌*◌, ◌/◌}
use native.Mathlib.Omega.{arith}
use mathlib.Core.Path.{◌≡◌, refl, ap, ◌∙◌}
use mathlib.Core.List.{List, [], ◌∷◌}
use lib.ListN.{length, get_or, drop}
use lib.Seq.{get_or-drop}
use Rattle.model.specs.Files.{file_word, file_words}

-- so many words hold n bytes
pub file_length : (bs : List ℕ) → length (file_words bs) ≡ (length bs + 3) / 4
unfolding file_words
file_length [] = refl
file_length (a ∷ []) = refl
file_length (a ∷ b ∷ []) = refl
file_length (a ∷ b ∷ c ∷ []) = refl
file_length (a ∷ b ∷ c ∷ d ∷ bs) = let e : length (file_words bs) ≡ (length bs + 3) / 4 = file_length bs in omega arith

-- a byte that comes four later
later : (bs : List ℕ) (i k : ℕ) → get_or (drop 4 bs) (4 * i + k) 0 ≡ get_or bs (4 * suc i + k) 0
later bs i k =
    let e : 4 + (4 * i + k) ≡ 4 * suc i + k = omega arith
    in get_or-drop 4 bs (4 * i + k) 0 ∙ ap (λ (n : ℕ). get_or bs n 0) e

-- the words after the first are those of the bytes after the fourth
after_first : (bs : List ℕ) (i : ℕ) → get_or (file_words bs) (suc i) 0 ≡ get_or (file_words (drop 4 bs)) i 0
unfolding file_words
after_first [] i = refl
after_first (a ∷ []) i = refl
after_first (a ∷ b ∷ []) i = refl
after_first (a ∷ b ∷ c ∷ []) i = refl
after_first (a ∷ b ∷ c ∷ d ∷ bs) i = refl

-- word i is made of four bytes; where there is none it is 0
pub file_word_lem : (bs : List ℕ) (i : ℕ) → get_or (file_words bs) i 0 ≡ file_word (get_or bs (4 * i + 0) 0) (get_or bs (4 * i + 1) 0) (get_or bs (4 * i + 2) 0) (get_or bs (4 * i + 3) 0)
unfolding file_words
file_word_lem [] zero = refl
file_word_lem (a ∷ []) zero = refl
file_word_lem (a ∷ b ∷ []) zero = refl
file_word_lem (a ∷ b ∷ c ∷ []) zero = refl
file_word_lem (a ∷ b ∷ c ∷ d ∷ bs) zero = refl
file_word_lem bs (suc i) = after_first bs i ∙ file_word_lem (drop 4 bs) i ∙ simp (later bs i)
