-- Document 02, order 6: numbers as bytes, "with its number", in decimal; and the bytes of a plain text.
use Rattle.std.specs.Prelude.{ℕ, zero, suc, ◌+◌, ◌-◌, ◌*◌, ◌/◌, ◌%◌, ◌≤◌, ◌<◌, ◌≡◌, List, [], ◌∷◌, ◌++◌, length, get_or, ltb}
use Prim.Native.Char.{code}
use Prim.Native.String.{String, [] as no_text, ◌∷◌ as ◌then◌}
use Rattle.model.specs.Lists.{pick, Every}

-- the bytes of a text: a byte for each character, all of which are ASCII here
abbrev pub bytes : String → List ℕ
bytes no_text = []
bytes (c then t) = code c ∷ bytes t

-- the byte of the digit 0; those of 1 to 9 follow it
abbrev pub zero_digit : ℕ
zero_digit = 48

-- the digits of n, the most significant first: below ten one, else those of the tenth part and the last; so many at most
unfoldable pub digits_in : ℕ → ℕ → List ℕ
digits_in zero n = []
digits_in (suc k) n = pick (ltb n 10) ((zero_digit + n) ∷ []) (digits_in k (n / 10) ++ ((zero_digit + n % 10) ∷ []))

-- the decimal digits of n: no number has more of them than its value plus one
unfoldable pub digits : ℕ → List ℕ
digits n = digits_in (suc n) n

-- the number that digits are read as, after those that were read as n
abbrev pub read_from : ℕ → List ℕ → ℕ
read_from n [] = n
read_from n (d ∷ ds) = read_from (10 * n + (d - zero_digit)) ds

-- the number that they are read as
abbrev pub read_digits : List ℕ → ℕ
read_digits ds = read_from 0 ds

-- one of the ten
pub record IsDigit (d : ℕ) : Type 0 where
  pub least : zero_digit ≤ d
  pub most : d < zero_digit + 10

-- the digits of n are read as n, each is a digit, there is one at least, and the first of several is not 0
pub record ReadsBack (n : ℕ) : Type 0 where
  pub value : read_digits (digits n) ≡ n
  pub each : Every IsDigit (digits n)
  pub some : 0 < length (digits n)
  pub first : 1 < length (digits n) → zero_digit < get_or (digits n) 0 0
