-- The decimal digits: the two equations by which a reader knows them, how many there are, and that they are read back.
use Prim.Native.Nat.{ℕ, zero, suc, ◌+◌, ◌-◌, ◌*◌, ◌/◌, ◌%◌, ◌≤◌, ◌<◌}
use native.Mathlib.Omega.{arith}
use mathlib.Core.Bool.{Bool, true, false}
use mathlib.Core.Path.{◌≡◌, refl, sym, ap, subst, ◌∙◌}
use mathlib.Core.List.{List, [], ◌∷◌, ◌++◌}
use lib.ListN.{length, get_or, length-append, get_or-append}
use lib.Dec.{ltb}
use borrow.Author.Tests.{lt-ltb, le-ltb, ltb-true, ltb-false}
use Rattle.model.specs.Lists.{Every}
use Rattle.model.specs.Digits.{zero_digit, digits_in, digits, read_from, read_digits, IsDigit, ReadsBack}

-- ---- with so many digits at most: below ten one
few : (k n : ℕ) → n < 10 → digits_in (suc k) n ≡ (zero_digit + n) ∷ []
unfolding digits_in
few k n h = rw (lt-ltb n 10 h)

-- else those of the tenth part, and the last
more : (k n : ℕ) → 10 ≤ n → digits_in (suc k) n ≡ digits_in k (n / 10) ++ ((zero_digit + n % 10) ∷ [])
unfolding digits_in
more k n h = rw (le-ltb n 10 h)

cases : {P : Type 0} (n : ℕ) → (n < 10 → P) → (10 ≤ n → P) → P
cases {P} n f g = go (ltb n 10) refl
  where
    go : (b : Bool) → ltb n 10 ≡ b → P
    go true e = f (ltb-true n 10 e)
    go false e = g (ltb-false n 10 e)

-- more than enough changes nothing
same : (k l n : ℕ) → n < k → n < l → digits_in k n ≡ digits_in l n
same zero l n h g = absurd (omega (arith, h))
same (suc k) zero n h g = absurd (omega (arith, g))
same (suc k) (suc l) n h g =
    cases n
    (λ s. few k n s ∙ sym (few l n s))
    (λ s. more k n s ∙ ap (λ (x : List ℕ). x ++ ((zero_digit + n % 10) ∷ [])) (same k l (n / 10) (omega (arith, h, s)) (omega (arith, g, s))) ∙ sym (more l n s))

-- ---- the two equations
pub digits_few : (n : ℕ) → n < 10 → digits n ≡ (zero_digit + n) ∷ []
unfolding digits
digits_few n h = few n n h

pub digits_more : (n : ℕ) → 10 ≤ n → digits n ≡ digits (n / 10) ++ ((zero_digit + n % 10) ∷ [])
unfolding digits
digits_more n h = more n n h ∙ ap (λ (x : List ℕ). x ++ ((zero_digit + n % 10) ∷ [])) (same n (suc (n / 10)) (n / 10) (omega (arith, h)) (omega arith))

-- ---- how many: a number below the k-th power of ten has k digits at most
power : ℕ → ℕ
power zero = 1
power (suc k) = 10 * power k

short : (k f n : ℕ) → n < power (suc k) → length (digits_in f n) ≤ suc k
unfolding digits_in power
short k zero n h = omega arith
short zero (suc f) n h = let e : length (digits_in (suc f) n) ≡ 1 = ap length (few f n (omega (arith, h))) in omega (arith, e)
short (suc k) (suc f) n h =
    cases n
    (λ s. let e : length (digits_in (suc f) n) ≡ 1 = ap length (few f n s) in omega (arith, e))
    (λ s.
    let e : length (digits_in (suc f) n) ≡ length (digits_in f (n / 10) ++ ((zero_digit + n % 10) ∷ [])) = ap length (more f n s) in
    let r : length (digits_in f (n / 10)) ≤ suc k = short k f (n / 10) (omega (arith, h)) in
    omega (arith, e, r, length-append (digits_in f (n / 10)) ((zero_digit + n % 10) ∷ [])))

-- a number of 32 bits has ten at most
pub digits_ten : (n : ℕ) → n < 4294967296 → length (digits n) ≤ 10
unfolding digits power
digits_ten n h = short 9 (suc n) n (let e : power 10 ≡ 10000000000 = refl in omega (arith, e, h))

-- ---- read back
read-append : (ds es : List ℕ) (n : ℕ) → read_from n (ds ++ es) ≡ read_from (read_from n ds) es
read-append [] es n = refl
read-append (d ∷ ds) es n = read-append ds es (10 * n + (d - zero_digit))

every_append : (ds : List ℕ) (d : ℕ) → Every IsDigit ds → IsDigit d → Every IsDigit (ds ++ (d ∷ []))
every_append [] d h k = (k, tt)
every_append (e ∷ ds) d h k = (h.0, every_append ds d h.1 k)

a_digit : (n : ℕ) → n < 10 → IsDigit (zero_digit + n)
a_digit n h = record { least = omega arith; most = omega (arith, h) }

-- what holds of digits that are read as n
record Reads (ds : List ℕ) (n : ℕ) : Type 0 where
  value : read_digits ds ≡ n
  each : Every IsDigit ds
  some : 0 < length ds
  first : 0 < n → zero_digit < get_or ds 0 0

reads_few : (n : ℕ) → n < 10 → Reads ((zero_digit + n) ∷ []) n
reads_few n h = record { value = omega arith; each = (a_digit n h, tt); some = omega arith; first = λ p. omega (arith, p) }

reads_more : (ds : List ℕ) (n : ℕ) → 10 ≤ n → Reads ds (n / 10) → Reads (ds ++ ((zero_digit + n % 10) ∷ [])) n
reads_more ds n h r = record {
  value = read-append ds ((zero_digit + n % 10) ∷ []) 0 ∙ ap (λ (m : ℕ). 10 * m + ((zero_digit + n % 10) - zero_digit)) r.value ∙ (let e : 10 * (n / 10) + ((zero_digit + n % 10) - zero_digit) ≡ n = omega arith in e);
  each = every_append ds (zero_digit + n % 10) r.each (a_digit (n % 10) (omega arith));
  some = omega (arith, length-append ds ((zero_digit + n % 10) ∷ []));
  first = λ p. subst (λ (x : ℕ). zero_digit < x) (sym (get_or-append ds ((zero_digit + n % 10) ∷ []) 0 0 r.some)) (r.first (omega (arith, h)));
}

reads : (k n : ℕ) → n < k → Reads (digits_in k n) n
reads zero n h = absurd (omega (arith, h))
reads (suc k) n h =
    cases n
    (λ s. subst (λ (ds : List ℕ). Reads ds n) (sym (few k n s)) (reads_few n s))
    (λ s. subst (λ (ds : List ℕ). Reads ds n) (sym (more k n s)) (reads_more (digits_in k (n / 10)) n s (reads k (n / 10) (omega (arith, h, s)))))

pub reads_back : (n : ℕ) → ReadsBack n
unfolding digits
reads_back n =
    let r : Reads (digits n) n = reads (suc n) n (omega arith) in
    record { value = r.value; each = r.each; some = r.some; first = λ p. r.first (cases n (λ s. absurd (let e : length (digits n) ≡ 1 = ap length (few n n s) in omega (arith, e, p))) (λ s. omega (arith, s))) }
