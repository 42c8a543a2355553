-- One caller's answers, serials and record over any list of calls are those of its own calls alone.
use Prim.Native.Nat.{ℕ, zero, suc, ◌+◌, ◌%◌, ◌≤◌, ◌<◌}
use native.Mathlib.Omega.{arith}
use mathlib.Core.Bool.{Bool, true, false}
use mathlib.Core.List.{List, [], ◌∷◌, map}
use mathlib.Core.Option.{none, some}
use mathlib.Core.Path.{◌≡◌, refl, sym, ap, ◌∙◌}
use mathlib.Core.Logic.{◌⊎◌, inl, inr}
use lib.Dec.{leb, eqb}
use borrow.Author.Tests.{le-leb, lt-leb, leb-true, leb-false, eqb-true, eqb-false}
use lib.ListN.{length, get_or, length-set}
use lib.Seq.{get_or-set_same, get_or-set_other}
use Rattle.model.specs.Limits.{last_serial}
use Rattle.model.specs.Lists.{pick}
use Rattle.model.specs.Call.{Outcome, refusal, accepted, outcome}
use Rattle.model.specs.Service.{Caller, new_caller, taken, serves, call}
use Rattle.model.specs.Callers.{outside, refused_outside, replaces, call_for}
use Rattle.model.proofs.Buffers.{serial_word_lem}
use Rattle.model.specs.Isolation.{Ask, asked, Told, told_of, after_calls, told_to, calls_of, serials_in, count_from, Isolation}

cases : {P : Type 0} (b : Bool) → (b ≡ true → P) → (b ≡ false → P) → P
cases true f g = f refl
cases false f g = g refl

-- ---- one call
module _ (cs : List Caller) (q : Ask) where
  abbrev turn : Caller → Told
  turn c = record { outcome = (call c q.sheet q.workspace q.room).outcome; serial = (call c q.sheet q.workspace q.room).serial }

  abbrev turned : Caller → Caller
  turned c = (call c q.sheet q.workspace q.room).caller

  abbrev own : Caller
  own = get_or cs q.position new_caller

  many : length (asked cs q).callers ≡ length cs
  unfolding call_for
  many = go (outside (length cs) q.position)
    where
      go : (b : Bool) → length (pick b (refused_outside cs) (replaces cs q.position (call own q.sheet q.workspace q.room))).callers ≡ length cs
      go true = refl
      go false = length-set cs q.position (turned own)

  -- the caller that called
  own_told : q.position < length cs → told_of (asked cs q) ≡ turn own
  unfolding call_for outside
  own_told h = simp (lt-leb (length cs) q.position h)

  own_left : q.position < length cs → get_or (asked cs q).callers q.position new_caller ≡ turned own
  unfolding call_for outside
  own_left h = simp (lt-leb (length cs) q.position h) (get_or-set_same cs q.position (turned own) new_caller h)

  -- one without a record
  none_told : length cs ≤ q.position → told_of (asked cs q) ≡ record { outcome = refusal 11; serial = none }
  unfolding call_for outside
  none_told h = simp (le-leb (length cs) q.position h)

  -- every other caller
  other-left : (i : ℕ) → (i ≡ q.position → ⊥) → get_or (asked cs q).callers i new_caller ≡ get_or cs i new_caller
  unfolding call_for
  other-left i n = go (outside (length cs) q.position)
    where
      go : (b : Bool) → get_or (pick b (refused_outside cs) (replaces cs q.position (call own q.sheet q.workspace q.room))).callers i new_caller ≡ get_or cs i new_caller
      go true = refl
      go false = get_or-set_other cs q.position i (turned own) new_caller n

-- ---- a caller by itself
abbrev told_alone : Caller → List Ask → List Told
told_alone c [] = []
told_alone c (q ∷ qs) = turn [] q c ∷ told_alone (turned [] q c) qs

abbrev left_alone : Caller → List Ask → Caller
left_alone c [] = c
left_alone c (q ∷ qs) = left_alone (turned [] q c) qs

-- ---- any list of calls
module _ (i : ℕ) (q : Ask) (qs : List Ask) where
  calls_of_own : eqb q.position i ≡ true → calls_of i (q ∷ qs) ≡ q ∷ calls_of i qs
  unfolding calls_of
  calls_of_own e = simp e

  calls_of-other : eqb q.position i ≡ false → calls_of i (q ∷ qs) ≡ calls_of i qs
  unfolding calls_of
  calls_of-other e = simp e

  told_to_own : (cs : List Caller) → eqb q.position i ≡ true → told_to i cs (q ∷ qs) ≡ told_of (asked cs q) ∷ told_to i (asked cs q).callers qs
  unfolding told_to
  told_to_own cs e = simp e

  told_to-other : (cs : List Caller) → eqb q.position i ≡ false → told_to i cs (q ∷ qs) ≡ told_to i (asked cs q).callers qs
  unfolding told_to
  told_to-other cs e = simp e

-- the record of i after a call that is its own, and after one that is not
module _ (i : ℕ) (cs : List Caller) (q : Ask) where
  at_own : eqb q.position i ≡ true → i < length cs → get_or (asked cs q).callers i new_caller ≡ turned [] q (get_or cs i new_caller)
  at_own e h =
      let w : q.position ≡ i = eqb-true q.position i e in
      ap (λ (k : ℕ). get_or (asked cs q).callers k new_caller) (sym w) ∙ own_left cs q (omega (arith, h, w)) ∙ ap (λ (k : ℕ). turned [] q (get_or cs k new_caller)) w

  at_other : eqb q.position i ≡ false → get_or (asked cs q).callers i new_caller ≡ get_or cs i new_caller
  at_other e = other-left cs q i (λ p. eqb-false q.position i e (sym p))

  told_own : eqb q.position i ≡ true → i < length cs → told_of (asked cs q) ≡ turn [] q (get_or cs i new_caller)
  told_own e h =
      let w : q.position ≡ i = eqb-true q.position i e in
      own_told cs q (omega (arith, h, w)) ∙ ap (λ (k : ℕ). turn [] q (get_or cs k new_caller)) w

-- a caller with a record is told what it would be told with no other record there
told_alone_lem : (i : ℕ) (cs : List Caller) (qs : List Ask) → i < length cs → told_to i cs qs ≡ told_alone (get_or cs i new_caller) (calls_of i qs)
unfolding told_to calls_of
told_alone_lem i cs [] h = refl
told_alone_lem i cs (q ∷ qs) h =
    let c : Caller = get_or cs i new_caller in
    let ds : List Caller = (asked cs q).callers in
    let r : told_to i ds qs ≡ told_alone (get_or ds i new_caller) (calls_of i qs) = told_alone_lem i ds qs (omega (arith, h, many cs q)) in
    cases (eqb q.position i)
    (λ e. told_to_own i q qs cs e ∙ ap (λ (t : Told). t ∷ told_to i ds qs) (told_own i cs q e h)
    ∙ ap (λ (l : List Told). turn [] q c ∷ l) (r ∙ ap (λ (x : Caller). told_alone x (calls_of i qs)) (at_own i cs q e h)) ∙ ap (told_alone c) (sym (calls_of_own i q qs e)))
    (λ e. told_to-other i q qs cs e ∙ r ∙ ap (λ (x : Caller). told_alone x (calls_of i qs)) (at_other i cs q e) ∙ ap (told_alone c) (sym (calls_of-other i q qs e)))

-- and is left its record likewise
left_alone_lem : (i : ℕ) (cs : List Caller) (qs : List Ask) → i < length cs → get_or (after_calls cs qs) i new_caller ≡ left_alone (get_or cs i new_caller) (calls_of i qs)
unfolding after_calls calls_of
left_alone_lem i cs [] h = refl
left_alone_lem i cs (q ∷ qs) h =
    let c : Caller = get_or cs i new_caller in
    let ds : List Caller = (asked cs q).callers in
    let r : get_or (after_calls ds qs) i new_caller ≡ left_alone (get_or ds i new_caller) (calls_of i qs) = left_alone_lem i ds qs (omega (arith, h, many cs q)) in
    cases (eqb q.position i)
    (λ e. r ∙ ap (λ (x : Caller). left_alone x (calls_of i qs)) (at_own i cs q e h) ∙ ap (left_alone c) (sym (calls_of_own i q qs e)))
    (λ e. r ∙ ap (λ (x : Caller). left_alone x (calls_of i qs)) (at_other i cs q e) ∙ ap (left_alone c) (sym (calls_of-other i q qs e)))

-- a caller without a record is told 11 each time
told_none : (i : ℕ) (cs : List Caller) (qs : List Ask) → length cs ≤ i → told_to i cs qs ≡ map (λ (q : Ask). record { outcome = refusal 11; serial = none }) (calls_of i qs)
unfolding told_to calls_of
told_none i cs [] h = refl
told_none i cs (q ∷ qs) h =
    let ds : List Caller = (asked cs q).callers in
    let f : Ask → Told = λ q. record { outcome = refusal 11; serial = none } in
    let r : told_to i ds qs ≡ map f (calls_of i qs) = told_none i ds qs (omega (arith, h, many cs q)) in
    cases (eqb q.position i)
    (λ e. let w : q.position ≡ i = eqb-true q.position i e in
    told_to_own i q qs cs e ∙ ap (λ (t : Told). t ∷ told_to i ds qs) (none_told cs q (omega (arith, h, w))) ∙ ap (λ (l : List Told). f q ∷ l) r ∙ ap (map f) (sym (calls_of_own i q qs e)))
    (λ e. told_to-other i q qs cs e ∙ r ∙ ap (map f) (sym (calls_of-other i q qs e)))

-- its own calls among its own calls
calls_twice : (i : ℕ) (qs : List Ask) → calls_of i (calls_of i qs) ≡ calls_of i qs
unfolding calls_of
calls_twice i [] = refl
calls_twice i (q ∷ qs) = cases (eqb q.position i)
    (λ e. ap (calls_of i) (calls_of_own i q qs e) ∙ calls_of_own i q (calls_of i qs) e ∙ ap (λ (l : List Ask). q ∷ l) (calls_twice i qs) ∙ sym (calls_of_own i q qs e))
    (λ e. ap (calls_of i) (calls_of-other i q qs e) ∙ calls_twice i qs ∙ sym (calls_of-other i q qs e))

same-told : (i : ℕ) (cs : List Caller) (qs : List Ask) → told_to i cs qs ≡ told_to i cs (calls_of i qs)
same-told i cs qs = cases (leb (length cs) i)
    (λ e. let h : length cs ≤ i = leb-true (length cs) i e in
    told_none i cs qs h ∙ ap (map _) (sym (calls_twice i qs)) ∙ sym (told_none i cs (calls_of i qs) h))
    (λ e. let h : i < length cs = leb-false (length cs) i e in
    told_alone_lem i cs qs h ∙ ap (told_alone (get_or cs i new_caller)) (sym (calls_twice i qs)) ∙ sym (told_alone_lem i cs (calls_of i qs) h))

-- ---- serials
-- a call is told a serial if it is accepted, the one that the record holds, and the record moves on
serial_step : (o : Outcome) (c : Caller) → (((serves c o).serial ≡ none) × ((serves c o).caller ≡ c)) ⊎ (((serves c o).serial ≡ some c.next) × ((serves c o).caller ≡ taken c))
unfolding serves
serial_step (refusal k) c = inl (refl, refl)
serial_step (accepted a) c = inr (refl, refl)

count_alone : (c : Caller) (qs : List Ask) → serials_in (told_alone c qs) ≡ count_from (length (serials_in (told_alone c qs))) c
unfolding serials_in count_from call
count_alone c [] = refl
count_alone c (q ∷ qs) = go (serial_step (outcome q.sheet q.workspace q.room) c) (count_alone (turned [] q c) qs)
  where
    go : (((turn [] q c).serial ≡ none) × (turned [] q c ≡ c)) ⊎ (((turn [] q c).serial ≡ some c.next) × (turned [] q c ≡ taken c))
        → serials_in (told_alone (turned [] q c) qs) ≡ count_from (length (serials_in (told_alone (turned [] q c) qs))) (turned [] q c)
        → serials_in (turn [] q c ∷ told_alone (turned [] q c) qs) ≡ count_from (length (serials_in (turn [] q c ∷ told_alone (turned [] q c) qs))) c
    go (inl (e, f)) r = rw e (r ∙ ap (count_from (length (serials_in (told_alone (turned [] q c) qs)))) f)
    go (inr (e, f)) r = rw e (ap (λ (l : List ℕ). c.next ∷ l) (r ∙ ap (count_from (length (serials_in (told_alone (turned [] q c) qs)))) f))

-- the next serial of a record that has taken one
taken_next : (c : Caller) (j : ℕ) → c.next ≤ last_serial → ((taken c).next + j) % suc last_serial ≡ (c.next + suc j) % suc last_serial
unfolding taken
taken_next c j h = cases (eqb c.next last_serial)
    (λ e. simp e (omega (arith, eqb-true c.next last_serial e)))
    (λ e. simp e (omega arith))

count_at : (k : ℕ) (c : Caller) → c.next ≤ last_serial → (j : ℕ) → j < k → get_or (count_from k c) j 0 ≡ (c.next + j) % suc last_serial
unfolding count_from
count_at zero c h j l = absurd (omega (arith, l))
count_at (suc k) c h zero l = omega (arith, h)
count_at (suc k) c h (suc j) l = count_at k (taken c) (serial_word_lem c h) j (omega (arith, l)) ∙ taken_next c j h

many_after : (cs : List Caller) (qs : List Ask) → length (after_calls cs qs) ≡ length cs
unfolding after_calls
many_after cs [] = refl
many_after cs (q ∷ qs) = many_after (asked cs q).callers qs ∙ many cs q

count-told : (i : ℕ) (cs : List Caller) (qs : List Ask) → i < length cs → serials_in (told_to i cs qs) ≡ count_from (length (serials_in (told_to i cs qs))) (get_or cs i new_caller)
count-told i cs qs h =
    let e : told_to i cs qs ≡ told_alone (get_or cs i new_caller) (calls_of i qs) = told_alone_lem i cs qs h in
    ap serials_in e ∙ count_alone (get_or cs i new_caller) (calls_of i qs) ∙ ap (λ (l : List Told). count_from (length (serials_in l)) (get_or cs i new_caller)) (sym e)

pub isolation : (i : ℕ) (cs : List Caller) (qs : List Ask) → Isolation i cs qs
isolation i cs qs = record {
  told = same-told i cs qs;
  left = λ h. left_alone_lem i cs qs h ∙ ap (left_alone (get_or cs i new_caller)) (sym (calls_twice i qs)) ∙ sym (left_alone_lem i cs (calls_of i qs) h);
  elsewhere = λ ds h k e.
      told_alone_lem i cs qs h ∙ ap (told_alone (get_or cs i new_caller)) (sym (calls_twice i qs)) ∙ ap (λ (c : Caller). told_alone c (calls_of i (calls_of i qs))) e
      ∙ sym (told_alone_lem i ds (calls_of i qs) k);
  serials = count-told i cs qs;
  wraps = λ h f j l.
      ap (λ (ns : List ℕ). get_or ns j 0) (count-told i cs qs h) ∙ count_at (length (serials_in (told_to i cs qs))) (get_or cs i new_caller) f j l;
  many = many_after cs qs;
}
