-- Laws of judging: a part, parts in sequence, a part k times over, and k times over with numbers; and parts that count nothing.
use Rattle.std.specs.Prelude.{Result as Code, Ok, Err, MatchResult, IsErrAnd}
use Prim.Native.Nat.{ℕ, zero, suc, ◌+◌, ◌≤◌, ◌<◌}
use native.Mathlib.Omega.{arith}
use mathlib.Core.Path.{◌≡◌, ◌∙◌, refl, sym, ap}
use mathlib.Core.Bool.{Bool, true, false, or-false, or_comm}
use mathlib.Core.List.{List, [], ◌∷◌}
use lib.ListN.{length, take, set}
use lib.Dec.{eqb}
use borrow.Author.Tests.{eq-eqb, ne_eqb, eqb-true, eqb-false}
use Rattle.std.specs.Prelude.{reverse}
use Rattle.std.specs.List.{list_any}
use Rattle.std.proofs.lemmas.List.{reverse-append, take_more_set}
use Rattle.std.proofs.lemmas.List.Folds.{list_any-append}
use Rattle.model.specs.Limits.{most_block_number}
use Rattle.model.specs.Lists.{each, among, Every}
use Rattle.model.specs.Sheet.{BlockId}
use Rattle.model.specs.Reading.{Position, Result, got, refused, Read, and_then, ◌>>=◌, pure, count, at_most, new_number, times, numbered, counted, times_from, numbered_from, counted_from}
use Rattle.model.proofs.Everywhere.{every_mem}
use Rattle.hir.specs.Refusals.{refusal_number}
use Rattle.hir.specs.declared.refusal.Refusal.{Refusal}
use Rattle.reading.specs.Parts.{Times}
use Rattle.reading.specs.Judging.{map_result, telling, judge}

-- what was read, or refused
pub result_case : {A P : Type 0} (x : Result A) → ((a : A) (d : Position) → x ≡ got a d → P) → ((k : ℕ) → x ≡ refused k → P) → P
result_case (got a d) f g = f a d refl
result_case (refused k) f g = g k refl

module _ {A B : Type 0} (f : Read A) (tell : A → B → B) (b : B) (ws : List ℕ) (c : Position) where
  pub judge_got : (a : A) (d : Position) → f ws c ≡ got a d → telling f tell b ws c ≡ got (tell a b) d
  unfolding telling
  judge_got a d e = rw e

  pub judge_refused : (k : ℕ) → f ws c ≡ refused k → telling f tell b ws c ≡ refused k
  unfolding telling
  judge_refused k e = rw e

  -- a judged part was read, and told
  pub got_judged : {P : Type 0} (b1 : B) (d : Position) → telling f tell b ws c ≡ got b1 d → ((a : A) → f ws c ≡ got a d → tell a b ≡ b1 → P) → P
  unfolding telling
  got_judged {P} b1 d q k = go (f ws c) refl q
    where
      go : (r : Result A) → f ws c ≡ r → map_result (λ (a : A). tell a b) r ≡ got b1 d → P
      go (got a e) x y =
          let z : e ≡ d = cc in
          let w : tell a b ≡ b1 = cc in
          k a (rw z at x) w
      go (refused n) x y = let z : ◌≡◌ {A = ℕ} 0 1 = cc in absurd (omega arith)

  pub refused_judged : (n : ℕ) → telling f tell b ws c ≡ refused n → f ws c ≡ refused n
  unfolding telling
  refused_judged n q = go (f ws c) refl q
    where
      go : (r : Result A) → f ws c ≡ r → map_result (λ (a : A). tell a b) r ≡ refused n → f ws c ≡ refused n
      go (got a e) x y = let z : ◌≡◌ {A = ℕ} 0 1 = cc in absurd (omega arith)
      go (refused j) x y = let z : j ≡ n = cc in rw z at x

module _ {A B C : Type 0} where
  -- a part that was read, and then the rest
  pub then_got : (m : Read A) (f : A → Read C) (tell : C → B → B) (b : B) (ws : List ℕ) (c : Position) (a : A) (d : Position) → m ws c ≡ got a d →
      telling (m >>= f) tell b ws c ≡ telling (f a) tell b ws d
  unfolding telling
  then_got m f tell b ws c a d e = rw e

  -- a part that was refused
  pub then_refused : (m : Read A) (f : A → Read C) (tell : C → B → B) (b : B) (ws : List ℕ) (c : Position) (k : ℕ) → m ws c ≡ refused k →
      telling (m >>= f) tell b ws c ≡ refused k
  unfolding telling
  then_refused m f tell b ws c k e = rw e

  -- a part that the whole is made of at once
  pub then_made : (m : Read A) (g : A → C) (tell : C → B → B) (b : B) (ws : List ℕ) (c : Position) →
      telling (m >>= λ (a : A). pure (g a)) tell b ws c ≡ telling m (λ (a : A). tell (g a)) b ws c
  unfolding telling
  then_made m g tell b ws c = go (m ws c)
    where
      go : (r : Result A) → map_result (λ (x : C). tell x b) (and_then r (λ (a : A) (d : Position). got (g a) d)) ≡ map_result (λ (a : A). tell (g a) b) r
      go (got a d) = refl
      go (refused k) = refl

-- the first of a list is told before the others
cons_told : {A B : Type 0} (tell : A → B → B) (b b1 : B) (ws : List ℕ) (c : Position) (g : B → Read (List A)) (a : A) → tell a b ≡ b1 →
    telling (g (tell a b)) (λ (l : List A). each tell (a ∷ l)) b ws c ≡ judge g (each tell) b1 ws c
unfolding telling
cons_told tell b b1 ws c g a w = rw w

module _ {A B : Type 0} (f : B → Read A) (tell : A → B → B) (ws : List ℕ) where
  pub times_next : (k : ℕ) (b b1 : B) (c d : Position) → judge f tell b ws c ≡ got b1 d →
      judge (times_from (suc k) f tell) (each tell) b ws c ≡ judge (times_from k f tell) (each tell) b1 ws d
  unfolding times_from
  times_next k b b1 c d q =
      got_judged (f b) tell b ws c b1 d q
      (λ a e w. then_got (f b) (λ (a : A). times_from k f tell (tell a b) >>= λ (l : List A). pure (a ∷ l)) (each tell) b ws c a d e
      ∙ then_made (times_from k f tell (tell a b)) (λ (l : List A). a ∷ l) (each tell) b ws d
      ∙ cons_told tell b b1 ws d (times_from k f tell) a w)

  pub times_stop : (k : ℕ) (b : B) (c : Position) (n : ℕ) → judge f tell b ws c ≡ refused n → judge (times_from (suc k) f tell) (each tell) b ws c ≡ refused n
  unfolding times_from
  times_stop k b c n q =
      then_refused (f b) (λ (a : A). times_from k f tell (tell a b) >>= λ (l : List A). pure (a ∷ l)) (each tell) b ws c n (refused_judged (f b) tell b ws c n q)

  pub times_done : (b : B) (c : Position) → judge (times_from 0 f tell) (each tell) b ws c ≡ got b c
  unfolding times_from telling
  times_done b c = refl

  -- a section: its count, then its parts
  pub section_got : (most : ℕ) (b : B) (c : Position) (k : ℕ) (d : Position) → count most ws c ≡ got k d →
      judge (counted_from most f tell) (each tell) b ws c ≡ judge (times_from k f tell) (each tell) b ws d
  unfolding counted_from
  section_got most b c k d x = then_got (count most) (λ (k : ℕ). times_from k f tell b) (each tell) b ws c k d x

  pub section_refused : (most : ℕ) (b : B) (c : Position) (n : ℕ) → count most ws c ≡ refused n → judge (counted_from most f tell) (each tell) b ws c ≡ refused n
  unfolding counted_from
  section_refused most b c n e = then_refused (count most) (λ (k : ℕ). times_from k f tell b) (each tell) b ws c n e

  -- so the code's parts, where each of them says what is judged
  module _ {P : Type 0} (said : Code P Refusal → Result B) (known : P → B) (at : P → Position) (ok : (p : P) → said (Ok p) ≡ got (known p) (at p)) (err : (e : Refusal) → said (Err e) ≡ refused (refusal_number e)) where
    pub times_said : (part : P → Code P Refusal → Type 0) → ((p : P) (r : Code P Refusal) → part p r → said r ≡ judge f tell (known p) ws (at p)) →
        (k : ℕ) (p : P) (r : Code P Refusal) → Times part k p r → said r ≡ judge (times_from k f tell) (each tell) (known p) ws (at p)
    times_said part h zero p r t = ap said t ∙ ok p ∙ sym (times_done (known p) (at p))
    times_said part h (suc k) p r t = go (λ q. times_said part h k q r) t.0 t.1 t.2
      where
        go : ((q : P) → Times part k q r → said r ≡ judge (times_from k f tell) (each tell) (known q) ws (at q)) → (v : Code P Refusal) → part p v →
            MatchResult v (λ q. Times part k q r) (λ e. r ≡ Err e) → said r ≡ judge (times_from (suc k) f tell) (each tell) (known p) ws (at p)
        go rest (Ok q) a b = rest q b ∙ sym (times_next k (known p) (known q) (at p) (at q) (sym (h p (Ok q) a) ∙ ok q))
        go rest (Err e) a b = ap said b ∙ err e ∙ sym (times_stop k (known p) (at p) (refusal_number e) (sym (h p (Err e) a) ∙ err e))

module _ (used : List BlockId) (ws : List ℕ) (c : Position) where
  -- a number that none had
  pub new_got : (x : BlockId) (d : Position) → at_most most_block_number ws c ≡ got x d → among x used ≡ false → new_number used ws c ≡ got x d
  unfolding new_number
  new_got x d e h = rw (e, h)

  -- a number that one had: 6
  pub new_used : (x : BlockId) (d : Position) → at_most most_block_number ws c ≡ got x d → among x used ≡ true → new_number used ws c ≡ refused 6
  unfolding new_number
  new_used x d e h = rw (e, h)

  pub new_refused : (n : ℕ) → at_most most_block_number ws c ≡ refused n → new_number used ws c ≡ refused n
  unfolding new_number
  new_refused n e = rw e

-- ---- numbers stored one after another: the last one first
pub latest-stored : (l : List ℕ) (k x : ℕ) → k < length l → reverse (take (k + 1) (set l k x)) ≡ x ∷ reverse (take k l)
latest-stored l k x h = ap reverse (take_more_set l k x h) ∙ reverse-append (take k l) (x ∷ [])

any_reverse : (p : ℕ → Bool) (l : List ℕ) → list_any p (reverse l) ≡ list_any p l
any_reverse p [] = refl
any_reverse p (y ∷ l) = ap (list_any p) (reverse-append (y ∷ []) l) ∙ list_any-append p (reverse l) (y ∷ []) ∙ rw (any_reverse p l, or-false, or_comm)

eqb_turned : (x y : ℕ) → eqb x y ≡ eqb y x
eqb_turned x y = go (eqb y x) refl
  where
    go : (b : Bool) → eqb y x ≡ b → eqb x y ≡ b
    go true e = eq-eqb x y (sym (eqb-true y x e))
    go false e = ne_eqb x y (λ q. eqb-false y x e (sym q))

any_among : (x : ℕ) (l : List ℕ) → list_any (λ (y : ℕ). eqb y x) l ≡ among x l
any_among x [] = refl
any_among x (y ∷ l) = rw (eqb_turned y x, any_among x l)

-- one of them is the number
pub stored-any : (x : ℕ) (l : List ℕ) → list_any (λ (y : ℕ). eqb y x) l ≡ among x (reverse l)
stored-any x l = sym (any_reverse (λ (y : ℕ). eqb y x) l) ∙ any_among x (reverse l)

-- ---- numbers below a bound
-- a number from the bound on is none of them
pub none_above : (v a : ℕ) (l : List ℕ) → a ≤ v → Every (λ (x : ℕ). x < a) l → false ≡ among v l
none_above v a [] h e = refl
none_above v a (x ∷ l) h e = rw (ne_eqb v x (λ q. absurd (omega (arith, h, e.0, q)))) (none_above v a l h e.1)

-- one more, and the bound was raised
pub below_more : (l : List ℕ) (x a b : ℕ) → Every (λ (y : ℕ). y < a) l → (a ≤ b) × (x < b) → Every (λ (y : ℕ). y < b) (x ∷ l)
below_more l x a b e r = (r.1, every_mem (λ (y : ℕ). y < a) (λ (y : ℕ). y < b) l (λ y m q. omega (arith, q, r.0)) e)

module _ {A B : Type 0} (f : BlockId → B → Read A) (tell : A → B → B) (ws : List ℕ) where
  pub numbered_next : (k : ℕ) (used : List BlockId) (b b1 : B) (c d e : Position) (x : BlockId) → new_number used ws c ≡ got x d →
      judge (f x) tell b ws d ≡ got b1 e →
      judge (numbered_from (suc k) used f tell) (each tell) b ws c ≡ judge (numbered_from k (x ∷ used) f tell) (each tell) b1 ws e
  unfolding numbered_from
  numbered_next k used b b1 c d e x p q =
      got_judged (f x b) tell b ws d b1 e q
      (λ a y w. then_got (new_number used) (λ (x : BlockId). f x b >>= λ (a : A). numbered_from k (x ∷ used) f tell (tell a b) >>= λ (l : List A). pure (a ∷ l)) (each tell) b ws c x d p
      ∙ then_got (f x b) (λ (a : A). numbered_from k (x ∷ used) f tell (tell a b) >>= λ (l : List A). pure (a ∷ l)) (each tell) b ws d a e y
      ∙ then_made (numbered_from k (x ∷ used) f tell (tell a b)) (λ (l : List A). a ∷ l) (each tell) b ws e
      ∙ cons_told tell b b1 ws e (numbered_from k (x ∷ used) f tell) a w)

  pub numbered_refused : (k : ℕ) (used : List BlockId) (b : B) (c : Position) (n : ℕ) → new_number used ws c ≡ refused n →
      judge (numbered_from (suc k) used f tell) (each tell) b ws c ≡ refused n
  unfolding numbered_from
  numbered_refused k used b c n p =
      then_refused (new_number used) (λ (x : BlockId). f x b >>= λ (a : A). numbered_from k (x ∷ used) f tell (tell a b) >>= λ (l : List A). pure (a ∷ l)) (each tell) b ws c n p

  pub numbered_stop : (k : ℕ) (used : List BlockId) (b : B) (c d : Position) (x : BlockId) (n : ℕ) → new_number used ws c ≡ got x d →
      judge (f x) tell b ws d ≡ refused n → judge (numbered_from (suc k) used f tell) (each tell) b ws c ≡ refused n
  unfolding numbered_from
  numbered_stop k used b c d x n p q =
      then_got (new_number used) (λ (x : BlockId). f x b >>= λ (a : A). numbered_from k (x ∷ used) f tell (tell a b) >>= λ (l : List A). pure (a ∷ l)) (each tell) b ws c x d p
      ∙ then_refused (f x b) (λ (a : A). numbered_from k (x ∷ used) f tell (tell a b) >>= λ (l : List A). pure (a ∷ l)) (each tell) b ws d n (refused_judged (f x b) tell b ws d n q)

  pub numbered_done : (used : List BlockId) (b : B) (c : Position) → judge (numbered_from 0 used f tell) (each tell) b ws c ≡ got b c
  unfolding numbered_from telling
  numbered_done used b c = refl

  -- the same numbers, as another list
  pub used_as : (k : ℕ) (used used' : List BlockId) (b : B) (c : Position) → used ≡ used' → judge (numbered_from k used f tell) (each tell) b ws c ≡ judge (numbered_from k used' f tell) (each tell) b ws c
  used_as k used used' b c e = ap (λ (l : List BlockId). judge (numbered_from k l f tell) (each tell) b ws c) e

-- ---- parts that count nothing: a tally that each of them leaves as it was
module _ {A T : Type 0} (tell : A → T → T) (t : T) (keeps : (a : A) → tell a t ≡ t) where
  pub each_keeps : (l : List A) → each tell l t ≡ t
  each_keeps [] = refl
  each_keeps (a ∷ l) = ap (each tell l) (keeps a) ∙ each_keeps l

  pub times_keeps : (k : ℕ) (f : T → Read A) (ws : List ℕ) (c : Position) → times_from k f tell t ws c ≡ times k (f t) ws c
  unfolding times_from times
  times_keeps zero f ws c = refl
  times_keeps (suc k) f ws c = result_case (f t ws c) (λ a d e. rw (e, keeps a, times_keeps k f ws d)) (λ n e. rw e)

  pub counted_keeps : (most : ℕ) (f : T → Read A) (ws : List ℕ) (c : Position) → counted_from most f tell t ws c ≡ counted most (f t) ws c
  unfolding counted_from counted
  counted_keeps most f ws c = result_case (count most ws c) (λ k d e. rw (e, times_keeps k f ws d)) (λ n e. rw e)

  pub numbered_keeps : (k : ℕ) (used : List BlockId) (f : BlockId → T → Read A) (ws : List ℕ) (c : Position) → numbered_from k used f tell t ws c ≡ numbered k used (λ (b : BlockId). f b t) ws c
  unfolding numbered_from numbered
  numbered_keeps zero used f ws c = refl
  numbered_keeps (suc k) used f ws c =
      result_case (new_number used ws c)
      (λ b d x. result_case (f b t ws d) (λ a e y. rw (x, y, keeps a, numbered_keeps k (b ∷ used) f ws e)) (λ n y. rw (x, y)))
      (λ n x. rw x)

-- ---- what a `?` hands over
pub exits : {P A : Type 0} (said : Code P Refusal → Result A) → ((k : Refusal) → said (Err k) ≡ refused (refusal_number k)) → (r : Code P Refusal) (e : Refusal) {x : Result A} →
    IsErrAnd r (λ (y : Refusal). y ≡ e) → x ≡ refused (refusal_number e) → said r ≡ x
exits said err (Ok p) e h q = absurd h
exits said err (Err y) e h q = err y ∙ ap (λ (k : Refusal). refused (refusal_number k)) h ∙ sym q
