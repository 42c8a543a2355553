-- Two readings that ask, side by side. The first may be stopped with 8 where the second goes on, if May says so. Until then both read the same, and their
-- tallies stay related; from then on the second's tally is bad, and stays so.
use Prim.Native.Nat.{ℕ, zero, suc}
use mathlib.Core.Path.{◌≡◌, refl}
use mathlib.Core.Bool.{Bool, true, false}
use mathlib.Core.List.{List, [], ◌∷◌}
use mathlib.Core.Option.{Option, none, some}
use Rattle.model.specs.Lists.{pick, each}
use Rattle.model.specs.Sheet.{BlockId}
use Rattle.model.specs.Reading.{Position, Result, got, refused, Read, ◌>>=◌, pure, word, count, new_number, is_absent, optional, times_from, numbered_from, counted_from}
use Rattle.model.proofs.ReadLaws.{Reads, pure_reads, then_reads}
use Rattle.model.proofs.Got.{bind_got}

module _ {S T : Type 0} (May : Type 0) (R : S → T → Type 0) (Bad : T → Type 0) where
  -- what comes of a part after which the tallies are p and q of its value
  pub data Comes {A : Type 0} (p : A → S) (q : A → T) (x y : Result A) : Type 0 where
    same : (v : A) (c : Position) → x ≡ got v c → y ≡ got v c → R (p v) (q v) → Comes p q x y
    neither : (k : ℕ) → x ≡ refused k → y ≡ refused k → Comes p q x y
    stopped : May → x ≡ refused 8 → ((v : A) (c : Position) → y ≡ got v c → Bad (q v)) → Comes p q x y

  -- so from every position
  abbrev pub Ahead : {A : Type 0} → (A → S) → (A → T) → Read A → Read A → Type 0
  Ahead p q f g = (ws : List ℕ) (c : Position) → Comes p q (f ws c) (g ws c)

  -- whatever is read, its tally is bad
  abbrev Late : {A : Type 0} → (A → T) → Read A → Type 0
  Late {A} q f = Reads f (λ (v : A). Bad (q v))

  module _ {A B : Type 0} where
    -- a part that both read alike, and that counts nothing
    pub then_ahead : (m : Read A) (f f' : A → Read B) (p : B → S) (q : B → T) → ((v : A) → Ahead p q (f v) (f' v)) → Ahead p q (m >>= f) (m >>= f')
    then_ahead m f f' p q h ws c = go (m ws c) refl
      where
        go : (r : Result A) → m ws c ≡ r → Comes p q ((m >>= f) ws c) ((m >>= f') ws c)
        go (got v d) e = rw e (h v ws d)
        go (refused k) e = neither k (rw e) (rw e)

    -- a part that counts, and another
    pub bind_ahead : (m m' : Read A) (f f' : A → Read B) (p₀ : A → S) (q₀ : A → T) (p : B → S) (q : B → T) → Ahead p₀ q₀ m m'
        → ((v : A) → R (p₀ v) (q₀ v) → Ahead p q (f v) (f' v)) → ((v : A) → Bad (q₀ v) → Late q (f' v)) → Ahead p q (m >>= f) (m' >>= f')
    bind_ahead m m' f f' p₀ q₀ p q h k l ws c = go (h ws c)
      where
        go : Comes p₀ q₀ (m ws c) (m' ws c) → Comes p q ((m >>= f) ws c) ((m' >>= f') ws c)
        go (same v d x y r) = rw (x, y) (k v r ws d)
        go (neither n x y) = neither n (rw x) (rw y)
        go (stopped m x b) = stopped m (rw x) (λ w e z. let i = bind_got m' f' ws c w e z in l i.value (b i.value i.next i.first) ws i.next w e i.second)

  pub pure_ahead : {A : Type 0} (a : A) (p : A → S) (q : A → T) → R (p a) (q a) → Ahead p q (pure a) (pure a)
  pure_ahead a p q r ws c = same a c refl refl r

  -- the same reading on both sides, whose values leave related tallies
  pub alike : {A : Type 0} (f : Read A) (p : A → S) (q : A → T) → Reads f (λ (v : A). R (p v) (q v)) → Ahead p q f f
  alike {A} f p q h ws c = go (f ws c) refl
    where
      go : (r : Result A) → f ws c ≡ r → Comes p q (f ws c) (f ws c)
      go (got v d) e = same v d e e (h ws c v d e)
      go (refused k) e = neither k e e

  -- a list that may be absent
  pub optional_ahead : {A : Type 0} (f g : Read A) (p : Option A → S) (q : Option A → T) → R (p none) (q none) → Ahead (λ (v : A). p (some v)) (λ (v : A). q (some v)) f g → Ahead p q (optional f) (optional g)
  unfolding optional
  optional_ahead {A} f g p q r h ws c = go (is_absent (word ws c))
    where
      absent : Read (Option A)
      absent = word >>= λ (w : ℕ). pure none

      go : (t : Bool) → Comes p q (pick t absent (f >>= λ (v : A). pure (some v)) ws c) (pick t absent (g >>= λ (v : A). pure (some v)) ws c)
      go true = alike absent p q (then_reads word _ _ (λ w. pure_reads none _ r)) ws c
      go false = bind_ahead f g _ _ (λ (v : A). p (some v)) (λ (v : A). q (some v)) p q h (λ v s. pure_ahead (some v) p q s) (λ v s. pure_reads (some v) _ s) ws c

  -- ---- several parts
  module _ {A : Type 0} (second : A → T → T) (worse : (v : A) (u : T) → Bad u → Bad (second v u)) where
    pub worse_each : (l : List A) (u : T) → Bad u → Bad (each second l u)
    worse_each [] u b = b
    worse_each (v ∷ l) u b = worse_each l (second v u) (worse v u b)

    -- the rest of a list after its first part
    list_late : (v : A) (u : T) → Bad (second v u) → (f : Read (List A)) → Late (λ (l : List A). each second l u) (f >>= λ (l : List A). pure (v ∷ l))
    list_late v u b f = then_reads f _ _ (λ l. pure_reads (v ∷ l) _ (worse_each l (second v u) b))

  module _ {A : Type 0} (first : A → S → S) (second : A → T → T) (worse : (v : A) (u : T) → Bad u → Bad (second v u)) where
    -- a part in front of a list
    cons_ahead : (v : A) (t : S) (u : T) (f g : Read (List A)) → Ahead (λ (l : List A). each first l (first v t)) (λ (l : List A). each second l (second v u)) f g
        → Ahead (λ (l : List A). each first l t) (λ (l : List A). each second l u) (f >>= λ (l : List A). pure (v ∷ l)) (g >>= λ (l : List A). pure (v ∷ l))
    cons_ahead v t u f g h =
        bind_ahead f g _ _ (λ (l : List A). each first l (first v t)) (λ (l : List A). each second l (second v u)) _ _ h
        (λ l r. pure_ahead (v ∷ l) (λ (l : List A). each first l t) (λ (l : List A). each second l u) r) (λ l b. pure_reads (v ∷ l) _ b)

    times_ahead : (f : S → Read A) (g : T → Read A) → ((t : S) (u : T) → R t u → Ahead (λ (v : A). first v t) (λ (v : A). second v u) (f t) (g u)) →
        (k : ℕ) (t : S) (u : T) → R t u → Ahead (λ (l : List A). each first l t) (λ (l : List A). each second l u) (times_from k f first t) (times_from k g second u)
    unfolding times_from
    times_ahead f g lead zero t u r = pure_ahead [] _ _ r
    times_ahead f g lead (suc k) t u r =
        bind_ahead (f t) (g u) _ _ (λ (v : A). first v t) (λ (v : A). second v u) _ _ (lead t u r)
        (λ v s. cons_ahead v t u (times_from k f first (first v t)) (times_from k g second (second v u)) (times_ahead f g lead k (first v t) (second v u) s))
        (λ v b. list_late second worse v u b (times_from k g second (second v u)))

    pub counted_ahead : (f : S → Read A) (g : T → Read A) → ((t : S) (u : T) → R t u → Ahead (λ (v : A). first v t) (λ (v : A). second v u) (f t) (g u)) →
        (most : ℕ) (t : S) (u : T) → R t u → Ahead (λ (l : List A). each first l t) (λ (l : List A). each second l u) (counted_from most f first t) (counted_from most g second u)
    unfolding counted_from
    counted_ahead f g lead most t u r = then_ahead (count most) _ _ _ _ (λ k. times_ahead f g lead k t u r)

    pub numbered_ahead : (f : BlockId → S → Read A) (g : BlockId → T → Read A) → ((b : BlockId) (t : S) (u : T) → R t u → Ahead (λ (v : A). first v t) (λ (v : A). second v u) (f b t) (g b u)) →
        (k : ℕ) (used : List BlockId) (t : S) (u : T) → R t u → Ahead (λ (l : List A). each first l t) (λ (l : List A). each second l u) (numbered_from k used f first t) (numbered_from k used g second u)
    unfolding numbered_from
    numbered_ahead f g lead zero used t u r = pure_ahead [] _ _ r
    numbered_ahead f g lead (suc k) used t u r =
        then_ahead (new_number used) _ _ _ _
        (λ b. bind_ahead (f b t) (g b u) _ _ (λ (v : A). first v t) (λ (v : A). second v u) _ _ (lead b t u r)
        (λ v s. cons_ahead v t u (numbered_from k (b ∷ used) f first (first v t)) (numbered_from k (b ∷ used) g second (second v u)) (numbered_ahead f g lead k (b ∷ used) (first v t) (second v u) s))
        (λ v s. list_late second worse v u s (numbered_from k (b ∷ used) g second (second v u))))
