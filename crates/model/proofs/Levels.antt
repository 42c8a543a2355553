-- The transitive records after a list of transitive mutations: the kind is the highest at which one of their walks accepted the identifier. Local records stay as they were.
use Prim.Native.Nat.{ℕ, ◌≤◌, ◌<◌, max}
use native.Mathlib.Omega.{arith}
use mathlib.Core.Path.{◌≡◌, refl, sym, ap, subst, ◌∙◌}
use mathlib.Core.Bool.{Bool, true, false, false≢true}
use mathlib.Core.List.{List, [], ◌∷◌, Memᴰ}
use mathlib.Core.Option.{Option, none, some}
use lib.ListN.{length, get_or, set}
use lib.Dec.{eqb, ltb}
use borrow.Author.Tests.{eqb-true, eq-eqb, ltb-true, ltb-false}
use Rattle.model.specs.Lists.{pick}
use Rattle.model.specs.Graph.{Node}
use Rattle.model.specs.Mutation.{level, Mutation}
use Rattle.model.specs.State.{Info, Record, no_record, State, Mode, highest, touch, accepts}
use Rattle.model.specs.Walks.{Item, mutate}
use Rattle.model.specs.Runs.{after}
use Rattle.model.proofs.GraphAlone.{mutate_alike}
use Rattle.model.proofs.Ends.{mutate_graph}
use Rattle.model.proofs.Raised.{level-max}
use Rattle.model.proofs.Follow.{OnlyTransitive, accepted_transitive}
use Rattle.model.proofs.Touched.{touched_at, part_length, part_at}

-- the largest over the members, 0 if there is none
module _ {A : Type 0} (f : A → ℕ) where
  abbrev pub largest : List A → ℕ
  largest [] = 0
  largest (a ∷ l) = max (f a) (largest l)

  pub member_largest : {a : A} {l : List A} → Memᴰ a l → f a ≤ largest l
  member_largest (Memᴰ.head {x = b} {xs = l} e) = let h = ap f e in omega arith
  member_largest (Memᴰ.tail {x = b} {xs = l} m) = let h = member_largest m in omega arith

  pub largest_member : (l : List A) → 0 < largest l → (a : A) × Memᴰ a l × (f a ≡ largest l)
  largest_member [] h = absurd (omega arith)
  largest_member (a ∷ l) h = go (ltb (f a) (largest l)) refl (λ k. largest_member l k)
    where
      go : (t : Bool) → ltb (f a) (largest l) ≡ t → (0 < largest l → (b : A) × Memᴰ b l × (f b ≡ largest l))
          → (b : A) × Memᴰ b (a ∷ l) × (f b ≡ max (f a) (largest l))
      go true e again =
          let n : f a < largest l = ltb-true _ _ e in
          let w = again (omega arith) in
          (w.0, Memᴰ.tail w.1, omega (arith, w.2))
      go false e again = let n : largest l ≤ f a = ltb-false _ _ e in (a, Memᴰ.head refl, omega arith)

  pub largest_most : (b : ℕ) → ((a : A) → f a ≤ b) → (l : List A) → largest l ≤ b
  largest_most b h [] = omega arith
  largest_most b h (a ∷ l) = omega (arith, h a, largest_most b h l)

-- the level of a record's kind, 0 if there is none
abbrev pub info_level : Option Info → ℕ
info_level none = 0
info_level (some i) = level i.kind

-- the level of an entry, if it is x's
abbrev pub level_of : ℕ → Item → ℕ
level_of x e = pick (eqb x e.identifier) (level e.kind) 0

pub level_own : (x : ℕ) (e : Item) → e.identifier ≡ x → level_of x e ≡ level e.kind
level_own x e h = rw (eq-eqb x e.identifier (sym h))

pub level_most : (x : ℕ) (e : Item) → level_of x e ≤ 2
level_most x e = go (eqb x e.identifier)
  where
    go : (b : Bool) → pick b (level e.kind) 0 ≤ 2
    go true = level-max e.kind
    go false = omega arith

pub own_level : (x : ℕ) (e : Item) → 0 < level_of x e → (e.identifier ≡ x) × (level e.kind ≡ level_of x e)
own_level x e h = go (eqb x e.identifier) refl h
  where
    go : (b : Bool) → eqb x e.identifier ≡ b → 0 < pick b (level e.kind) 0 → (e.identifier ≡ x) × (level e.kind ≡ pick b (level e.kind) 0)
    go true eb k = (sym (eqb-true x e.identifier eb), refl)
    go false eb k = absurd (omega arith)

highest-level : (o : Option Info) (b : Info) → info_level (highest o b) ≡ max (level b.kind) (info_level o)
highest-level none b = omega arith
highest-level (some a) b = go (ltb (level a.kind) (level b.kind)) refl
  where
    go : (t : Bool) → ltb (level a.kind) (level b.kind) ≡ t → level (pick t b a).kind ≡ max (level b.kind) (level a.kind)
    go true h = let k : level a.kind < level b.kind = ltb-true _ _ h in omega arith
    go false h = let k : level b.kind ≤ level a.kind = ltb-false _ _ h in omega arith

-- the record q is r after transitive entries, n the highest of their levels
pub record Raised (n : ℕ) (r q : Record) : Type 0 where
  pub transitive : info_level q.transitive ≡ max n (info_level r.transitive)
  pub local : q.local ≡ r.local

module _ (how : Mode) (m : Mutation) where
  -- what an accepted entry makes of a record
  abbrev recorded : Item → Record → Record
  recorded e r = touch e.transitive m (record { kind = e.kind; span = m.span }) r

  accepted : (e : Item) (n : Node) (s : State)
      → (accepts how m e.identifier n.value e.transitive e.kind s).records ≡ set s.records e.identifier (recorded e (get_or s.records e.identifier no_record))
  unfolding accepts
  accepted e n s = refl

  records_length : (s : State) → length (mutate how m s).state.records ≡ length s.records
  records_length s = part_length no_record recorded how m (λ (t : State). t.records) accepted s

  raised_at : (x : ℕ) (l : List Item) (r : Record) → ((e : Item) → Memᴰ e l → e.transitive ≡ true) → Raised (largest (level_of x) l) r (touched_at no_record recorded x l r)
  raised_at x [] r t = record { transitive = omega arith; local = refl }
  raised_at x (e ∷ l) r t = go (eqb x e.identifier) e.transitive (t e (Memᴰ.head refl)) (raised_at x l r (λ f k. t f (Memᴰ.tail k)))
    where
      info : Info
      info = record { kind = e.kind; span = m.span }

      rest : Record
      rest = touched_at no_record recorded x l r

      go : (b c : Bool) → c ≡ true → Raised (largest (level_of x) l) r rest
          → Raised (max (pick b (level e.kind) 0) (largest (level_of x) l)) r (pick b (touch c m info rest) rest)
      go false c h k = record { transitive = omega (arith, k.transitive); local = k.local }
      go true true h k = record { transitive = omega (arith, highest-level rest.transitive info, k.transitive); local = k.local }
      go true false h k = absurd (false≢true h)

  -- so after one transitive mutation
  mutate-raised : (s : State) (x : ℕ) → x < length s.records → m.transitive ≡ true
      → Raised (largest (level_of x) (mutate how m s).accepted) (get_or s.records x no_record) (get_or (mutate how m s).state.records x no_record)
  unfolding mutate
  mutate-raised s x h t =
      subst (Raised (largest (level_of x) (mutate how m s).accepted) (get_or s.records x no_record))
      (sym (part_at no_record recorded how m (λ (t : State). t.records) accepted s x h))
      (raised_at x (mutate how m s).accepted (get_or s.records x no_record) (accepted_transitive how _ s m t))

-- the highest level at which the walk of m on s₀ accepts x
abbrev pub level_by : Mode → State → ℕ → Mutation → ℕ
level_by how s₀ x m = largest (level_of x) (mutate how m s₀).accepted

-- after a list of transitive mutations: each accepts what it accepts on the graph as built
module _ (how : Mode) (s₀ : State) (x : ℕ) where
  pub after-raised : (ms : List Mutation) (s : State) → s.graph ≡ s₀.graph → x < length s.records → OnlyTransitive ms
      → Raised (largest (level_by how s₀ x) ms) (get_or s.records x no_record) (get_or (after how ms s).records x no_record)
  unfolding after
  after-raised [] s g h t = record { transitive = omega arith; local = refl }
  after-raised (m ∷ ms) s g h t =
      let s₁ : State = (mutate how m s).state in
      let one = mutate-raised how m s x h t.0 in
      let rest = after-raised ms s₁ (mutate_graph how m s ∙ g) (omega (arith, h, records_length how m s)) t.1 in
      let same : level_by how s x m ≡ level_by how s₀ x m = ap (λ (l : List Item). largest (level_of x) l) (mutate_alike how how m s s₀ g).accepted in
      record { transitive = omega (arith, one.transitive, rest.transitive, same); local = rest.local ∙ one.local }
