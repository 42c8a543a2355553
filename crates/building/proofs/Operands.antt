-- Phi operands: what waits, by the phis so far and the blocks that have come.
use Prim.Native.Nat.{ℕ, suc, ◌+◌, ◌≤◌, max}
use native.Mathlib.Omega.{arith}
use native.Mathlib.Decide.{ℕ_discrete}
use mathlib.Core.Bool.{Bool, true, false, not, ◌&&◌, ◌||◌}
use mathlib.Core.List.{List, [], ◌∷◌, ◌++◌, append-nil}
use mathlib.Core.Path.{◌≡◌, refl, sym, ap, ◌∙◌}
use lib.ListN.{length}
use lib.Seq.{append_snoc}
use lib.Dec.{eqb}
use borrow.Author.Tests.{eq-eqb, ne_eqb}
use Rattle.model.specs.Lists.{pick, cons_if, keep, each, gather, among, Every}
use Rattle.model.specs.Sheet.{BlockId, Place, Operand}
use Rattle.model.specs.Graph.{Graph, into_aliases, relate}
use Rattle.model.specs.Mutation.{Mutation, RenderOf}
use Rattle.model.specs.Built.{Built, Waiting, held_in, changed, waits, between, comes}
use Rattle.model.specs.Building.{operand, waiting_for, still_waiting, wake}
use Rattle.building.specs.Phis.{waiting_at, indexed, operands_of, waiting_of, stored}
use Rattle.building.specs.Built.{ends}
use Rattle.building.proofs.StoredMore.{stores, each_more}

pub built_eq : {g g' : Graph} {h h' : ℕ} {i i' : ℕ} {c c' : List ℕ} {w w' : List Waiting} {m m' : List Mutation} {n n' : List RenderOf} → g ≡ g' → h ≡ h' → i ≡ i' → c ≡ c' → w ≡ w' → m ≡ m' → n ≡ n'
    → ◌≡◌ {A = Built} (record { graph = g; held = h; index = i; come = c; waiting = w; mutations = m; renders = n }) (record { graph = g'; held = h'; index = i'; come = c'; waiting = w'; mutations = m'; renders = n' })
built_eq p o q r s t u = cc

-- ---- lists of which some are kept
module _ {A : Type 0} where
  pub keep_same : (f g : A → Bool) → ((a : A) → f a ≡ g a) → (l : List A) → keep f l ≡ keep g l
  keep_same f g e [] = refl
  keep_same f g e (a ∷ l) = ap (λ (b : Bool). cons_if b a (keep f l)) (e a) ∙ ap (cons_if (g a) a) (keep_same f g e l)

  pub keep_append : (f : A → Bool) (l m : List A) → keep f (l ++ m) ≡ keep f l ++ keep f m
  keep_append f [] m = refl
  keep_append f (a ∷ l) m = go (f a) (keep_append f l m)
    where
      go : (b : Bool) → keep f (l ++ m) ≡ keep f l ++ keep f m → cons_if b a (keep f (l ++ m)) ≡ cons_if b a (keep f l) ++ keep f m
      go true e = ap (λ (k : List A). a ∷ k) e
      go false e = e

  keep_keep : (f g : A → Bool) (l : List A) → keep f (keep g l) ≡ keep (λ (a : A). g a && f a) l
  keep_keep f g [] = refl
  keep_keep f g (a ∷ l) = go (g a) (keep_keep f g l)
    where
      go : (b : Bool) → keep f (keep g l) ≡ keep (λ (a : A). g a && f a) l → keep f (cons_if b a (keep g l)) ≡ cons_if (b && f a) a (keep (λ (a : A). g a && f a) l)
      go true e = ap (cons_if (f a) a) e
      go false e = e

  keep_none : (l : List A) → keep (λ (a : A). false) l ≡ []
  keep_none [] = refl
  keep_none (a ∷ l) = keep_none l

  pub every_last : (P : A → Type 0) (l : List A) (a : A) → Every P l → P a → Every P (l ++ (a ∷ []))
  every_last P [] a h p = (p, tt)
  every_last P (x ∷ l) a h p = (h.0, every_last P l a h.1 p)

module _ {A B : Type 0} where
  pub each_append : (f : A → B → B) (l m : List A) (b : B) → each f (l ++ m) b ≡ each f m (each f l b)
  each_append f [] m b = refl
  each_append f (a ∷ l) m b = each_append f l m (f a b)

  gather_last : (f : A → List B) (l : List A) (a : A) → gather f (l ++ (a ∷ [])) ≡ gather f l ++ f a
  gather_last f [] a = append-nil (f a)
  gather_last f (x ∷ l) a = ap (λ (k : List B). f x ++ k) (gather_last f l a) ∙ sym (assoc (f x) (gather f l) (f a))
    where
      assoc : (k l m : List B) → (k ++ l) ++ m ≡ k ++ (l ++ m)
      assoc [] l m = refl
      assoc (b ∷ k) l m = ap (λ (j : List B). b ∷ j) (assoc k l m)

pub stored-append : (test : Waiting → Bool) (l m : List Waiting) (g : Graph) → stored test (l ++ m) g ≡ stored test m (stored test l g)
unfolding stored
stored-append test l m g =
    ap (λ (k : List Waiting). each (λ (w : Waiting). relate into_aliases w.index w.origin w.into) k g) (keep_append test l m)
    ∙ each_append (λ (w : Waiting). relate into_aliases w.index w.origin w.into) (keep test l) (keep test m) g

pub stored_same : (f t : Waiting → Bool) → ((w : Waiting) → f w ≡ t w) → (l : List Waiting) (g : Graph) → stored f l g ≡ stored t l g
unfolding stored
stored_same f t e l g = ap (λ (k : List Waiting). each (λ (w : Waiting). relate into_aliases w.index w.origin w.into) k g) (keep_same f t e l)

-- ---- a phi's operands: those from blocks that have come are stored, the others wait
abbrev pub has_come : List BlockId → Waiting → Bool
has_come come w = among w.predecessor come

abbrev pub not_come : List BlockId → Waiting → Bool
not_come come w = not (among w.predecessor come)

-- what is known after them
abbrev pub operands_after : Place → List Operand → Built → Built
operands_after into l b = record {
  graph = stored (has_come b.come) (indexed into.identifier b.index l) b.graph;
  held = max b.held (held_in (stored (has_come b.come) (indexed into.identifier b.index l) b.graph));
  index = b.index + length l;
  come = b.come;
  waiting = b.waiting ++ keep (not_come b.come) (indexed into.identifier b.index l);
  mutations = b.mutations;
  renders = b.renders;
}

pub operands_are : (into : Place) (l : List Operand) (b : Built) → held_in b.graph ≤ b.held → each (operand into) l b ≡ operands_after into l b
unfolding stored indexed operand
operands_are into [] b h =
    let z : b.index ≡ b.index + 0 = omega arith in
    let m : b.held ≡ max b.held (held_in b.graph) = omega (arith, h) in
    built_eq refl m z refl (sym (append-nil b.waiting)) refl refl
operands_are into (o ∷ l) b h = go (operands_are into l) (among o.predecessor b.come)
  where
    first : Waiting
    first = waiting_at into.identifier b.index o

    rest : List Waiting
    rest = indexed into.identifier (suc b.index) l

    go : ((c : Built) → held_in c.graph ≤ c.held → each (operand into) l c ≡ operands_after into l c) → (t : Bool)
        → each (operand into) l (pick t (between (relate into_aliases) o.place into b) (waits o.predecessor o.place.identifier into.identifier b)) ≡ record {
          graph = each stores (cons_if t first (keep (has_come b.come) rest)) b.graph;
          held = max b.held (held_in (each stores (cons_if t first (keep (has_come b.come) rest)) b.graph));
          index = b.index + suc (length l);
          come = b.come;
          waiting = b.waiting ++ cons_if (not t) first (keep (not_come b.come) rest);
          mutations = b.mutations;
          renders = b.renders;
        }
    go ih true =
        let z : suc b.index + length l ≡ b.index + suc (length l) = omega arith in
        let c : Built = between (relate into_aliases) o.place into b in
        let m : max c.held (held_in (each stores (keep (has_come b.come) rest) c.graph)) ≡ max b.held (held_in (each stores (keep (has_come b.come) rest) c.graph)) = omega (arith, each_more (keep (has_come b.come) rest) c.graph) in
        ih c (omega arith) ∙ built_eq refl m z refl refl refl refl
    go ih false =
        let z : suc b.index + length l ≡ b.index + suc (length l) = omega arith in
        ih (waits o.predecessor o.place.identifier into.identifier b) h
        ∙ built_eq refl refl z refl (append_snoc b.waiting first (keep (not_come b.come) rest)) refl refl

pub operands_rise : (into : Place) (l : List Operand) (b : Built) → b.held ≤ (each (operand into) l b).held
unfolding operand
operands_rise into [] b = omega arith
operands_rise into (o ∷ l) b = omega (arith, operands_rise into l (operand into o b), go (among o.predecessor b.come))
  where
    go : (t : Bool) → b.held ≤ (pick t (between (relate into_aliases) o.place into b) (waits o.predecessor o.place.identifier into.identifier b)).held
    go true = omega arith
    go false = omega arith

pub waiting_last : (s phis : List ℕ) (come : List BlockId) (w : ℕ) → waiting_of s (phis ++ (w ∷ [])) come ≡ waiting_of s phis come ++ keep (not_come come) (operands_of s w)
unfolding waiting_of
waiting_last s phis come w = ap (keep (not_come come)) (gather_last (operands_of s) phis w) ∙ keep_append (not_come come) (gather (operands_of s) phis) (operands_of s w)

-- ---- a block's end
each_changed : (l : List Waiting) (b : Built) → held_in b.graph ≤ b.held → each (λ (w : Waiting). changed (stores w)) l b ≡ changed (each stores l) b
each_changed [] b h =
    let m : b.held ≡ max b.held (held_in b.graph) = omega (arith, h) in
    built_eq refl m refl refl refl refl refl
each_changed (w ∷ l) b h =
    let c : Built = changed (stores w) b in
    let m : max c.held (held_in (each stores l c.graph)) ≡ max b.held (held_in (each stores l c.graph)) = omega (arith, each_more l c.graph) in
    each_changed l c (omega arith) ∙ built_eq refl m refl refl refl refl refl

each_rises : (l : List Waiting) (b : Built) → b.held ≤ (each (λ (w : Waiting). changed (stores w)) l b).held
each_rises [] b = omega arith
each_rises (w ∷ l) b = omega (arith, each_rises l (changed (stores w) b))

pub ends_are : (n : BlockId) (b : Built) → held_in b.graph ≤ b.held → ends n b ≡ changed (stored (waiting_for n) b.waiting) (still_waiting n (comes n b))
unfolding wake stored
ends_are n b h = each_changed (keep (waiting_for n) b.waiting) (still_waiting n (comes n b)) h

pub ends_rise : (n : BlockId) (b : Built) → b.held ≤ (ends n b).held
unfolding wake
ends_rise n b = each_rises (keep (waiting_for n) b.waiting) (still_waiting n (comes n b))

pub eqb_sym : (n p : ℕ) → eqb n p ≡ eqb p n
eqb_sym n p = go (ℕ_discrete n p)
  where
    go : Dec (n ≡ p) → eqb n p ≡ eqb p n
    go (yes e) = eq-eqb n p e ∙ sym (eq-eqb p n (sym e))
    go (no e) = ne_eqb n p e ∙ sym (ne_eqb p n (λ q. e (sym q)))

module _ (s phis : List ℕ) (come : List BlockId) (n : BlockId) where
  abbrev all : List Waiting
  all = gather (operands_of s) phis

  -- the others go on waiting
  pub others_wait : waiting_of s phis (n ∷ come) ≡ keep (λ (w : Waiting). not (waiting_for n w)) (waiting_of s phis come)
  unfolding waiting_of
  others_wait = sym (keep_keep (λ (w : Waiting). not (waiting_for n w)) (not_come come) all ∙ keep_same (λ (w : Waiting). not_come come w && not (waiting_for n w)) (not_come (n ∷ come)) one all)
    where
      cases : (a b : Bool) → (not a && not b) ≡ not (b || a)
      cases true true = refl
      cases true false = refl
      cases false true = refl
      cases false false = refl

      one : (w : Waiting) → (not_come come w && not (waiting_for n w)) ≡ not_come (n ∷ come) w
      one w = ap (λ (b : Bool). not_come come w && not b) (eqb_sym n w.predecessor) ∙ cases (among w.predecessor come) (eqb w.predecessor n)

  -- what wakes: all from a new block, none from one that has come
  wakes : (t : Bool) → among n come ≡ t → (w : Waiting) → (not_come come w && waiting_for n w) ≡ (not t && waiting_for n w)
  wakes t e w = go (ℕ_discrete n w.predecessor)
    where
      none : (a : Bool) → (a && false) ≡ false
      none true = refl
      none false = refl

      go : Dec (n ≡ w.predecessor) → (not_come come w && waiting_for n w) ≡ (not t && waiting_for n w)
      go (yes q) = ap (λ (p : ℕ). not (among p come) && waiting_for n w) (sym q) ∙ ap (λ (b : Bool). not b && waiting_for n w) e
      go (no q) = ap (λ (b : Bool). not_come come w && b) (ne_eqb n w.predecessor q) ∙ none (not_come come w) ∙ sym (ap (λ (b : Bool). not t && b) (ne_eqb n w.predecessor q) ∙ none (not t))

  wake_kept : (t : Bool) → among n come ≡ t → keep (waiting_for n) (waiting_of s phis come) ≡ keep (λ (w : Waiting). not t && waiting_for n w) all
  unfolding waiting_of
  wake_kept t e = keep_keep (waiting_for n) (not_come come) all ∙ keep_same (λ (w : Waiting). not_come come w && waiting_for n w) (λ (w : Waiting). not t && waiting_for n w) (wakes t e) all

  pub all_wake : among n come ≡ false → keep (waiting_for n) (waiting_of s phis come) ≡ keep (waiting_for n) all
  all_wake e = wake_kept false e

  pub none_wakes : among n come ≡ true → keep (waiting_for n) (waiting_of s phis come) ≡ []
  none_wakes e = wake_kept true e ∙ keep_none all
