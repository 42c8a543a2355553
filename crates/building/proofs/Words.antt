-- The logs word by word: what a word more, or a holder's words less, is to each row.
use Prim.Native.Nat.{ℕ, ◌+◌, ◌*◌, ◌/◌, ◌%◌, ◌<◌}
use native.Mathlib.Omega.{arith}
use native.Mathlib.Decide.{ℕ_discrete}
use mathlib.Core.Bool.{Bool, true, false}
use mathlib.Core.List.{List, [], ◌∷◌, ◌++◌, map}
use mathlib.Core.Path.{◌≡◌, refl, sym, ap, ◌∙◌}
use lib.Dec.{eqb}
use borrow.Author.Tests.{eq-eqb, ne_eqb}
use Rattle.model.specs.Limits.{most_identifiers}
use Rattle.model.specs.Lists.{pick}
use Rattle.model.specs.Graph.{Entry, keeps_from, enter}
use Rattle.workspace.specs.Sort.{key_w, word_w, sel}
use Rattle.workspace.specs.Graph.{entry_row}
use Rattle.building.specs.Logs.{owner_w, without, any_p, any_w, once_w}

-- ---- a word more
pub sel_hit : (t k w : ℕ) → key_w t w ≡ k → (l : List ℕ) → sel t k (l ++ (w ∷ [])) ≡ sel t k l ++ (word_w t w ∷ [])
unfolding sel
sel_hit t k w h [] = rw (eq-eqb (key_w t w) k h)
sel_hit t k w h (v ∷ l) = go (sel_hit t k w h l) (eqb (key_w t v) k)
  where
    go : sel t k (l ++ (w ∷ [])) ≡ sel t k l ++ (word_w t w ∷ []) → (b : Bool) → pick b (word_w t v ∷ sel t k (l ++ (w ∷ []))) (sel t k (l ++ (w ∷ []))) ≡ pick b (word_w t v ∷ sel t k l) (sel t k l) ++ (word_w t w ∷ [])
    go ih true = ap (λ (m : List ℕ). word_w t v ∷ m) ih
    go ih false = ih

pub sel_miss : (t k w : ℕ) → (key_w t w ≡ k → ⊥) → (l : List ℕ) → sel t k (l ++ (w ∷ [])) ≡ sel t k l
unfolding sel
sel_miss t k w h [] = rw (ne_eqb (key_w t w) k h)
sel_miss t k w h (v ∷ l) = go (sel_miss t k w h l) (eqb (key_w t v) k)
  where
    go : sel t k (l ++ (w ∷ [])) ≡ sel t k l → (b : Bool) → pick b (word_w t v ∷ sel t k (l ++ (w ∷ []))) (sel t k (l ++ (w ∷ []))) ≡ pick b (word_w t v ∷ sel t k l) (sel t k l)
    go ih true = ap (λ (m : List ℕ). word_w t v ∷ m) ih
    go ih false = ih

-- ---- the words of x less
pub sel_own : (t k x : ℕ) → ((w : ℕ) → key_w t w ≡ k → owner_w t w ≡ x) → (l : List ℕ) → sel t k (without t x l) ≡ []
unfolding sel without
sel_own t k x h [] = refl
sel_own t k x h (w ∷ l) = go (sel_own t k x h l) (ℕ_discrete (owner_w t w) x)
  where
    go : sel t k (without t x l) ≡ [] → Dec (owner_w t w ≡ x) → sel t k (pick (eqb (owner_w t w) x) (without t x l) (w ∷ without t x l)) ≡ []
    go ih (yes e) = rw (eq-eqb (owner_w t w) x e) ih
    go ih (no e) = rw (ne_eqb (owner_w t w) x e, ne_eqb (key_w t w) k (λ p. e (h w p))) ih

pub sel-other : (t k x : ℕ) → ((w : ℕ) → key_w t w ≡ k → owner_w t w ≡ x → ⊥) → (l : List ℕ) → sel t k (without t x l) ≡ sel t k l
unfolding sel without
sel-other t k x h [] = refl
sel-other t k x h (w ∷ l) = go (sel-other t k x h l) (ℕ_discrete (owner_w t w) x)
  where
    go : sel t k (without t x l) ≡ sel t k l → Dec (owner_w t w ≡ x) → sel t k (pick (eqb (owner_w t w) x) (without t x l) (w ∷ without t x l)) ≡ pick (eqb (key_w t w) k) (word_w t w ∷ sel t k l) (sel t k l)
    go ih (yes e) = rw (eq-eqb (owner_w t w) x e, ne_eqb (key_w t w) k (λ p. h w p e)) ih
    go ih (no e) = rw (ne_eqb (owner_w t w) x e) (ap (λ (m : List ℕ). pick (eqb (key_w t w) k) (word_w t w ∷ m) m) ih)

-- ---- the keys
pub key_edge : (w x : ℕ) → key_w 0 w ≡ x → owner_w 0 w ≡ x
unfolding key_w owner_w
key_edge w x e = e

pub key_entry : (w x l : ℕ) → l < 4 → key_w 1 w ≡ 4 * x + l → owner_w 1 w ≡ x
unfolding key_w owner_w
key_entry w x l h e = omega (arith, e)

pub key_edge_is : (w : ℕ) → key_w 0 w ≡ w % 512
unfolding key_w
key_edge_is w = refl

pub key_entry_is : (w : ℕ) → key_w 1 w ≡ 4 * (w / 512 % 512) + w / 262144 % 4
unfolding key_w
key_entry_is w = omega arith

-- ---- the duplicate test
origin_is : (v : ℕ) → (entry_row (word_w 1 v)).origin ≡ v % 512
unfolding entry_row word_w
origin_is v = omega arith

entry_index : (w : ℕ) → (w % 512 + 2048 * (w / 1048576)) / 2048 ≡ w / 1048576
entry_index w = omega arith

entry_origin : (w : ℕ) → (w % 512 + 2048 * (w / 1048576)) % 512 ≡ w % 512
entry_origin w = omega arith

entry_is : (w : ℕ) → entry_row (word_w 1 w) ≡ record { origin = w % 512; index = w / 1048576 }
unfolding entry_row word_w
entry_is w = rw (entry_origin w, entry_index w)

-- the low 20 bits of a word
digits : (w : ℕ) → w % 1048576 ≡ w % 512 + 512 * (w / 512 % 512) + 262144 * (w / 262144 % 4)
digits w = omega arith

record Same (a b c a' b' c' : ℕ) : Type 0 where
  pub low : a ≡ a'
  pub mid : b ≡ b'
  pub high : c ≡ c'

same_digits : (a b c a' b' c' : ℕ) → a < most_identifiers → b < most_identifiers → a' < most_identifiers → b' < most_identifiers → a + 512 * b + 262144 * c ≡ a' + 512 * b' + 262144 * c' → Same a b c a' b' c'
same_digits a b c a' b' c' h k h' k' e = record { low = omega arith; mid = omega arith; high = omega arith }

same_parts : (v w : ℕ) → v % 1048576 ≡ w % 1048576 → Same (v % 512) (v / 512 % 512) (v / 262144 % 4) (w % 512) (w / 512 % 512) (w / 262144 % 4)
same_parts v w e = same_digits (v % 512) (v / 512 % 512) (v / 262144 % 4) (w % 512) (w / 512 % 512) (w / 262144 % 4) (omega arith) (omega arith) (omega arith) (omega arith) (sym (digits v) ∙ e ∙ digits w)

same_key : (v w : ℕ) → v % 1048576 ≡ w % 1048576 → key_w 1 v ≡ key_w 1 w
unfolding key_w
same_key v w e = let s : Same (v % 512) (v / 512 % 512) (v / 262144 % 4) (w % 512) (w / 512 % 512) (w / 262144 % 4) = same_parts v w e in rw (s.mid, s.high)

key_digits : (b c b' c' : ℕ) → c < 4 → c' < 4 → b * 4 + c ≡ b' * 4 + c' → (b ≡ b') × (c ≡ c')
key_digits b c b' c' h h' e = (omega arith, omega arith)

same_word : (v w : ℕ) → key_w 1 v ≡ key_w 1 w → v % 512 ≡ w % 512 → v % 1048576 ≡ w % 1048576
unfolding key_w
same_word v w e h =
    let k : (v / 512 % 512 ≡ w / 512 % 512) × (v / 262144 % 4 ≡ w / 262144 % 4) = key_digits (v / 512 % 512) (v / 262144 % 4) (w / 512 % 512) (w / 262144 % 4) (omega arith) (omega arith) e in
    digits v ∙ (rw (h, k.0, k.1)) ∙ sym (digits w)

pub keeps_any : (w : ℕ) (l : List ℕ) → keeps_from (w % 512) (map entry_row (sel 1 (key_w 1 w) l)) ≡ any_w w l
unfolding sel any_p
keeps_any w [] = refl
keeps_any w (v ∷ l) = go (keeps_any w l) (ℕ_discrete (key_w 1 v) (key_w 1 w)) (ℕ_discrete (w % 512) (v % 512))
  where
    go : keeps_from (w % 512) (map entry_row (sel 1 (key_w 1 w) l)) ≡ any_w w l → Dec (key_w 1 v ≡ key_w 1 w) → Dec (w % 512 ≡ v % 512)
        → keeps_from (w % 512) (map entry_row (pick (eqb (key_w 1 v) (key_w 1 w)) (word_w 1 v ∷ sel 1 (key_w 1 w) l) (sel 1 (key_w 1 w) l))) ≡ pick (eqb (v % 1048576) (w % 1048576)) true (any_w w l)
    go ih (no e) d = rw (ne_eqb (key_w 1 v) (key_w 1 w) e, ne_eqb (v % 1048576) (w % 1048576) (λ p. e (same_key v w p))) ih
    go ih (yes e) (yes d) = rw (eq-eqb (key_w 1 v) (key_w 1 w) e, origin_is v, eq-eqb (w % 512) (v % 512) d, eq-eqb (v % 1048576) (w % 1048576) (same_word v w e (sym d)))
    go ih (yes e) (no d) = rw (eq-eqb (key_w 1 v) (key_w 1 w) e, origin_is v, ne_eqb (w % 512) (v % 512) d, ne_eqb (v % 1048576) (w % 1048576) (λ p. d (sym (same_parts v w p).low))) ih

map_last : (w : ℕ) (l : List ℕ) → map entry_row (l ++ (w ∷ [])) ≡ map entry_row l ++ (entry_row w ∷ [])
map_last w [] = refl
map_last w (v ∷ l) = ap (λ (m : List Entry). entry_row v ∷ m) (map_last w l)

-- one entry more, unless there is one
pub once_own : (w : ℕ) (l : List ℕ) → map entry_row (sel 1 (key_w 1 w) (once_w w l)) ≡ enter (w % 512) (w / 1048576) (map entry_row (sel 1 (key_w 1 w) l))
unfolding once_w enter
once_own w l = rw (keeps_any w l) (go (any_w w l))
  where
    go : (b : Bool) → map entry_row (sel 1 (key_w 1 w) (pick b l (l ++ (w ∷ [])))) ≡ pick b (map entry_row (sel 1 (key_w 1 w) l)) (map entry_row (sel 1 (key_w 1 w) l) ++ (record { origin = w % 512; index = w / 1048576 } ∷ []))
    go true = refl
    go false = ap (map entry_row) (sel_hit 1 (key_w 1 w) w refl l) ∙ map_last (word_w 1 w) (sel 1 (key_w 1 w) l) ∙ ap (λ (e : Entry). map entry_row (sel 1 (key_w 1 w) l) ++ (e ∷ [])) (entry_is w)

pub once_other : (w k : ℕ) (l : List ℕ) → (key_w 1 w ≡ k → ⊥) → sel 1 k (once_w w l) ≡ sel 1 k l
unfolding once_w
once_other w k l h = go (any_w w l)
  where
    go : (b : Bool) → sel 1 k (pick b l (l ++ (w ∷ []))) ≡ sel 1 k l
    go true = refl
    go false = sel_miss 1 k w h l
