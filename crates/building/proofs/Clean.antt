-- A missing node holds no word: each step keeps it so, and a new node is one write.
use Prim.Native.Nat.{ℕ, ◌<◌}
use native.Mathlib.Decide.{ℕ_discrete}
use mathlib.Core.Bool.{Bool, true, false}
use mathlib.Core.List.{List, [], ◌∷◌, ◌++◌}
use mathlib.Core.Path.{◌≡◌, refl, sym, ap, ◌∙◌}
use lib.ListN.{length, get_or, set}
use lib.Seq.{get_or-set_same, get_or-set_other}
use lib.Dec.{eqb}
use borrow.Author.Tests.{eq-eqb, ne_eqb}
use Rattle.model.specs.Limits.{most_identifiers}
use Rattle.model.specs.Lists.{pick}
use Rattle.building.specs.Logs.{Logs, owner_w, without, any_w, once_w, Clean, create_l, edge_l, entry_l}

pub without_last : (t x w : ℕ) → (owner_w t w ≡ x → ⊥) → (l : List ℕ) → without t x (l ++ (w ∷ [])) ≡ without t x l ++ (w ∷ [])
unfolding without
without_last t x w h [] = rw (ne_eqb (owner_w t w) x h)
without_last t x w h (v ∷ l) = go (without_last t x w h l) (eqb (owner_w t v) x)
  where
    go : without t x (l ++ (w ∷ [])) ≡ without t x l ++ (w ∷ []) → (b : Bool) → pick b (without t x (l ++ (w ∷ []))) (v ∷ without t x (l ++ (w ∷ []))) ≡ pick b (without t x l) (v ∷ without t x l) ++ (w ∷ [])
    go ih true = ih
    go ih false = ap (λ (m : List ℕ). v ∷ m) ih

without_out : (t x w : ℕ) (l : List ℕ) → owner_w t w ≡ x → without t x (w ∷ l) ≡ without t x l
unfolding without
without_out t x w l e = rw (eq-eqb (owner_w t w) x e)

without_in : (t x w : ℕ) (l : List ℕ) → (owner_w t w ≡ x → ⊥) → without t x (w ∷ l) ≡ w ∷ without t x l
unfolding without
without_in t x w l e = rw (ne_eqb (owner_w t w) x e)

pub without_swap : (t x y : ℕ) (l : List ℕ) → without t x (without t y l) ≡ without t y (without t x l)
without_swap t x y [] = nil
  where
    nil : without t x (without t y []) ≡ without t y (without t x [])
    nil = unfold without in refl
without_swap t x y (w ∷ l) = go (without_swap t x y l) (ℕ_discrete (owner_w t w) x) (ℕ_discrete (owner_w t w) y)
  where
    go : without t x (without t y l) ≡ without t y (without t x l) → Dec (owner_w t w ≡ x) → Dec (owner_w t w ≡ y) → without t x (without t y (w ∷ l)) ≡ without t y (without t x (w ∷ l))
    go ih (yes p) (yes q) = ap (without t x) (without_out t y w l q) ∙ ih ∙ ap (without t y) (sym (without_out t x w l p))
    go ih (yes p) (no q) = ap (without t x) (without_in t y w l q) ∙ without_out t x w (without t y l) p ∙ ih ∙ ap (without t y) (sym (without_out t x w l p))
    go ih (no p) (yes q) = ap (without t x) (without_out t y w l q) ∙ ih ∙ sym (without_out t y w (without t x l) q) ∙ ap (without t y) (sym (without_in t x w l p))
    go ih (no p) (no q) =
        ap (without t x) (without_in t y w l q) ∙ without_in t x w (without t y l) p ∙ ap (λ (m : List ℕ). w ∷ m) ih
        ∙ sym (without_in t y w (without t x l) q) ∙ ap (without t y) (sym (without_in t x w l p))

module _ (t w x : ℕ) (values l : List ℕ) (there : get_or values (owner_w t w) 0 ≡ 0 → ⊥) (e : get_or values x 0 ≡ 0) (c : without t x l ≡ l) where
  other : owner_w t w ≡ x → ⊥
  other p = there (ap (λ (y : ℕ). get_or values y 0) p ∙ e)

  last_clean : without t x (l ++ (w ∷ [])) ≡ l ++ (w ∷ [])
  last_clean = without_last t x w other l ∙ ap (λ (m : List ℕ). m ++ (w ∷ [])) c

  once_clean : without t x (once_w w l) ≡ once_w w l
  unfolding once_w
  once_clean = go (any_w w l)
    where
      go : (b : Bool) → without t x (pick b l (l ++ (w ∷ []))) ≡ pick b l (l ++ (w ∷ []))
      go true = c
      go false = last_clean

pub clean_edge : (w : ℕ) (s : Logs) → Clean s → (get_or s.values (owner_w 0 w) 0 ≡ 0 → ⊥) → Clean (edge_l w s)
unfolding edge_l
clean_edge w s c h = record { edges = λ x k e. last_clean 0 w x s.values s.edges h e (c.edges x k e); entries = c.entries }

pub clean_entry : (w : ℕ) (s : Logs) → Clean s → (get_or s.values (owner_w 1 w) 0 ≡ 0 → ⊥) → Clean (entry_l w s)
unfolding entry_l
clean_entry w s c h = record { edges = c.edges; entries = λ x k e. once_clean 1 w x s.values s.entries h e (c.entries x k e) }

module _ (x n : ℕ) (v : List ℕ) (below : x < length v) (nonzero : n ≡ 0 → ⊥) (y : ℕ) (e : get_or (set v x n) y 0 ≡ 0) where
  differ : y ≡ x → ⊥
  differ p = nonzero (sym (get_or-set_same v x n 0 below) ∙ ap (λ (k : ℕ). get_or (set v x n) k 0) (sym p) ∙ e)

  was : get_or v y 0 ≡ 0
  was = sym (get_or-set_other v x y n 0 differ) ∙ e

pub clean_create : (x n : ℕ) (s : Logs) → Clean s → x < length s.values → (n ≡ 0 → ⊥) → Clean (create_l x n s)
unfolding create_l
clean_create x n s c h z = record {
  edges = λ y k e. without_swap 0 y x s.edges ∙ ap (without 0 x) (c.edges y k (was x n s.values h z y e));
  entries = λ y k e. without_swap 1 y x s.entries ∙ ap (without 1 x) (c.entries y k (was x n s.values h z y e));
}

-- a new node: one write
pub create_missing : (x n : ℕ) (s : Logs) → Clean s → x < most_identifiers → get_or s.values x 0 ≡ 0 → create_l x n s ≡ record { values = set s.values x n; edges = s.edges; entries = s.entries }
unfolding create_l
create_missing x n s c h e = rw (c.edges x h e, c.entries x h e)
