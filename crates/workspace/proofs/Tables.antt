-- A table of n elements, one of which is replaced.
use Prim.Native.Nat.{ℕ, zero, suc, ◌+◌, ◌≤◌, ◌<◌}
use native.Mathlib.Omega.{arith}
use native.Mathlib.Decide.{ℕ_discrete}
use mathlib.Core.List.{List, [], ◌∷◌, ◌++◌, map, map-append}
use mathlib.Core.Path.{◌≡◌, refl, sym, ap, ◌∙◌}
use native.Mathlib.Numerals.{add-one}
use lib.ListN.{length, get_or, set, drop, drop_of_length-le, length-append, length-set, get_or-append}
use lib.Seq.{drop-cons, get_or-set_same, get_or-set_other, get_or-append_seam, ext_get_or}
use Rattle.workspace.specs.Graph.{tab}

module _ {A : Type 0} where
  pub tab-length : (n : ℕ) (f : ℕ → A) → length (tab n f) ≡ n
  unfolding tab
  tab-length zero f = refl
  tab-length (suc n) f = omega (arith, length-append (tab n f) (f n ∷ []), tab-length n f)

  pub tab_at : (n : ℕ) (f : ℕ → A) (i : ℕ) (d : A) → i < n → get_or (tab n f) i d ≡ f i
  unfolding tab
  tab_at zero f i d h = absurd (omega arith)
  tab_at (suc n) f i d h = go (λ (k : i < n). tab_at n f i d k) (ℕ_discrete i n)
    where
      go : (i < n → get_or (tab n f) i d ≡ f i) → Dec (i ≡ n) → get_or (tab n f ++ (f n ∷ [])) i d ≡ f i
      go ih (yes e) =
          let p : i ≡ length (tab n f) = e ∙ sym (tab-length n f) in
          ap (λ (k : ℕ). get_or (tab n f ++ (f n ∷ [])) k d) p ∙ get_or-append_seam (tab n f) (f n) [] d ∙ ap f (sym e)
      go ih (no e) = let k : i < n = omega (arith, e) in get_or-append (tab n f) (f n ∷ []) d i (omega (arith, tab-length n f)) ∙ ih k

  pub tab-set : (n x : ℕ) (f g : ℕ → A) (v : A) → g x ≡ v → ((y : ℕ) → y < n → (y ≡ x → ⊥) → g y ≡ f y) → tab n g ≡ set (tab n f) x v
  tab-set n x f g v p q =
      ext_get_or v (tab n g) (set (tab n f) x v) (tab-length n g ∙ sym (length-set (tab n f) x v ∙ tab-length n f))
      (λ i h. let k : i < n = omega (arith, tab-length n g) in tab_at n g i v k ∙ go i k (ℕ_discrete i x))
    where
      go : (i : ℕ) → i < n → Dec (i ≡ x) → g i ≡ get_or (set (tab n f) x v) i v
      go i h (yes e) =
          let k : x < length (tab n f) = omega (arith, tab-length n f, e) in
          ap g e ∙ p ∙ sym (get_or-set_same (tab n f) x v v k) ∙ ap (λ (j : ℕ). get_or (set (tab n f) x v) j v) (sym e)
      go i h (no e) = q i h e ∙ sym (tab_at n f i v h) ∙ sym (get_or-set_other (tab n f) x i v v e)

  pub tab-same : (n : ℕ) (f g : ℕ → A) → ((y : ℕ) → y < n → f y ≡ g y) → tab n f ≡ tab n g
  unfolding tab
  tab-same zero f g e = refl
  tab-same (suc n) f g e = ap (λ (l : List A). l ++ (f n ∷ [])) (tab-same n f g (λ y h. e y (omega arith))) ∙ ap (λ (a : A). tab n g ++ (a ∷ [])) (e n (omega arith))

  -- ---- read from the front
  pub tab-drop : (n : ℕ) (f : ℕ → A) (i : ℕ) → i < n → drop i (tab n f) ≡ f i ∷ drop (i + 1) (tab n f)
  tab-drop n f i h =
      drop-cons (tab n f) i (f i) (omega (arith, tab-length n f)) ∙ ap (λ (a : A). a ∷ drop (suc i) (tab n f)) (tab_at n f i (f i) h)
      ∙ ap (λ (k : ℕ). f i ∷ drop k (tab n f)) (sym (add-one i))

  pub tab_end : (n : ℕ) (f : ℕ → A) (i : ℕ) → n ≤ i → drop i (tab n f) ≡ []
  tab_end n f i h = drop_of_length-le (tab n f) {i = i} (omega (arith, tab-length n f))

module _ {A B : Type 0} where
  pub tab-map : (n : ℕ) (f : ℕ → A) (g : A → B) → map g (tab n f) ≡ tab n (λ (i : ℕ). g (f i))
  unfolding tab
  tab-map zero f g = refl
  tab-map (suc n) f g = map-append g (tab n f) (f n ∷ []) ∙ ap (λ (l : List B). l ++ (g (f n) ∷ [])) (tab-map n f g)
