-- Lists that are gathered.
use mathlib.Core.Path.{◌≡◌, refl, sym, ap, subst, ◌∙◌}
use mathlib.Core.Bool.{Bool, true, false}
use mathlib.Core.List.Memᴰ
use mathlib.Core.List.{List, [], ◌∷◌, ◌++◌, map, append_assoc, Memᴰ}
use Rattle.model.specs.Lists.{gather, keep, cons_if, list_if}

module _ {A B : Type 0} (f : A → List B) where
  -- of two lists in a row
  pub gather_append : (l r : List A) → gather f (l ++ r) ≡ gather f l ++ gather f r
  gather_append [] r = refl
  gather_append (a ∷ l) r = ap (λ (z : List B). f a ++ z) (gather_append l r) ∙ sym (append_assoc (f a) (gather f l) (gather f r))

  -- what is in a member's list
  pub mem_gather : {a : A} {l : List A} {b : B} → Memᴰ a l → Memᴰ b (f a) → Memᴰ b (gather f l)
  mem_gather {b = c} (Memᴰ.head {x = a} {xs = l} e) h = Memᴰ.append_left (gather f l) (subst (λ (z : A). Memᴰ c (f z)) e h)
  mem_gather (Memᴰ.tail {x = a} {xs = l} m) h = Memᴰ.append_right (f a) (mem_gather m h)

module _ {A B C : Type 0} (f : B → List C) (g : A → List B) where
  -- of a gathered list
  pub gather_gather : (l : List A) → gather f (gather g l) ≡ gather (λ (a : A). gather f (g a)) l
  gather_gather [] = refl
  gather_gather (a ∷ l) = gather_append f (g a) (gather g l) ∙ ap (λ (z : List C). gather f (g a) ++ z) (gather_gather l)

-- by equal functions
pub gather_same : {A B : Type 0} (f g : A → List B) → ((a : A) → f a ≡ g a) → (l : List A) → gather f l ≡ gather g l
gather_same f g e [] = refl
gather_same {A} {B} f g e (a ∷ l) = ap (λ (z : List B). z ++ gather f l) (e a) ∙ ap (λ (z : List B). g a ++ z) (gather_same f g e l)

module _ {A B : Type 0} (p : A → Bool) (f : A → List B) where
  -- of those that are kept
  pub gather_keep : (l : List A) → gather (λ (a : A). list_if (p a) (f a)) l ≡ gather f (keep p l)
  gather_keep [] = refl
  gather_keep (a ∷ l) = go (gather_keep l) (p a)
    where
      go : gather (λ (x : A). list_if (p x) (f x)) l ≡ gather f (keep p l) → (b : Bool) → list_if b (f a) ++ gather (λ (x : A). list_if (p x) (f x)) l ≡ gather f (cons_if b a (keep p l))
      go ih true = ap (λ (z : List B). f a ++ z) ih
      go ih false = ih

module _ {A B C : Type 0} (f : B → List C) (g : A → B) where
  -- of a list of images
  pub gather_map : (l : List A) → gather f (map g l) ≡ gather (λ (a : A). f (g a)) l
  gather_map [] = refl
  gather_map (a ∷ l) = ap (λ (z : List C). f (g a) ++ z) (gather_map l)

-- of empty lists
pub gather_none : {A B : Type 0} (f : A → List B) → ((a : A) → f a ≡ []) → (l : List A) → gather f l ≡ []
gather_none f e [] = refl
gather_none f e (a ∷ l) = rw (e a) (gather_none f e l)
