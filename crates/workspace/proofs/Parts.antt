-- Parts of a word list: slices, and what a write leaves of them. Each law is over the offsets.
use Prim.Native.Nat.{ℕ, zero, suc, ◌+◌, ◌-◌, ◌≤◌, ◌<◌}
use native.Mathlib.Omega.{arith}
use native.Mathlib.Nat.{add-zero, zero-add, add-suc, suc-add}
use mathlib.Core.Bool.{Bool, true, false}
use mathlib.Core.List.{List, [], ◌∷◌, ◌++◌}
use mathlib.Core.Path.{◌≡◌, refl, sym, ap, ◌∙◌}
use lib.ListN.{length, get_or, set, take, drop, length-set, length-append, take-append-drop}
use lib.Seq.{slice, sets, sets-eq, length-slice, length-take-le, take-set-le, take-set-lt, drop-set-lt, drop-set-add, get_or-take, get_or-drop, take-take, drop-drop, take_at, drop_at, drop-append-le, take-suc-set, ext_get_or}
use Rattle.model.specs.Lists.{pick}
use Rattle.workspace.specs.Rows.{Kept}

-- ---- slices
pub slice_at : (f t i : ℕ) (l : List ℕ) → f + i < t → get_or (slice f t l) i 0 ≡ get_or l (f + i) 0
slice_at f t i l h = get_or-drop f (take t l) i 0 ∙ get_or-take t l (f + i) 0 h

pub slice_slice : (f t a b : ℕ) (l : List ℕ) → f + b ≤ t → t ≤ length l → slice a b (slice f t l) ≡ slice (f + a) (f + b) l
slice_slice f t a b l h k =
    let n : length (slice f t l) ≡ t - f = length-slice f t l k in
    let p : length (slice a b (slice f t l)) ≡ b - a = length-slice a b (slice f t l) (omega arith) in
    let q : length (slice (f + a) (f + b) l) ≡ (f + b) - (f + a) = length-slice (f + a) (f + b) l (omega arith) in
    ext_get_or 0 (slice a b (slice f t l)) (slice (f + a) (f + b) l) (omega arith)
    (λ i j. slice_at a b i (slice f t l) (omega arith) ∙ slice_at f t (a + i) l (omega arith)
    ∙ ap (λ (m : ℕ). get_or l m 0) (omega arith) ∙ sym (slice_at (f + a) (f + b) i l (omega arith)))

-- two slices side by side
pub slice_split : (f m t : ℕ) (l : List ℕ) → f ≤ m → m ≤ t → m ≤ length l → slice f t l ≡ slice f m l ++ slice m t l
slice_split f m t l h k r =
    ap (drop f) (sym (take-append-drop m (take t l)) ∙ ap (λ (u : List ℕ). u ++ drop m (take t l)) (take-take m t l k))
    ∙ drop-append-le f (take m l) (drop m (take t l)) (omega (arith, h, length-take-le m l r))

slice_as : (f k : ℕ) (l : List ℕ) → drop f (take (f + k) l) ≡ take k (drop f l)
slice_as zero k l = ap (λ (n : ℕ). take n l) (zero-add k)
slice_as (suc f) zero [] = rw suc-add
slice_as (suc f) (suc k) [] = rw suc-add
slice_as (suc f) k (x ∷ l) = rw suc-add (slice_as f k l)

-- a slice below n only looks at the first n words
pub slice_take : (n f t : ℕ) (l l' : List ℕ) → t ≤ n → take n l ≡ take n l' → slice f t l ≡ slice f t l'
slice_take n f t l l' h e = ap (drop f) (sym (take-take t n l h) ∙ ap (take t) e ∙ take-take t n l' h)

-- a slice from n on only looks at what follows the first n words
pub slice_drop : (n f t : ℕ) (l l' : List ℕ) → n ≤ f → f ≤ t → drop n l ≡ drop n l' → slice f t l ≡ slice f t l'
slice_drop n f t l l' h k e =
    let p : t ≡ f + (t - f) = omega arith in
    let q : f ≡ n + (f - n) = omega arith in
    let w : (m : List ℕ) → slice f t m ≡ take (t - f) (drop (f - n) (drop n m)) =
    λ m. ap (λ (u : ℕ). drop f (take u m)) p ∙ slice_as f (t - f) m ∙ ap (take (t - f)) (ap (λ (u : ℕ). drop u m) q ∙ sym (drop-drop (f - n) n m)) in
    w l ∙ ap (λ (m : List ℕ). take (t - f) (drop (f - n) m)) e ∙ sym (w l')

pub slice_set_in : (f t i : ℕ) (l : List ℕ) (v : ℕ) → f + i < t → slice f t (set l (f + i) v) ≡ set (slice f t l) i v
slice_set_in f t i l v h = ap (drop f) (take-set-lt t l (f + i) v h) ∙ drop-set-add f (take t l) i v

-- ---- less of what is the same
pub drop_more : (e e' : ℕ) (l l' : List ℕ) → e ≤ e' → drop e l ≡ drop e l' → drop e' l ≡ drop e' l'
drop_more e e' l l' h p =
    let q : e' ≡ e + (e' - e) = omega arith in
    ap (λ (k : ℕ). drop k l) q ∙ sym (drop-drop (e' - e) e l) ∙ ap (drop (e' - e)) p ∙ drop-drop (e' - e) e l' ∙ ap (λ (k : ℕ). drop k l') (sym q)

pub take_less : (b b' : ℕ) (l l' : List ℕ) → b ≤ b' → take b' l ≡ take b' l' → take b l ≡ take b l'
take_less b b' l l' h p = sym (take-take b b' l h) ∙ ap (take b) p ∙ take-take b b' l' h

-- ---- a word of a part that is the same
pub drop-word : (n i : ℕ) (l l' : List ℕ) → n ≤ i → drop n l' ≡ drop n l → get_or l' i 0 ≡ get_or l i 0
drop-word n i l l' h e =
    let q : i ≡ n + (i - n) = omega arith in
    let f : (m : List ℕ) → get_or m i 0 ≡ get_or (drop n m) (i - n) 0 = λ m. ap (λ (k : ℕ). get_or m k 0) q ∙ sym (get_or-drop n m (i - n) 0) in
    f l' ∙ ap (λ (m : List ℕ). get_or m (i - n) 0) e ∙ sym (f l)

pub take-word : (n i : ℕ) (l l' : List ℕ) → i < n → take n l' ≡ take n l → get_or l' i 0 ≡ get_or l i 0
take-word n i l l' h e = sym (get_or-take n l' i 0 h) ∙ ap (λ (m : List ℕ). get_or m i 0) e ∙ get_or-take n l i 0 h

-- ---- one write
pub slice_more : (f e v : ℕ) (l : List ℕ) → f ≤ e → e < length l → slice f (suc e) (set l e v) ≡ slice f e l ++ (v ∷ [])
slice_more f e v l h k = ap (drop f) (take-suc-set l e v k) ∙ drop-append-le f (take e l) (v ∷ []) (omega (arith, length-take-le e l (omega arith)))

pub slice_before : (f e i v : ℕ) (l : List ℕ) → i < f → f ≤ e → slice f e (set l i v) ≡ slice f e l
slice_before f e i v l h k = slice_drop f f e (set l i v) l (omega arith) k (drop-set-lt f l i v h)

pub slice_after : (f e i v : ℕ) (l : List ℕ) → e ≤ i → slice f e (set l i v) ≡ slice f e l
slice_after f e i v l h = ap (drop f) (take-set-le e l i v h)

-- one word more at the end of a part
pub slice_push : (f e w : ℕ) (ws : List ℕ) → f + e < length ws → slice f (f + (e + 1)) (set ws (f + e) w) ≡ slice f (f + e) ws ++ (w ∷ [])
slice_push f e w ws h =
    let q : f + (e + 1) ≡ suc (f + e) = omega arith in
    ap (λ (j : ℕ). slice f j (set ws (f + e) w)) q ∙ slice_more f (f + e) w ws (omega arith) h

-- ---- a run of words
pub take_sets : (n : ℕ) (vs l : List ℕ) (top : ℕ) → n ≤ top → take n (sets l top vs) ≡ take n l
take_sets n [] l top h = refl
take_sets n (v ∷ vs) l top h = take_sets n vs (set l top v) (suc top) (omega arith) ∙ take-set-le n l top v h

pub sets_append : (a b l : List ℕ) (top : ℕ) → sets (sets l top a) (top + length a) b ≡ sets l top (a ++ b)
sets_append [] b l top = rw add-zero
sets_append (v ∷ a) b l top = rw (add-suc, ← suc-add) (sets_append a b (set l top v) (suc top))

pub drop_sets : (n : ℕ) (vs l : List ℕ) (top : ℕ) → top + length vs ≤ n → drop n (sets l top vs) ≡ drop n l
drop_sets n [] l top h = refl
drop_sets n (v ∷ vs) l top h = drop_sets n vs (set l top v) (suc top) (omega arith) ∙ drop-set-lt n l top v (omega arith)

pub slice_sets : (vs l : List ℕ) (f t : ℕ) → f + length vs ≡ t → t ≤ length l → slice f t (sets l f vs) ≡ vs
slice_sets vs l f t e h =
    let n : length (take f l) ≡ f = length-take-le f l (omega arith) in
    ap (λ (u : ℕ). drop f (take u (sets l f vs))) (sym e) ∙ ap (λ (m : List ℕ). drop f (take (f + length vs) m)) (sets-eq vs l f (omega arith))
    ∙ ap (drop f) (take_at (take f l ++ vs) (drop (f + length vs) l) (f + length vs) (omega (arith, length-append (take f l) vs))) ∙ drop_at (take f l) vs f n

-- ---- what is kept
pub kept_none : (b e : ℕ) (ws : List ℕ) → Kept b e ws ws
kept_none b e ws = record { low = refl; high = refl; same = refl }

pub kept_set : {b e : ℕ} {ws ws' : List ℕ} → Kept b e ws ws' → (i v : ℕ) → b ≤ i → i < e → Kept b e ws (set ws' i v)
kept_set {b} {e} {ws} {ws'} k i v h j = record {
  low = take-set-le b ws' i v h ∙ k.low;
  high = drop-set-lt e ws' i v j ∙ k.high;
  same = length-set ws' i v ∙ k.same;
}

pub kept_then : {b₁ e₁ b₂ e₂ : ℕ} (b e : ℕ) {ws₁ ws₂ ws₃ : List ℕ} → Kept b₁ e₁ ws₁ ws₂ → Kept b₂ e₂ ws₂ ws₃ → b ≤ b₁ → b ≤ b₂ → e₁ ≤ e → e₂ ≤ e → Kept b e ws₁ ws₃
kept_then {b₁} {e₁} {b₂} {e₂} b e {ws₁} {ws₂} {ws₃} p q h₁ h₂ k₁ k₂ = record {
  low = take_less b b₂ ws₃ ws₂ h₂ q.low ∙ take_less b b₁ ws₂ ws₁ h₁ p.low;
  high = drop_more e₂ e ws₃ ws₂ k₂ q.high ∙ drop_more e₁ e ws₂ ws₁ k₁ p.high;
  same = q.same ∙ p.same;
}

pub kept_at : {b e : ℕ} {ws ws' : List ℕ} → Kept b e ws ws' → (i : ℕ) → i < b → get_or ws' i 0 ≡ get_or ws i 0
kept_at {b} {e} {ws} {ws'} k i h = sym (get_or-take b ws' i 0 h) ∙ ap (λ (l : List ℕ). get_or l i 0) k.low ∙ get_or-take b ws i 0 h

-- ---- writes that stay below n, whatever they are
pub record Local (n : ℕ) (f : List ℕ → List ℕ) : Type 0 where
  pub len : (l : List ℕ) → length (f l) ≡ length l
  pub pre : (l : List ℕ) → take n (f l) ≡ f (take n l)
  pub post : (l : List ℕ) → drop n (f l) ≡ drop n l

pub local_id : (n : ℕ) → Local n (λ (l : List ℕ). l)
local_id n = record { len = λ l. refl; pre = λ l. refl; post = λ l. refl }

pub local_then : {n : ℕ} {f g : List ℕ → List ℕ} → Local n f → Local n g → Local n (λ (l : List ℕ). g (f l))
local_then {n} {f} {g} a b = record {
  len = λ l. b.len (f l) ∙ a.len l;
  pre = λ l. b.pre (f l) ∙ ap g (a.pre l);
  post = λ l. b.post (f l) ∙ a.post l;
}

pub local_set : (n i v : ℕ) → i < n → Local n (λ (l : List ℕ). set l i v)
local_set n i v h = record { len = λ l. length-set l i v; pre = λ l. take-set-lt n l i v h; post = λ l. drop-set-lt n l i v h }

local_pick_len : {n : ℕ} {f : List ℕ → List ℕ} → Local n f → (b : Bool) (l : List ℕ) → length (pick b (f l) l) ≡ length l
local_pick_len a true l = a.len l
local_pick_len a false l = refl

local_pick_pre : {n : ℕ} {f : List ℕ → List ℕ} → Local n f → (b : Bool) (l : List ℕ) → take n (pick b (f l) l) ≡ pick b (f (take n l)) (take n l)
local_pick_pre a true l = a.pre l
local_pick_pre a false l = refl

local_pick_post : {n : ℕ} {f : List ℕ → List ℕ} → Local n f → (b : Bool) (l : List ℕ) → drop n (pick b (f l) l) ≡ drop n l
local_pick_post a true l = a.post l
local_pick_post a false l = refl

-- a write under a test of one word below n
pub local_test : (n i : ℕ) (test : ℕ → Bool) {f : List ℕ → List ℕ} → i < n → Local n f → Local n (λ (l : List ℕ). pick (test (get_or l i 0)) (f l) l)
local_test n i test {f} h a = record {
  len = λ l. local_pick_len a (test (get_or l i 0)) l;
  pre = λ l. local_pick_pre a (test (get_or l i 0)) l ∙ ap (λ (w : ℕ). pick (test w) (f (take n l)) (take n l)) (sym (get_or-take n l i 0 h));
  post = λ l. local_pick_post a (test (get_or l i 0)) l;
}
