-- The words after one conditional write, and such writes as they stay below a bound.
use Prim.Native.Nat.{ℕ, ◌+◌, ◌*◌, ◌/◌, ◌%◌, ◌≤◌, ◌<◌, max}
use native.Mathlib.Omega.{arith}
use mathlib.Core.Bool.{Bool, true, false}
use mathlib.Core.List.{List}
use mathlib.Core.Path.{◌≡◌, refl, sym, ap, ◌∙◌}
use lib.ListN.{length, get_or, set, take}
use native.Mathlib.Decide.{dec_lt}
use lib.Seq.{set-get_or, get_or-take, get_or-set_same, get_or-set_other}
use lib.Dec.{ltb, eqb}
use borrow.Author.Tests.{ltb-true, eqb-true, lt-ltb, le-ltb}
use Rattle.model.specs.Limits.{most_identifiers}
use Rattle.model.specs.Lists.{pick}
use Rattle.workspace.specs.Layout.{RECORD, LSPAN, TSPAN, END, SEEN}
use Rattle.workspace.proofs.Parts.{Local, local_id, local_set, local_then, local_test}
use Rattle.aliasing.specs.Accepts.{raise_w, kept_word, span_w, write_w, record_w, accept_w}
use denote.Enum.Declared.{tag_of}
use mir.Val.{bool_byte}
use Rattle.std.specs.Prelude.{is_some}
use Rattle.hir.specs.declared.MutationKind.{MutationKind}
use Rattle.hir.specs.contracts.MutationKind.{the_type}
use Rattle.hir.specs.Mutations.{kind_bit, reason_bit}
use Rattle.aliasing.specs.Says.{bit}
use Rattle.aliasing.proofs.Bits.{bit_is, tag_bit, some_bit}
use Rattle.aliasing.specs.declared.mutation.Mutation.{Mutation}
use Rattle.aliasing.proofs.Packed.{kept_transitive, kept_local}

pick_other : (b : Bool) (l m : List ℕ) (j : ℕ) → get_or m j 0 ≡ get_or l j 0 → get_or (pick b m l) j 0 ≡ get_or l j 0
pick_other true l m j h = h
pick_other false l m j h = refl

pick_at : (b : Bool) (l m : List ℕ) (j v : ℕ) → get_or m j 0 ≡ v → get_or (pick b m l) j 0 ≡ pick b v (get_or l j 0)
pick_at true l m j v h = h
pick_at false l m j v h = refl

-- ---- the larger
pub raise_other : (l : List ℕ) (i v j : ℕ) → (j ≡ i → ⊥) → get_or (raise_w l i v) j 0 ≡ get_or l j 0
unfolding raise_w
raise_other l i v j h = pick_other (ltb (get_or l i 0) v) l (set l i v) j (get_or-set_other l i j v 0 h)

pub raise_same : (l : List ℕ) (i v : ℕ) → i < length l → get_or (raise_w l i v) i 0 ≡ pick (ltb (get_or l i 0) v) v (get_or l i 0)
unfolding raise_w
raise_same l i v h = pick_at (ltb (get_or l i 0) v) l (set l i v) i v (get_or-set_same l i v 0 h)

-- nothing is below 0, and so an unset end moves none
pub raise_unset : (l : List ℕ) (i v : ℕ) (t : Bool) → t ≡ eqb v 0 → t ≡ true → l ≡ raise_w l i v
unfolding raise_w
raise_unset l i v t e h = go (ltb (get_or l i 0) v) refl
  where
    go : (b : Bool) → ltb (get_or l i 0) v ≡ b → l ≡ pick b (set l i v) l
    go true f = absurd (omega (arith, ltb-true (get_or l i 0) v f, eqb-true v 0 (sym e ∙ h)))
    go false f = refl

-- the larger, written always
pub raised_word : (l : List ℕ) (i v : ℕ) → set l i (max (get_or l i 0) v) ≡ raise_w l i v
unfolding raise_w
raised_word l i v = go (dec_lt (get_or l i 0) v)
  where
    go : Dec (get_or l i 0 < v) → set l i (max (get_or l i 0) v) ≡ pick (ltb (get_or l i 0) v) (set l i v) l
    go (yes h) = let e : max (get_or l i 0) v ≡ v = omega arith in rw (lt-ltb (get_or l i 0) v h, e)
    go (no h) = let e : max (get_or l i 0) v ≡ get_or l i 0 = omega arith in rw (le-ltb (get_or l i 0) v (omega (arith, h)), e) (set-get_or l i 0)

-- ---- a span
module _ (l : List ℕ) (i kind level s : ℕ) where
  pub span_other : (j : ℕ) → (j ≡ i → ⊥) → get_or (span_w l i kind level s) j 0 ≡ get_or l j 0
  unfolding span_w
  span_other j h = pick_other (ltb kind level) l (set l i s) j (get_or-set_other l i j s 0 h)

  pub span_same : i < length l → get_or (span_w l i kind level s) i 0 ≡ pick (ltb kind level) s (get_or l i 0)
  unfolding span_w
  span_same h = pick_at (ltb kind level) l (set l i s) i s (get_or-set_same l i s 0 h)

-- ---- writes that stay below n
local_raise : (n i v : ℕ) → i < n → Local n (λ (l : List ℕ). raise_w l i v)
unfolding raise_w
local_raise n i v h = local_test n i (λ w. ltb w v) h (local_set n i v h)

local_span : (n i kind level s : ℕ) → i < n → Local n (λ (l : List ℕ). span_w l i kind level s)
unfolding span_w
local_span n i kind level s h = go (ltb kind level)
  where
    go : (b : Bool) → Local n (λ (l : List ℕ). pick b (set l i s) l)
    go true = local_set n i s h
    go false = local_id n

-- what is written goes by a word below n
local_word : (n i : ℕ) (f : ℕ → List ℕ → List ℕ) → i < n → ((w : ℕ) → Local n (f w)) → Local n (λ (l : List ℕ). f (get_or l i 0) l)
local_word n i f h a = record {
  len = λ l. (a (get_or l i 0)).len l;
  pre = λ l. (a (get_or l i 0)).pre l ∙ ap (λ (w : ℕ). f w (take n l)) (sym (get_or-take n l i 0 h));
  post = λ l. (a (get_or l i 0)).post l;
}

pub span_below : (b : Bool) (x : ℕ) → x < most_identifiers → pick b (TSPAN + x) (LSPAN + x) < END
span_below true x h = omega arith
span_below false x h = omega arith

local_write : (w x t k : ℕ) (m : Mutation) → x < most_identifiers → Local SEEN (λ (l : List ℕ). write_w w l x t k m)
unfolding write_w
local_write w x t k m h =
    local_then (local_set SEEN (RECORD + x) (kept_word w t k (reason_bit m.reason) m.index) (omega arith))
    (local_span SEEN (pick (eqb t 1) (TSPAN + x) (LSPAN + x)) (pick (eqb t 1) (w / 4 % 4) (w % 4)) k m.span (omega (arith, span_below (eqb t 1) x h)))

pub local_record : (x t k : ℕ) (m : Mutation) → x < most_identifiers → Local SEEN (λ (l : List ℕ). record_w l x t k m)
unfolding record_w
local_record x t k m h = local_word SEEN (RECORD + x) (λ w l. write_w w l x t k m) (omega arith) (λ w. local_write w x t k m h)

pub local_accept : (x t k : ℕ) (m : Mutation) → x < most_identifiers → Local SEEN (λ (l : List ℕ). accept_w l x t k m)
unfolding accept_w
local_accept x t k m h = local_then (local_record x t k m h) (local_raise SEEN (END + x) m.end.0 (omega arith))

-- ---- the arms of `record`: the word, and the span where the kind is below the level
module _ (ws : List ℕ) (x : ℕ) (kind : MutationKind) (m : Mutation) where
  abbrev w : ℕ
  w = get_or ws (RECORD + x) 0

  abbrev k : ℕ
  k = kind_bit kind + 1

  recorded : {v : ℕ} (b c : Bool) → c ≡ ltb (pick b (w / 4 % 4) (w % 4)) k → v ≡ kept_word w (bit b) k (reason_bit m.reason) m.index
      → pick c (set (set ws (RECORD + x) v) (pick b (TSPAN + x) (LSPAN + x)) m.span) (set ws (RECORD + x) v) ≡ record_w ws x (bit b) k m
  unfolding record_w write_w span_w
  recorded {v} b c f h =
      ap (λ (d : Bool). pick d (set (set ws (RECORD + x) v) (pick b (TSPAN + x) (LSPAN + x)) m.span) (set ws (RECORD + x) v)) f
      ∙ rw (bit_is b) (λ j. span_w (set ws (RECORD + x) (h j)) (pick b (TSPAN + x) (LSPAN + x)) (pick b (w / 4 % 4) (w % 4)) k m.span)

  module _ {some : Bool} {reason_is r i : ℕ} (t : Bool) (is : some ≡ is_some m.reason) (bit_of_it : reason_is ≡ bool_byte some) (reason : r ≡ max (w / 16 % 2) reason_is) (last : i ≡ max (w / 32) m.index) where
    reason_kept : r ≡ max (w / 16 % 2) (reason_bit m.reason)
    reason_kept = reason ∙ ap (max (w / 16 % 2)) (bit_of_it ∙ ap bool_byte is ∙ some_bit m.reason)

    pub transitive_higher : {v : ℕ} → t ≡ true → v ≡ max (w / 4 % 4) (tag_of the_type kind + 1) → w / 4 % 4 < tag_of the_type kind + 1
        → set (set ws (RECORD + x) (w % 4 + 4 * v + (16 * r + 32 * i))) (TSPAN + x) m.span ≡ record_w ws x (bit t) k m
    transitive_higher {v} e q h = rw e (recorded true true (sym (lt-ltb (w / 4 % 4) k (omega (arith, tag_bit kind)))) (kept_transitive w 1 k (reason_bit m.reason) m.index reason_kept last refl v (omega (arith, q, tag_bit kind))))

    pub transitive_stays : {v : ℕ} → t ≡ true → v ≡ max (w / 4 % 4) (tag_of the_type kind + 1) → tag_of the_type kind + 1 ≤ w / 4 % 4
        → set ws (RECORD + x) (w % 4 + 4 * v + (16 * r + 32 * i)) ≡ record_w ws x (bit t) k m
    transitive_stays {v} e q h = rw e (recorded true false (sym (le-ltb (w / 4 % 4) k (omega (arith, tag_bit kind)))) (kept_transitive w 1 k (reason_bit m.reason) m.index reason_kept last refl v (omega (arith, q, tag_bit kind))))

    pub local_higher : {v : ℕ} → t ≡ false → v ≡ max (w % 4) (tag_of the_type kind + 1) → w % 4 < tag_of the_type kind + 1
        → set (set ws (RECORD + x) (v + 4 * (w / 4 % 4) + (16 * r + 32 * i))) (LSPAN + x) m.span ≡ record_w ws x (bit t) k m
    local_higher {v} e q h = rw e (recorded false true (sym (lt-ltb (w % 4) k (omega (arith, tag_bit kind)))) (kept_local w 0 k (reason_bit m.reason) m.index reason_kept last (λ z. omega (arith, z)) v (omega (arith, q, tag_bit kind))))

    pub local_stays : {v : ℕ} → t ≡ false → v ≡ max (w % 4) (tag_of the_type kind + 1) → tag_of the_type kind + 1 ≤ w % 4
        → set ws (RECORD + x) (v + 4 * (w / 4 % 4) + (16 * r + 32 * i)) ≡ record_w ws x (bit t) k m
    local_stays {v} e q h = rw e (recorded false false (sym (le-ltb (w % 4) k (omega (arith, tag_bit kind)))) (kept_local w 0 k (reason_bit m.reason) m.index reason_kept last (λ z. omega (arith, z)) v (omega (arith, q, tag_bit kind))))

-- ---- the writes of `accept` one after another: the record, the end
pub accepted : (ws : List ℕ) (x t k : ℕ) (m : Mutation) {ws₁ ws₂ : List ℕ} → ws₁ ≡ record_w ws x t k m → ws₂ ≡ raise_w ws₁ (END + x) m.end.0 → ws₂ ≡ accept_w ws x t k m
unfolding accept_w
accepted ws x t k m written ended = ended ∙ ap (λ (l : List ℕ). raise_w l (END + x) m.end.0) written
