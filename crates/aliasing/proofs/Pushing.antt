-- What the two push loops keep, word by word of a row.
use Prim.Native.Nat.{ℕ, ◌+◌, ◌-◌, ◌/◌, ◌%◌, ◌≤◌, ◌<◌}
use native.Mathlib.Omega.{arith}
use native.Mathlib.Numerals.{add-one}
use mathlib.Core.List.{List, [], ◌∷◌}
use mathlib.Core.Path.{◌≡◌, sym, ap, subst, ◌∙◌}
use lib.ListN.{length, get_or, set, take, length-set}
use lib.Seq.{slice, sets, slice-cons, slice_empty, take-set-le, get_or-take}
use borrow.Author.Tests.{lt-ltb, le-ltb}
use Rattle.aliasing.specs.Pushes.{forward_w, forward_e, entries_w, entry_w}
use Rattle.writing.specs.Wrote.{Wrote}

-- what a push loop keeps: ws is ws₀ with some entries pushed, up to len, and `rest` still to push makes it all of vs
pub record Pushing (ws₀ : List ℕ) (top : ℕ) (vs : List ℕ) (ws : List ℕ) (len : ℕ) (rest : List ℕ) : Type 0 where
  pub words : sets ws len rest ≡ sets ws₀ top vs
  pub next : len + length rest ≡ top + length vs
  pub below : take top ws ≡ take top ws₀
  pub same : length ws ≡ length ws₀
  pub up : top ≤ len

pub pushing_end : {ws₀ : List ℕ} {top : ℕ} {vs ws : List ℕ} {len : ℕ} → Pushing ws₀ top vs ws len [] → Wrote vs ws₀ top ws len
pushing_end p = record { words = p.words; next = omega (arith, p.next) }

pub pushing_more : {ws₀ : List ℕ} {top : ℕ} {vs ws : List ℕ} {len e : ℕ} {rest : List ℕ} → Pushing ws₀ top vs ws len (e ∷ rest) → Pushing ws₀ top vs (set ws len e) (len + 1) rest
pushing_more {ws₀} {top} {vs} {ws} {len} {e} {rest} p = record {
  words = rw add-one p.words;
  next = omega (arith, p.next);
  below = take-set-le top ws len e p.up ∙ p.below;
  same = length-set ws len e ∙ p.same;
  up = omega (arith, p.up);
}

-- a word below `top` is as it was
pub below_at : (ws ws₀ : List ℕ) (top i : ℕ) → take top ws ≡ take top ws₀ → i < top → get_or ws i 0 ≡ get_or ws₀ i 0
below_at ws ws₀ top i e h = sym (get_or-take top ws i 0 h) ∙ ap (λ (l : List ℕ). get_or l i 0) e ∙ get_or-take top ws₀ i 0 h

-- ---- the rows, word by word
pub forward_more : (index transitive kind f t : ℕ) (l : List ℕ) → f < t → t ≤ length l → get_or l f 0 / 2048 < index
    → forward_w index transitive kind (slice f t l) ≡ forward_e transitive kind (get_or l f 0) ∷ forward_w index transitive kind (slice (f + 1) t l)
unfolding forward_w
forward_more index transitive kind f t l h k q = rw (slice-cons f t l 0 h k, lt-ltb _ _ q, add-one)

pub forward_stop : (index transitive kind f t : ℕ) (l : List ℕ) → f < t → t ≤ length l → index ≤ get_or l f 0 / 2048
    → forward_w index transitive kind (slice f t l) ≡ []
unfolding forward_w
forward_stop index transitive kind f t l h k q = rw (slice-cons f t l 0 h k, le-ltb _ _ q)

pub forward_none : (index transitive kind f t : ℕ) (l : List ℕ) → f ≡ t → forward_w index transitive kind (slice f t l) ≡ []
unfolding forward_w
forward_none index transitive kind f t l e = rw (e, slice_empty t l)

pub entries_more : (index transitive kind f t : ℕ) (l : List ℕ) → f < t → t ≤ length l → get_or l f 0 / 2048 < index
    → entries_w index transitive kind (slice f t l) ≡ entry_w (get_or l f 0 % 512) transitive 0 kind ∷ entries_w index transitive kind (slice (f + 1) t l)
unfolding entries_w
entries_more index transitive kind f t l h k q = rw (slice-cons f t l 0 h k, lt-ltb _ _ q, add-one)

pub entries_skip : (index transitive kind f t : ℕ) (l : List ℕ) → f < t → t ≤ length l → index ≤ get_or l f 0 / 2048
    → entries_w index transitive kind (slice f t l) ≡ entries_w index transitive kind (slice (f + 1) t l)
unfolding entries_w
entries_skip index transitive kind f t l h k q = rw (slice-cons f t l 0 h k, le-ltb _ _ q, add-one)

pub entries_none : (index transitive kind f t : ℕ) (l : List ℕ) → f ≡ t → entries_w index transitive kind (slice f t l) ≡ []
unfolding entries_w
entries_none index transitive kind f t l e = rw (e, slice_empty t l)

-- what both loops keep, over the rule that a row is pushed by: what lies from i to `end` is still to be pushed
pub record PushInv (rule : List ℕ → List ℕ) (ws₀ : List ℕ) (at end top : ℕ) (ws : List ℕ) (i len : ℕ) : Type 0 where
  pub mid : i ≤ end
  pub clear : end ≤ top
  pub room : len + (end - i) ≤ length ws₀
  pub push : Pushing ws₀ top (rule (slice at end ws₀)) ws len (rule (slice i end ws₀))

module _ {rule : List ℕ → List ℕ} {ws₀ : List ℕ} {at end top : ℕ} {ws : List ℕ} {i len : ℕ} (p : PushInv rule ws₀ at end top ws i len) where
  onward : (rest : List ℕ) → rule (slice i end ws₀) ≡ rest → Pushing ws₀ top (rule (slice at end ws₀)) ws len rest
  onward rest q = subst (λ (l : List ℕ). Pushing ws₀ top (rule (slice at end ws₀)) ws len l) q p.push

  pub push_end : rule (slice i end ws₀) ≡ [] → Wrote (rule (slice at end ws₀)) ws₀ top ws len
  push_end e = pushing_end (onward [] e)

  pub push_more : (e : ℕ) → i < end → rule (slice i end ws₀) ≡ e ∷ rule (slice (i + 1) end ws₀) → PushInv rule ws₀ at end top (set ws len e) (i + 1) (len + 1)
  push_more e h q = record {
    mid = omega arith;
    clear = p.clear;
    room = omega (arith, p.room);
    push = pushing_more (onward (e ∷ rule (slice (i + 1) end ws₀)) q);
  }

  pub push_skip : i < end → rule (slice i end ws₀) ≡ rule (slice (i + 1) end ws₀) → PushInv rule ws₀ at end top ws (i + 1) len
  push_skip h q = record {
    mid = omega arith;
    clear = p.clear;
    room = omega (arith, p.room);
    push = onward (rule (slice (i + 1) end ws₀)) q;
  }

  -- a word of the row, read while the queue is written, is the row's own
  pub push_at : i < end → get_or ws i 0 ≡ get_or ws₀ i 0
  push_at h = below_at ws ws₀ top i p.push.below (omega (arith, p.clear))

module _ (index transitive kind : ℕ) {ws₀ : List ℕ} {at end top : ℕ} {ws : List ℕ} {i len : ℕ} (p : PushInv (forward_w index transitive kind) ws₀ at end top ws i len) where
  pub forward_turn : (e : ℕ) → i < end → get_or ws i 0 / 2048 < index → e ≡ forward_e transitive kind (get_or ws i 0)
      → PushInv (forward_w index transitive kind) ws₀ at end top (set ws len e) (i + 1) (len + 1)
  forward_turn e h q r =
      push_more p e h
      (forward_more index transitive kind i end ws₀ h (omega (arith, p.room)) (subst (λ (w : ℕ). w / 2048 < index) (push_at p h) q)
      ∙ ap (λ (v : ℕ). v ∷ forward_w index transitive kind (slice (i + 1) end ws₀)) (sym (r ∙ ap (forward_e transitive kind) (push_at p h))))

  -- the first index not below: nothing is left to push
  pub forward_stopped : i < end → index ≤ get_or ws i 0 / 2048 → Wrote (forward_w index transitive kind (slice at end ws₀)) ws₀ top ws len
  forward_stopped h q =
      push_end p
      (forward_stop index transitive kind i end ws₀ h (omega (arith, p.room)) (subst (λ (w : ℕ). index ≤ w / 2048) (push_at p h) q))

  pub forward_done : end ≤ i → Wrote (forward_w index transitive kind (slice at end ws₀)) ws₀ top ws len
  forward_done h = push_end p (forward_none index transitive kind i end ws₀ (omega (arith, p.mid)))

module _ (index transitive kind : ℕ) {ws₀ : List ℕ} {at end top : ℕ} {ws : List ℕ} {i len : ℕ} (p : PushInv (entries_w index transitive kind) ws₀ at end top ws i len) where
  pub entries_turn : (e : ℕ) → i < end → get_or ws i 0 / 2048 < index → e ≡ entry_w (get_or ws i 0 % 512) transitive 0 kind
      → PushInv (entries_w index transitive kind) ws₀ at end top (set ws len e) (i + 1) (len + 1)
  entries_turn e h q r =
      push_more p e h
      (entries_more index transitive kind i end ws₀ h (omega (arith, p.room)) (subst (λ (w : ℕ). w / 2048 < index) (push_at p h) q)
      ∙ ap (λ (v : ℕ). v ∷ entries_w index transitive kind (slice (i + 1) end ws₀)) (sym (r ∙ ap (λ (w : ℕ). entry_w (w % 512) transitive 0 kind) (push_at p h))))

  pub entries-skipped : i < end → index ≤ get_or ws i 0 / 2048 → PushInv (entries_w index transitive kind) ws₀ at end top ws (i + 1) len
  entries-skipped h q =
      push_skip p h
      (entries_skip index transitive kind i end ws₀ h (omega (arith, p.room)) (subst (λ (w : ℕ). index ≤ w / 2048) (push_at p h) q))

  pub entries_done : end ≤ i → Wrote (entries_w index transitive kind (slice at end ws₀)) ws₀ top ws len
  entries_done h = push_end p (entries_none index transitive kind i end ws₀ (omega (arith, p.mid)))
