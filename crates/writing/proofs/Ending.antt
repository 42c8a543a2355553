-- The end of a call that fills a buffer: it was refused, or what was written from the start is longer than the buffer, or it fits and the rest is cleared.
use Prim.Native.Nat.{ℕ, ◌-◌, ◌≤◌, ◌<◌}
use native.Mathlib.Omega.{arith}
use mathlib.Core.Path.{◌≡◌, refl, sym, subst, ap, ◌∙◌}
use mathlib.Core.Bool.{true, false}
use mathlib.Core.List.{List, [], ◌++◌, append-nil}
use lib.ListN.{length, take, drop, replicate, length-take, length-drop, drop_of_length-le}
use lib.Dec.{ltb}
use borrow.Rule.Slice.PartMut.{put_mid}
use borrow.Author.Tests.{lt-ltb, le-ltb}
use Rattle.std.specs.Prelude.{Result, Ok, Err}
use Rattle.model.specs.Call.{Outcome as TheOutcome, refusal, accepted, fits, answer_after}
use Rattle.hir.specs.declared.refusal.Refusal.{Refusal}
use Rattle.hir.specs.Refusals.{refusal_number}
use Rattle.workspace.specs.Sort.{cleared_from}
use Rattle.workspace.proofs.Clearing.{cleared_all}
use Rattle.writing.specs.declared.Writer.{Writer}
use Rattle.writing.specs.Wrote.{Writes}
use Rattle.writing.specs.Outcome.{length as in_length, returned_by, Filled}
use Rattle.writing.proofs.Writing.{writes_long, written}

pub filled_as : {o o' : TheOutcome} {a : List ℕ} {r : Result ℕ Refusal} {a' : List ℕ} → o ≡ o' → Filled o a r a' → Filled o' a r a'
filled_as {a = a} {r} {a'} e f = subst (λ (x : TheOutcome). Filled x a r a') e f

-- of the buffer before, the length alone matters
pub filled_long : {o : TheOutcome} {a a₁ : List ℕ} {r : Result ℕ Refusal} {a' : List ℕ} → length a₁ ≡ length a → Filled o a₁ r a' → Filled o a r a'
filled_long {o} e f = record { returned = f.returned; words = f.words ∙ ap (λ (n : ℕ). answer_after n o) e }

pub filled_refused : {k : Refusal} {a a' : List ℕ} → a' ≡ cleared_from 0 a → Filled (refusal (refusal_number k)) a (Err k) a'
unfolding returned_by answer_after
filled_refused {a = a} e = record { returned = refl; words = e ∙ cleared_all a }

-- what stands behind n words is filled with 0
pub rest_filled : (a : List ℕ) (n : ℕ) {ys : List ℕ} → n ≤ length a → ys ≡ replicate (length (take (length a - n) (drop n a))) 0 → put_mid n (length a - n) a ys ≡ cleared_from n a
unfolding cleared_from
rest_filled a n h e =
    let k : length (take (length a - n) (drop n a)) ≡ length a - n = omega (arith, length-take (length a - n) (drop n a), length-drop n a) in
    let none : drop (length a - n) (drop n a) ≡ [] = drop_of_length-le (drop n a) (omega (arith, length-drop n a)) in
    ap (λ (l : List ℕ). put_mid n (length a - n) a l) (e ∙ ap (λ (i : ℕ). replicate i 0) k)
    ∙ ap (λ (l : List ℕ). take n a ++ (replicate (length a - n) 0 ++ l)) none
    ∙ ap (λ (l : List ℕ). take n a ++ l) (append-nil (replicate (length a - n) 0))

-- ---- words that are longer than the buffer, or that fit
module _ {vs : List ℕ} {o o' : Writer ℕ} (w : Writes vs o o') (start : o.at ≡ 0) where
  long : o'.at ≡ length vs
  long = omega (arith, w.wrote.next, start)

  pub room : length o'.buffer.now ≡ length o.buffer.now
  room = writes_long w

  pub too_long : length o'.buffer.now < o'.at → refusal 9 ≡ fits (length o.buffer.now) vs
  unfolding fits
  too_long h = let t : ltb (length o.buffer.now) (length vs) ≡ true = lt-ltb (length o.buffer.now) (length vs) (omega (arith, h, long, room)) in sym (rw t)

  pub filled_fitting : {a₂ : List ℕ} → o'.at ≤ length o'.buffer.now → a₂ ≡ cleared_from o'.at o'.buffer.now → Filled (fits (length o.buffer.now) vs) o.buffer.now (Ok o'.at) a₂
  unfolding fits returned_by answer_after cleared_from
  filled_fitting h e =
      let a : List ℕ = o.buffer.now in
      let a₁ : List ℕ = o'.buffer.now in
      let n : ℕ = o'.at in
      let t : ltb (length a) (length vs) ≡ false = le-ltb (length a) (length vs) (omega (arith, h, long, room)) in
      let f : fits (length a) vs ≡ accepted vs = rw t in
      let k : length a₁ - n ≡ length a - length vs = omega (arith, long, room) in
      let front : take n a₁ ≡ vs = cc (written a o.at vs (omega (arith, h, long, room, start)), ap (λ (i : ℕ). take i a ++ vs) start) in
      filled_as (sym f) (record {
        returned = ap in_length long;
        words = e ∙ ap (λ (l : List ℕ). l ++ replicate (length a₁ - n) 0) front ∙ ap (λ (i : ℕ). vs ++ replicate i 0) k;
      })
