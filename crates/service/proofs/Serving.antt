-- What a call comes to, as the host is told it.
use Rattle.std.proofs.Common.{◌≡◌, ℕ, suc, ◌+◌, ◌%◌, ◌^◌, ◌<◌, Bool, true, false, eqb, List, length as len, sym, refl, ap, ◌∙◌, subst, arith, eqb-true}
use mathlib.Core.Bool.{false≢true}
use borrow.Author.Tests.{eqb-false}
use Rattle.model.specs.Limits.{last_serial}
use Rattle.model.specs.Lists.{pick}
use Rattle.model.specs.Call.{Outcome as TheOutcome, refusal, accepted, outcome}
use Rattle.model.specs.Dot.{draw}
use Rattle.model.specs.Service.{taken, serves, call}
use Rattle.std.specs.Prelude.{Result, Ok, Err}
use Rattle.hir.specs.declared.refusal.Refusal.{Refusal}
use Rattle.hir.specs.Refusals.{refusal_number}
use Rattle.writing.specs.Outcome.{Returned, number, length, returned_by, Filled}
use Rattle.inference.specs.Outcome.{Came, Inferred}
use Rattle.service.specs.Served.{caller_with, Tells, Served}
use Rattle.service.specs.declared.Reply.{Reply}
use Rattle.service.specs.Loaded.{TellsFilled, reply_of}
use Rattle.service.specs.Drawn.{Drawn}

abbrev is_number : Returned → Bool
is_number (number k) = true
is_number (length n) = false

abbrev told : Returned → ℕ
told (number k) = k
told (length n) = n

-- the successor by wrapping add is the definition's
successor : (n : ℕ) → n < 2 ^ 32 → (n + 1) % 2 ^ 32 ≡ (taken (caller_with n)).next
unfolding taken
successor n h = go (eqb n last_serial) refl
  where
    go : (b : Bool) → eqb n last_serial ≡ b → (n + 1) % 2 ^ 32 ≡ pick b 0 (suc n)
    go true e = ap (λ (k : ℕ). (k + 1) % 2 ^ 32) (eqb-true n last_serial e)
    go false e = let d = eqb-false n last_serial e in below (omega (arith, h, d))
      where
        below : n + 1 < 4294967296 → (n + 1) % 4294967296 ≡ suc n
        below q = omega (arith, q)

module _ {ws ans ws' ans' : List ℕ} (n : ℕ) where
  refused_as : (o : TheOutcome) {k : Refusal} → Came o ws ans (Err k) ws' ans' → Tells (serves (caller_with n) o) ws ans (record { refusal = refusal_number k; serial = 0; length = 0 }) n ws' ans'
  unfolding serves returned_by
  refused_as (refusal j) c = record { refusal = ap told c.returned; serial = refl; long = refl; state = refl; answer = c.answer; workspace = c.workspace }
  refused_as (accepted a) c = absurd (false≢true (sym (ap is_number c.returned)))

  accepted_as : (o : TheOutcome) {m next : ℕ} → n < 2 ^ 32 → Came o ws ans (Ok m) ws' ans' → next ≡ (n + 1) % 2 ^ 32
      → Tells (serves (caller_with n) o) ws ans (record { refusal = 0; serial = n; length = m }) next ws' ans'
  unfolding serves returned_by
  accepted_as (refusal j) h c e = absurd (false≢true (ap is_number c.returned))
  accepted_as (accepted a) h c e = record { refusal = refl; serial = refl; long = ap told c.returned; state = e ∙ successor n h; answer = c.answer; workspace = c.workspace }

module _ (sheet ws ans : List ℕ) {r : Result ℕ Refusal} {ws' ans' : List ℕ} (n : ℕ) (i : Inferred sheet ws ans r ws' ans') where
  came : {r' : Result ℕ Refusal} → r ≡ r' → Inferred sheet ws ans r' ws' ans'
  came e = subst (λ (x : Result ℕ Refusal). Inferred sheet ws ans x ws' ans') e i

  pub served_refused : {k : Refusal} → r ≡ Err k → Served n sheet ws ans (record { refusal = refusal_number k; serial = 0; length = 0 }) n ws' ans'
  unfolding call
  served_refused e = refused_as n (outcome sheet (len ws) (len ans)) (came e)

  pub served_accepted : {m next : ℕ} → r ≡ Ok m → n < 2 ^ 32 → next ≡ (n + 1) % 2 ^ 32 → Served n sheet ws ans (record { refusal = 0; serial = n; length = m }) next ws' ans'
  unfolding call
  served_accepted e h q = accepted_as n (outcome sheet (len ws) (len ans)) h (came e) q

-- ---- a call that fills one buffer and takes no serial
module _ {a a' : List ℕ} where
  number_told : (o : TheOutcome) {k : Refusal} → Filled o a (Err k) a' → TellsFilled o a (record { refusal = refusal_number k; serial = 0; length = 0 }) a'
  unfolding returned_by
  number_told (refusal j) f = record { refusal = ap told f.returned; serial = refl; long = refl; words = f.words }
  number_told (accepted l) f = absurd (false≢true (sym (ap is_number f.returned)))

  length-told : (o : TheOutcome) {n : ℕ} → Filled o a (Ok n) a' → TellsFilled o a (record { refusal = 0; serial = 0; length = n }) a'
  unfolding returned_by
  length-told (refusal j) f = absurd (false≢true (ap is_number f.returned))
  length-told (accepted l) f = record { refusal = refl; serial = refl; long = ap told f.returned; words = f.words }

  pub told_filled : (o : TheOutcome) {r : Result ℕ Refusal} {y : Reply} → Filled o a r a' → y ≡ reply_of r → TellsFilled o a y a'
  told_filled o {r} f e = subst (λ (x : Reply). TellsFilled o a x a') (sym e) (go r f)
    where
      go : (x : Result ℕ Refusal) → Filled o a x a' → TellsFilled o a (reply_of x) a'
      go (Err k) g = number_told o g
      go (Ok n) g = length-told o g

-- a drawing, which leaves the workspace too
pub told-drawn : (sheet : List ℕ) {ws text ws' text' : List ℕ} {r : Result ℕ Refusal} {y : Reply} → Came (draw sheet (len ws) (len text)) ws text r ws' text' → y ≡ reply_of r → Drawn sheet ws text y ws' text'
told-drawn sheet {ws} {text} {r = r} c e = record {
  told = told_filled (draw sheet (len ws) (len text)) {r = r} (record { returned = c.returned; words = c.answer }) e;
  workspace = c.workspace;
}
