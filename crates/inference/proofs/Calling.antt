-- What is prepared by the verdict of the reading, and what a call comes to by what was prepared.
use Prim.Native.Nat.{ℕ, ◌≤◌, ◌<◌}
use mathlib.Core.Path.{◌≡◌, refl, sym, ap, subst, ◌∙◌}
use native.Mathlib.Omega.{arith}
use mathlib.Core.Bool.{true, false, ◌||◌}
use mathlib.Core.List.{List}
use lib.ListN.{length}
use lib.Dec.{ltb}
use borrow.Author.Tests.{lt-ltb, le-ltb, ltb-false}
use Rattle.model.specs.Limits.{least_workspace}
use Rattle.model.specs.Lists.{pick}
use Rattle.model.specs.Sheet.{Sheet}
use Rattle.model.specs.Reading.{Position, Result as Got, got, refused}
use Rattle.model.specs.Answer.{answer, answer_words}
use Rattle.model.specs.Call.{refusal, read, IsSheet, holds, applies, fits, answered, admit, outcome}
use Rattle.model.proofs.Either.{or_left, or_right}
use Rattle.reading.specs.Judging.{Told}
use Rattle.reading.specs.Whole.{acceptance, judgement_of}
use Rattle.reading.specs.Whole.{refusal as no_sheet}
use Rattle.reading.proofs.Accepted.{accepted_sheet, refused_sheet}
use Rattle.reading.proofs.CopiedLaws.{accepted_copies}
use Rattle.reading.proofs.ApplyLaws.{accepted_applies}
use Rattle.workspace.specs.Sort.{cleared_from}
use Rattle.writing.proofs.Ending.{room, too_long}
use Rattle.std.specs.Prelude.{Result, Ok, Err}
use Rattle.std.specs.Result.{IsErrAnd}
use Rattle.hir.specs.declared.refusal.Refusal.{Refusal}
use Rattle.hir.specs.declared.refusal.Refusal.TheVariants.{ShortWorkspace}
use Rattle.hir.specs.Refusals.{refusal_number}
use Rattle.writing.specs.declared.Writer.{Writer}
use Rattle.inference.specs.Outcome.{Came, Inferred}
use Rattle.dataflow.specs.declared.function.Read.{Read}
use Rattle.inference.specs.Whole.{NoneUnless, AppliesIs, Prepared, PreparedIs, Prepares, AnswerPut}
use Rattle.inference.proofs.Ending.{came_as, came_long, answered_all}

-- the sheet behind an acceptance
pub accepted_is : (sheet : List ℕ) {t : Told} → judgement_of (read sheet) ≡ acceptance t → (s : Sheet) × IsSheet sheet s
accepted_is sheet {t} e = let a = accepted_sheet sheet t e in (a.sheet, a.is)

-- where neither a diagnosis nor a render was told it has no effect to copy
pub accepted_none : (sheet : List ℕ) {t : Told} → judgement_of (read sheet) ≡ acceptance t → NoneUnless (ltb 0 t.diagnoses || ltb 0 t.renders) sheet
accepted_none sheet {t} e h =
    let d : t.diagnoses ≤ 0 = ltb-false 0 t.diagnoses (or_left (ltb 0 t.diagnoses) (ltb 0 t.renders) h) in
    let r : t.renders ≤ 0 = ltb-false 0 t.renders (or_right (ltb 0 t.diagnoses) (ltb 0 t.renders) h) in
    accepted_copies sheet t e (omega (arith, d)) (omega (arith, r))

-- what was told of Apply
pub accepted_tells : (sheet : List ℕ) {t : Told} → judgement_of (read sheet) ≡ acceptance t → AppliesIs (ltb 0 t.applies) sheet
accepted_tells sheet {t} e s is = sym (accepted_applies sheet t e s is)

-- ---- what is prepared
module _ {x : Got Sheet} {sheet ws ws' : List ℕ} {r : Result Read Refusal} (p : Prepares x sheet ws ws' r) where
  pub prepares_as : {y : Got Sheet} → x ≡ y → Prepares y sheet ws ws' r
  prepares_as e = subst (λ (z : Got Sheet). Prepares z sheet ws ws' r) e p

  pub refused_by : {k : Refusal} → r ≡ Err k → (x ≡ refused (refusal_number k)) × (length ws' ≡ length ws)
  refused_by {k} e = go x (subst (PreparedIs x sheet ws ws') e p.is)
    where
      go : (y : Got Sheet) → PreparedIs y sheet ws ws' (Err k) → (y ≡ refused (refusal_number k)) × (length ws' ≡ length ws)
      go (refused j) q = (ap refused (sym q.0), q.1)
      go (got s c) q = absurd q

  pub ready_by : {z : Read} → r ≡ Ok z → (s : Sheet) × ((c : Position) × ((x ≡ got s c) × (Prepared s sheet sheet ws' z.function z.building × (length ws' ≡ length ws))))
  ready_by {z} e = go x (subst (PreparedIs x sheet ws ws') e p.is)
    where
      go : (y : Got Sheet) → PreparedIs y sheet ws ws' (Ok z) → (s : Sheet) × ((c : Position) × ((y ≡ got s c) × (Prepared s sheet sheet ws' z.function z.building × (length ws' ≡ length ws))))
      go (refused j) q = absurd q
      go (got s c) q = (s, (c, (refl, q)))

-- ---- refusal 1, or what the reading gives
module _ (sheet ws : List ℕ) where
  refuses : {k : Refusal} → refused (refusal_number k) ≡ admit sheet (length ws) → Prepares (admit sheet (length ws)) sheet ws ws (Err k)
  refuses {k} e = let p : Prepares (refused (refusal_number k)) sheet ws ws (Err k) = record { is = (refl, refl) } in prepares_as p e

  pub short_refused : length ws < least_workspace → Prepares (admit sheet (length ws)) sheet ws ws (Err ShortWorkspace)
  unfolding admit
  short_refused h = refuses {k = ShortWorkspace} (sym (rw (lt-ltb (length ws) least_workspace h)))

  module _ (h : least_workspace ≤ length ws) where
    enough : holds (read sheet) ≡ admit sheet (length ws)
    unfolding admit
    enough = sym (rw (le-ltb (length ws) least_workspace h))

    pub reading_refused : {k : Refusal} → judgement_of (read sheet) ≡ no_sheet (refusal_number k) → Prepares (admit sheet (length ws)) sheet ws ws (Err k)
    unfolding holds
    reading_refused {k} e = refuses (sym (ap holds (refused_sheet sheet (refusal_number k) e)) ∙ enough)

    -- the refusal that `?` hands on
    pub reading_left : {r : Result Read Refusal} (k : Refusal) → IsErrAnd r (λ (y : Refusal). y ≡ k) → no_sheet (refusal_number k) ≡ judgement_of (read sheet) → Prepares (admit sheet (length ws)) sheet ws ws r
    reading_left {r = Ok x} k e q = absurd e
    reading_left {r = Err y} k e q = reading_refused {k = y} (sym (ap (λ (z : Refusal). no_sheet (refusal_number z)) e ∙ q))

    pub reading_prepares : {ws' : List ℕ} {r : Result Read Refusal} → Prepares (holds (read sheet)) sheet ws ws' r → Prepares (admit sheet (length ws)) sheet ws ws' r
    reading_prepares p = prepares_as p enough

-- ---- the call by what was prepared
module _ (sheet ws ans ws₁ : List ℕ) {p : Result Read Refusal} (h : Prepares (admit sheet (length ws)) sheet ws ws₁ p) {r : Result ℕ Refusal} {ws' ans' : List ℕ} where
  pub call_refused : {k : Refusal} → p ≡ Err k → Came (refusal (refusal_number k)) ws₁ ans r ws' ans' → Inferred sheet ws ans r ws' ans'
  unfolding outcome answered
  call_refused e c = let q = refused_by h e in came_as (sym (ap (answered (length ans)) q.0)) (came_long q.1 refl c)

  module _ {x : Read} (e : p ≡ Ok x) where
    -- 10 before the answer is measured
    pub call_ten : x.function.applies ≡ true → Came (refusal 10) ws₁ ans r ws' ans' → Inferred sheet ws ans r ws' ans'
    unfolding outcome answered
    call_ten told c =
        let (s, (_, (q, (ready, same)))) = ready_by h e in
        let ten : refusal 10 ≡ pick (applies s) (refusal 10) (fits (length ans) (answer_words (answer s))) = sym (rw (sym ready.applies ∙ told)) in
        came_as (ten ∙ sym (ap (answered (length ans)) q)) (came_long same refl c)

    module _ (unapplied : x.function.applies ≡ false) {b : List ℕ} {o o₁ : Writer ℕ} (start : o.at ≡ 0) (items : o.buffer.now ≡ ans) {ws₂ : List ℕ} (put : AnswerPut sheet sheet ws₁ x.function x.building o ws₂ o₁) (left : b ≡ o₁.buffer.now) where
      -- the outcome is the answer, if it fits
      call_fits : {s : Sheet} {c : Position} → x.function.applies ≡ applies s → admit sheet (length ws) ≡ got s c → Came (fits (length o.buffer.now) (answer_words (answer s))) ws o.buffer.now r ws' ans' → Inferred sheet ws ans r ws' ans'
      unfolding outcome answered
      call_fits {s} told q c =
          let none : fits (length ans) (answer_words (answer s)) ≡ pick (applies s) (refusal 10) (fits (length ans) (answer_words (answer s))) = sym (rw (sym told ∙ unapplied)) in
          came_as (none ∙ sym (ap (answered (length ans)) q)) (subst (λ (l : List ℕ). Came (fits (length l) (answer_words (answer s))) ws l r ws' ans') items c)

      pub call_nine : length b < o₁.at → Came (refusal 9) ws₂ b r ws' ans' → Inferred sheet ws ans r ws' ans'
      call_nine k c =
          let (s, (_, (q, (ready, same)))) = ready_by h e in
          let w = put.wrote s ready in
          call_fits ready.applies q (came_as (too_long w start (rw (sym left) k)) (came_long (put.walkable.same ∙ same) (ap (λ (l : List ℕ). length l) left ∙ room w start) c))

      pub call-answered : o₁.at ≤ length b → r ≡ Ok o₁.at → ws' ≡ cleared_from 0 ws₂ → ans' ≡ cleared_from o₁.at b → Inferred sheet ws ans r ws' ans'
      call-answered k is p q =
          let (s, (_, (a, (ready, same)))) = ready_by h e in
          call_fits ready.applies a
          (subst (λ (y : Result ℕ Refusal). Came (fits (length o.buffer.now) (answer_words (answer s))) ws o.buffer.now y ws' ans') (sym is)
          (answered_all (put.wrote s ready) start ws₂ (rw (sym left) k) (put.walkable.same ∙ same) p (q ∙ ap (cleared_from o₁.at) left)))
