-- What a host may read off a reply: its number is 0 for an accepted call and from 1 to 10 for a refused one; after an accepted call the buffer has the ends of demand 3's run of all mutations.
use Rattle.std.proofs.Common.{◌≡◌, ℕ, List, length, sym, ap, ◌∙◌, subst}
use Rattle.model.specs.Call.{Outcome, refusal, outcome, number_of, answer_after}
use Rattle.model.specs.Limits.{last_of_sheet}
use Rattle.model.specs.Service.{call}
use Rattle.model.specs.Numbers.{IsNumber, Numbered}
use Rattle.model.specs.CallEnds.{CallEnds}
use Rattle.model.proofs.Numbers.{outcome_numbered, zero_accepted}
use Rattle.model.proofs.Callers.{serves-outcome}
use Rattle.model.proofs.CallEnds.{call_ends}
use Rattle.service.specs.declared.Reply.{Reply}
use Rattle.service.specs.Served.{caller_with, Served}

module _ (n : ℕ) (sheet ws ans : List ℕ) {r : Reply} {next : ℕ} {ws' ans' : List ℕ} (served : Served n sheet ws ans r next ws' ans') where
  abbrev came : Outcome
  came = outcome sheet (length ws) (length ans)

  at_call : (call (caller_with n) sheet (length ws) (length ans)).outcome ≡ came
  unfolding call
  at_call = serves-outcome (caller_with n) came

  reply_number : r.refusal ≡ number_of came
  reply_number = served.refusal ∙ ap number_of at_call

  -- 0 is told of accepted calls alone, and their buffer has the ends
  pub reply_accepted : r.refusal ≡ 0 → CallEnds sheet ans'
  reply_accepted e =
      let z = zero_accepted last_of_sheet came (outcome_numbered sheet (length ws) (length ans)) (sym reply_number ∙ e) in
      let b : ans' ≡ answer_after (length ans) came = served.answer ∙ ap (answer_after (length ans)) at_call in
      subst (CallEnds sheet) (sym b) (call_ends sheet (length ws) (length ans) z.0 z.1)

  -- a refused call is told one of the numbers
  pub reply_refused : (k : ℕ) → came ≡ refusal k → (r.refusal ≡ k) × IsNumber last_of_sheet k
  reply_refused k e = (reply_number ∙ ap number_of e, subst (Numbered last_of_sheet) e (outcome_numbered sheet (length ws) (length ans)))
