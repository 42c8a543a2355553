-- A call for a caller, as the host is told it: outside the records, and inside them.
use Rattle.std.proofs.Common.{◌≡◌, ℕ, zero, suc, ◌<◌, ◌≤◌, List, [], ◌∷◌, map, length, get_or, set, sym, refl, ap, ◌∙◌, subst, arith, le-leb}
use lib.ListN.{length-map, get_or-map}
use borrow.Author.Tests.{lt-leb}
use Rattle.model.specs.Call.{refusal}
use Rattle.model.specs.Load.{load}
use Rattle.model.specs.Service.{Caller as TheCaller, Served as TheServed, serves, call}
use Rattle.model.specs.Callers.{ServedFor as TheServedFor, outside, replaces, load_for}
use Rattle.model.proofs.Callers.{first_11, inside}
use Rattle.std.specs.Prelude.{Result, Err}
use Rattle.hir.specs.declared.refusal.Refusal.{Refusal}
use Rattle.hir.specs.declared.refusal.Refusal.TheVariants.{OutsideRecords}
use Rattle.writing.proofs.Ending.{filled_refused}
use Rattle.workspace.specs.Sort.{cleared_from}
use Rattle.inference.specs.Outcome.{Came}
use Rattle.service.specs.declared.Caller.{Caller}
use Rattle.service.specs.declared.Reply.{Reply}
use Rattle.service.specs.Loaded.{TellsFilled, reply_of, LoadedFor}
use Rattle.service.proofs.Serving.{told_filled}
use Rattle.service.specs.Served.{caller_with, caller_says, Tells, Served, Outside, ServedOf, TellsFor, ServedFor}

-- the record of a caller that is not there
abbrev pub no_caller : Caller
no_caller = record { next = 0 }

says_set : (l : List Caller) (i : ℕ) (c : Caller) → map caller_says (set l i c) ≡ set (map caller_says l) i (caller_says c)
says_set [] i c = refl
says_set (d ∷ l) zero c = refl
says_set (d ∷ l) (suc i) c = ap (λ (m : List TheCaller). caller_says d ∷ m) (says_set l i c)

module _ (cs : List Caller) (i : ℕ) (sheet ws ans : List ℕ) {r : Reply} {ws' ans' : List ℕ} where
  pub told-outside : length cs ≤ i → Outside ws ans r ws' ans' → ServedFor cs i sheet ws ans r cs ws' ans'
  unfolding serves
  told-outside h o =
      let t = o 0 in
      subst (λ (x : TheServedFor). TellsFor x ws ans r cs ws' ans') (sym (first_11 (map caller_says cs) i sheet (length ws) (length ans) (omega (arith, h, length-map cs caller_says))))
      (record { refusal = t.refusal; serial = t.serial; long = t.long; callers = refl; answer = t.answer; workspace = t.workspace })

  -- the call of one caller, as a call for it
  replaced : (t : TheServed) (next : ℕ) → Tells t ws ans r next ws' ans' → TellsFor (replaces (map caller_says cs) i t) ws ans r (set cs i (record { next = next })) ws' ans'
  replaced t next h = record {
    refusal = h.refusal;
    serial = h.serial;
    long = h.long;
    callers = says_set cs i (record { next = next }) ∙ ap (λ (n : ℕ). set (map caller_says cs) i (caller_with n)) h.state;
    answer = h.answer;
    workspace = h.workspace;
  }

  pub told_inside : {next : ℕ} → i < length cs → Served (get_or cs i no_caller).next sheet ws ans r next ws' ans'
      → ServedFor cs i sheet ws ans r (set cs i (record { next = next })) ws' ans'
  told_inside {next} h e =
      let own : get_or (map caller_says cs) i (caller_with 0) ≡ caller_says (get_or cs i no_caller) = get_or-map caller_says cs i no_caller in
      let there = inside (map caller_says cs) i sheet (length ws) (length ans) (omega (arith, h, length-map cs caller_says)) in
      subst (λ (x : TheServedFor). TellsFor x ws ans r (set cs i (record { next = next })) ws' ans')
      (sym (there ∙ ap (λ (c : TheCaller). replaces (map caller_says cs) i (call c sheet (length ws) (length ans))) own)) (replaced _ next e)

-- a call that was refused with 11 is told so, whatever the caller's serial
pub outside_told : {ws ans ws' ans' : List ℕ} {r : Result ℕ Refusal} {y : Reply} → Came (refusal 11) ws ans r ws' ans' → y ≡ reply_of r → Outside ws ans y ws' ans'
unfolding serves
outside_told {ans = ans} {r = r} c e serial =
    let t = told_filled {a = ans} (refusal 11) {r = r} (record { returned = c.returned; words = c.answer }) e in
    record { refusal = t.refusal; serial = t.serial; long = t.long; state = refl; answer = t.words; workspace = c.workspace }

-- ---- with the count of the records, the position and the serial as numbers
module _ (callers i serial : ℕ) (sheet ws ans : List ℕ) {r : Reply} {ws' ans' : List ℕ} where
  pub of_outside : callers ≤ i → Outside ws ans r ws' ans' → ServedOf callers i serial sheet ws ans r serial ws' ans'
  unfolding outside
  of_outside h o = rw (le-leb callers i h) (o serial)

  pub of_inside : {next : ℕ} → i < callers → Served serial sheet ws ans r next ws' ans' → ServedOf callers i serial sheet ws ans r next ws' ans'
  unfolding outside
  of_inside h e = rw (lt-leb callers i h) e

module _ (callers i seed n m : ℕ) (sheet : List ℕ) {r : Reply} {sheet' : List ℕ} where
  pub load-outside : callers ≤ i → sheet' ≡ cleared_from 0 sheet → r ≡ reply_of (Err OutsideRecords) → LoadedFor callers i seed n m sheet r sheet'
  unfolding load_for outside
  load-outside h e f = rw (le-leb callers i h) (told_filled (refusal 11) {r = Err OutsideRecords} (filled_refused e) f)

  pub load_inside : i < callers → TellsFilled (load seed n m (length sheet)) sheet r sheet' → LoadedFor callers i seed n m sheet r sheet'
  unfolding load_for outside
  load_inside h e = rw (lt-leb callers i h) e
