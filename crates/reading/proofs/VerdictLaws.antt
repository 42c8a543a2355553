-- From the judged sheet to the verdict: 7 if words are left, else the totals.
use Prim.Native.Nat.{ℕ, ◌≤◌, ◌<◌}
use mathlib.Core.Path.{◌≡◌, ◌∙◌, sym, ap}
use mathlib.Core.List.{List}
use lib.ListN.{length}
use borrow.Author.Tests.{lt-ltb, le-ltb}
use Rattle.model.specs.Sheet.{Sheet}
use Rattle.model.specs.Reading.{Position, got, refused}
use Rattle.model.specs.Counting.{counted_sheet}
use Rattle.model.specs.Call.{ended}
use Rattle.model.proofs.CountedSheet.{counted_got}
use Rattle.reading.specs.Judging.{Told, no_totals, Tally, within, passed, nothing_yet}
use Rattle.reading.proofs.JudgeLaws.{got_judged, refused_judged}
use Rattle.reading.specs.Whole.{judged_sheet, tell_sheet, refusal, acceptance, judgement_of}
use Rattle.reading.proofs.WholeLaws.{sheet-judged}
use Rattle.reading.proofs.TotalsLaws.{told-totals}

-- what a tally has told
abbrev told_of : Tally → Told
told_of (within t) = t
told_of passed = no_totals

module _ (ws : List ℕ) where
  -- a judged sheet was read, and told
  judged-told : {P : Type 0} (t : Tally) (c : Position) → judged_sheet ws 0 ≡ got t c → ((s : Sheet) → counted_sheet ws 0 ≡ got s c → tell_sheet s nothing_yet ≡ t → P) → P
  judged-told t c q k = got_judged counted_sheet tell_sheet nothing_yet ws 0 t c (sheet-judged ws 0 ∙ q) k

  pub judged_refused : (k : ℕ) → judged_sheet ws 0 ≡ refused k → refusal k ≡ judgement_of (ended (counted_sheet ws 0) (length ws))
  unfolding ended
  judged_refused k q = rw (refused_judged counted_sheet tell_sheet nothing_yet ws 0 k (sheet-judged ws 0 ∙ q))

  pub judged_seven : (t : Tally) (c : Position) → judged_sheet ws 0 ≡ got t c → c < length ws → refusal 7 ≡ judgement_of (ended (counted_sheet ws 0) (length ws))
  unfolding ended
  judged_seven t c q h = judged-told t c q (λ s e w. rw (e, lt-ltb c (length ws) h))

  pub judged_accepted : (t : Told) (c : Position) → judged_sheet ws 0 ≡ got (within t) c → length ws ≤ c → acceptance t ≡ judgement_of (ended (counted_sheet ws 0) (length ws))
  unfolding ended
  judged_accepted t c q h =
      judged-told (within t) c q (λ s e w. rw (e, le-ltb c (length ws) h) (ap (λ (y : Tally). acceptance (told_of y)) (sym w ∙ told-totals s (counted_got ws 0 s c e).1)))

-- the laws that `read` stands on
pub ruleset verdict_laws = (judged_refused, judged_seven, judged_accepted)
