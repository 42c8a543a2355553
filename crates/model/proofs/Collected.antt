-- Order 10 changes no answer: whoever has at most 1,024 relation effects never holds more.
use Prim.Native.Nat.{ℕ, ◌≤◌}
use native.Mathlib.Omega.{arith}
use mathlib.Core.Path.{◌≡◌, refl, sym, ap, ◌∙◌}
use mathlib.Core.Bool.{Bool, true, false, true≢false}
use mathlib.Core.List.{List}
use lib.ListN.{length}
use lib.Dec.{ltb}
use borrow.Author.Tests.{le-ltb, ltb-false}
use Rattle.model.specs.Limits.{least_workspace, most_sheet, most_relations}
use Rattle.model.specs.Lists.{pick}
use Rattle.model.specs.Sheet.{Sheet}
use Rattle.model.specs.Reading.{Position, Result, got, refused}
use Rattle.model.specs.Asking as asking
use Rattle.model.specs.Counting.{counting_by, counted_sheet}
use Rattle.model.specs.Building.{build}
use Rattle.model.specs.Totals.{totals, over}
use Rattle.model.specs.Call.{Outcome, refusal, accepted, ended, read, answered, holds, admit, outcome}
use Rattle.model.specs.Overlap.{most_relation_effects, over_then, read_then}
use Rattle.model.specs.Collected.{outcome_then, Collected}
use Rattle.model.proofs.Either.{or_left, or_right}
use Rattle.model.proofs.Got.{not_both_lem}
use Rattle.model.proofs.CountedSheet.{got_by, counted_within}
use Rattle.model.proofs.Held.{few_held}
use Rattle.model.proofs.WhenRead.{ended_got}
use Rattle.model.proofs.Overlap.{then_limit}

-- a sheet that was read is read, and holds no more than its limit
module _ (ws : List ℕ) (s : Sheet) (c : Position) where
  few : over_then (totals s) ≡ false → (over (totals s) ≡ false) × ((build s).held ≤ most_relations)
  unfolding over_then
  few e =
      let a : Bool = ltb most_relation_effects (totals s).relations in
      (or_right a (over (totals s)) e, omega (arith, few_held s, ltb-false most_relation_effects (totals s).relations (or_left a (over (totals s)) e)))

  pub still_read : read_then ws ≡ got s c → holds (read ws) ≡ got s c
  unfolding read_then read holds
  still_read e = go (ltb most_sheet (length ws)) e
    where
      go : (b : Bool) → pick b (refused 2) (ended (asking.sheet (counting_by over_then) ws 0) (length ws)) ≡ got s c
          → holds (pick b (refused 2) (ended (counted_sheet ws 0) (length ws))) ≡ got s c
      go true f = absurd (not_both_lem f refl)
      go false f =
          let r = ended_got (asking.sheet (counting_by over_then) ws 0) (length ws) s c f in
          let k = got_by over_then then_limit ws 0 s c r in
          let h = few k.1 in
          let now : counted_sheet ws 0 ≡ got s c = counted_within ws 0 s c k.0 h.0 in
          ap (λ (x : Result Sheet). holds (ended x (length ws))) (now ∙ sym r) ∙ ap holds f ∙ ap (λ (b : Bool). pick b (refused 8) (got s c)) (le-ltb most_relations (build s).held h.1)

abbrev is_answer : Outcome → Bool
is_answer (refusal k) = false
is_answer (accepted a) = true

-- for all words and lengths
pub collected : (ws : List ℕ) (workspace room : ℕ) → Collected ws workspace room
unfolding outcome_then outcome admit answered
collected ws workspace room a e = go (ltb workspace least_workspace) e
  where
    none : (k : ℕ) → refusal k ≡ accepted a → ⊥
    none k f = true≢false (sym (ap is_answer f))

    on_read : (r : Result Sheet) → read_then ws ≡ r → answered room r ≡ accepted a → answered room (holds (read ws)) ≡ accepted a
    on_read (got s c) f g = ap (answered room) (still_read ws s c f) ∙ g
    on_read (refused k) f g = absurd (none k g)

    go : (b : Bool) → answered room (pick b (refused 1) (read_then ws)) ≡ accepted a → answered room (pick b (refused 1) (holds (read ws))) ≡ accepted a
    go true f = absurd (none 1 f)
    go false f = on_read (read_then ws) refl f
