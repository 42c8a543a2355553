-- What order 7 changes, and what it does not, with the limits of orders 7 to 9.
use Prim.Native.Nat.{ℕ, ◌≤◌}
use native.Mathlib.Omega.{arith}
use mathlib.Core.Path.{◌≡◌, refl, sym, ap, subst, ◌∙◌}
use mathlib.Core.Bool.{Bool, true, false, ◌||◌, ◌&&◌}
use mathlib.Core.List.{List}
use mathlib.Core.Logic.{◌⊎◌, inl, inr}
use lib.ListN.{length}
use lib.Dec.{ltb, eqb}
use borrow.Author.Tests.{le-ltb, lt-ltb, ltb-true}
use Rattle.model.specs.Limits.{most_sheet}
use Rattle.model.specs.Lists.{pick, each}
use Rattle.model.specs.Sheet.{Sheet}
use Rattle.model.specs.Reading.{Position, Result, got, refused, pure, refuse}
use Rattle.model.specs.Sections.{sheet}
use Rattle.model.specs.Asking as asking
use Rattle.model.specs.Asking.{tell_block}
use Rattle.model.specs.Totals.{Totals, totals, over}
use Rattle.model.specs.Effects.{relation}
use Rattle.model.specs.Counting.{no_totals, with_relation, count_kind, counting_by}
use Rattle.model.specs.Call.{ended}
use Rattle.model.specs.Overlap.{most_relation_effects, over_then, read_then, judged, read_before, Seen, seen_effect, seen_relation, looking_at, Passes, Overlap}
use Rattle.model.proofs.Got.{got_value, not_both_lem}
use Rattle.model.proofs.WhenRead.{ended_got}
use Rattle.model.proofs.Limited.{Above, Limit, over_limit}
use Rattle.model.proofs.CountedSheet.{role_above, kind_above, got_by, within_by, refused_by}
use Rattle.model.proofs.Ahead.{Comes, same, neither, stopped}
use Rattle.model.proofs.SheetAhead.{Asked, on, apart, Related, sheet_ahead}

-- ---- the limits
or_true : (b : Bool) → (b || true) ≡ true
or_true true = refl
or_true false = refl

then_above : (t u : Totals) → Above t u → over_then t ≡ true → over_then u ≡ true
unfolding over_then
then_above t u h e = go (ltb most_relation_effects t.relations) refl e
  where
    go : (b : Bool) → ltb most_relation_effects t.relations ≡ b → (b || over t) ≡ true → (ltb most_relation_effects u.relations || over u) ≡ true
    go true f g = ap (λ (x : Bool). x || over u) (lt-ltb most_relation_effects u.relations (omega (arith, h.relations, ltb-true most_relation_effects t.relations f)))
    go false f g = ap (λ (x : Bool). ltb most_relation_effects u.relations || x) (over_limit.stays t u h g) ∙ or_true (ltb most_relation_effects u.relations)

pub then_limit : Limit over_then
unfolding over_then
then_limit = record { none = over_limit.none; stays = then_above }

-- ---- a reading that looks at one counted word
-- the totals so far are the same, and none is over its limit
abbrev Within : Totals → Seen → Type 0
Within t u = (t ≡ u.totals) × (over_then t ≡ false)

abbrev Over : Seen → Type 0
Over u = over_then u.totals ≡ true

module _ (n : ℕ) where
  looked : (t : Totals) (u : Seen) → t ≡ u.totals → Asked (counting_by over_then) (looking_at n) (Unit {0}) Within Over t u
  looked t u e = go (over_then t) refl
    where
      no : (b : Bool) → over_then u.totals ≡ false → (b && over_then u.totals) ≡ false
      no true o = o
      no false o = refl

      go : (b : Bool) → over_then t ≡ b → Asked (counting_by over_then) (looking_at n) (Unit {0}) Within Over t u
      go true o = apart tt (λ ws c. ap (λ (x : Bool). pick x (refuse 8) (pure tt) ws c) o) (sym (ap over_then e) ∙ o)
      go false o =
          on (λ ws c. ap (λ (x : Bool). pick x (refuse 8) (pure tt) ws c) o)
          (λ ws c. ap (λ (x : Bool). pick x (refuse 8) (pure tt) ws c) (no (eqb u.words n) (sym (ap over_then e) ∙ o))) (e, o)

  related : Related (counting_by over_then) (looking_at n) (Unit {0}) Within Over
  related = record {
    effect = λ terminal k t u r. looked _ (seen_effect terminal k u) (ap (count_kind terminal k) r.0);
    relation = λ t u r. looked _ (seen_relation u) (ap (λ (x : Totals). with_relation x) r.0);
    worse_effect = λ terminal k u o. then_limit.stays u.totals (count_kind terminal k u.totals) (kind_above terminal k u.totals) o;
    worse_relation = λ u o. then_limit.stays u.totals (with_relation u.totals) (role_above relation u.totals) o;
  }

  -- where it is stopped, so is the reading that gives 8
  stops : (ws : List ℕ) → asking.sheet (looking_at n) ws 0 ≡ refused 8 → asking.sheet (counting_by over_then) ws 0 ≡ refused 8
  stops ws e = go (sheet_ahead (counting_by over_then) (looking_at n) (Unit {0}) Within Over related refl (refl, then_limit.none) ws 0)
    where
      first : Sheet → Totals
      first s = each (tell_block (counting_by over_then)) s.blocks no_totals

      second : Sheet → Seen
      second s = each (tell_block (looking_at n)) s.blocks (looking_at n).none

      go : Comes (Unit {0}) Within Over first second (asking.sheet (counting_by over_then) ws 0) (asking.sheet (looking_at n) ws 0) → asking.sheet (counting_by over_then) ws 0 ≡ refused 8
      go (same v c x y r) = absurd (not_both_lem y e)
      go (neither k x y) = x ∙ sym y ∙ e
      go (stopped m x l) = x

-- ---- the two ways after the reading
judged_got : (r : Result Sheet) (s : Sheet) (c : Position) → judged r ≡ got s c → (r ≡ got s c) × (over_then (totals s) ≡ false)
unfolding judged
judged_got (refused k) s c e = absurd (not_both_lem e refl)
judged_got (got t d) s c e = go (over_then (totals t)) refl e
  where
    go : (b : Bool) → over_then (totals t) ≡ b → pick b (refused 8) (got t d) ≡ got s c → (got t d ≡ got s c) × (over_then (totals s) ≡ false)
    go true h f = absurd (not_both_lem f refl)
    go false h f = (f, subst (λ (z : Sheet). over_then (totals z) ≡ false) (got_value f) h)

module _ (ws : List ℕ) where
  same_way : (s : Sheet) (c : Position) → read_before ws ≡ got s c → read_then ws ≡ got s c
  unfolding read_then read_before
  same_way s c e = go (ltb most_sheet (length ws)) e
    where
      go : (b : Bool) → pick b (refused 2) (judged (ended (sheet ws 0) (length ws))) ≡ got s c → pick b (refused 2) (ended (asking.sheet (counting_by over_then) ws 0) (length ws)) ≡ got s c
      go true f = absurd (not_both_lem f refl)
      go false f =
          let j = judged_got (ended (sheet ws 0) (length ws)) s c f in
          let r = ended_got (sheet ws 0) (length ws) s c j.0 in
          ap (λ (x : Result Sheet). ended x (length ws)) (within_by over_then then_limit ws 0 s c r j.1 ∙ sym r) ∙ j.0

  way_back : (s : Sheet) (c : Position) → read_then ws ≡ got s c → read_before ws ≡ got s c
  unfolding read_then read_before judged
  way_back s c e = go (ltb most_sheet (length ws)) e
    where
      go : (b : Bool) → pick b (refused 2) (ended (asking.sheet (counting_by over_then) ws 0) (length ws)) ≡ got s c → pick b (refused 2) (judged (ended (sheet ws 0) (length ws))) ≡ got s c
      go true f = absurd (not_both_lem f refl)
      go false f =
          let r = ended_got (asking.sheet (counting_by over_then) ws 0) (length ws) s c f in
          let k = got_by over_then then_limit ws 0 s c r in
          ap (λ (x : Result Sheet). judged (ended x (length ws))) (k.0 ∙ sym r) ∙ ap judged f ∙ ap (λ (b : Bool). pick b (refused 8) (got s c)) k.1

  gives_8 : length ws ≤ most_sheet → Passes ws → read_then ws ≡ refused 8
  unfolding read_then ended
  gives_8 h p = rw (le-ltb most_sheet (length ws) h, stops p.0 ws p.1)

  other_way : (k : ℕ) → read_then ws ≡ refused k → (k ≡ 8 → ⊥) → read_before ws ≡ refused k
  unfolding read_then read_before judged ended
  other_way k e n = go (ltb most_sheet (length ws)) e
    where
      number : Result Sheet → ℕ
      number (got s d) = 0
      number (refused j) = j

      on_got : (s : Sheet) (d : Position) → sheet ws 0 ≡ got s d → ended (got s d) (length ws) ≡ refused k → judged (ended (sheet ws 0) (length ws)) ≡ refused k
      on_got s d r f = ap (λ (x : Result Sheet). judged (ended x (length ws))) r ∙ ap judged f

      on_refused : (j : ℕ) → (sheet ws 0 ≡ refused j) ⊎ (j ≡ 8) → j ≡ k → judged (ended (sheet ws 0) (length ws)) ≡ refused k
      on_refused j (inl r) f = ap (λ (x : Result Sheet). judged (ended x (length ws))) r ∙ ap refused f
      on_refused j (inr r) f = absurd (n (sym f ∙ r))

      read_so : (r : Result Sheet) → asking.sheet (counting_by over_then) ws 0 ≡ r → ended r (length ws) ≡ refused k → judged (ended (sheet ws 0) (length ws)) ≡ refused k
      read_so (got s d) r f = on_got s d (got_by over_then then_limit ws 0 s d r).0 f
      read_so (refused j) r f = on_refused j (refused_by over_then then_limit ws 0 j r) (ap number f)

      go : (b : Bool) → pick b (refused 2) (ended (asking.sheet (counting_by over_then) ws 0) (length ws)) ≡ refused k → pick b (refused 2) (judged (ended (sheet ws 0) (length ws))) ≡ refused k
      go true f = f
      go false f = read_so (asking.sheet (counting_by over_then) ws 0) refl f

-- for all words
pub two_refusals : (ws : List ℕ) → Overlap ws
two_refusals ws = record { same = same_way ws; back = way_back ws; news = gives_8 ws; others = other_way ws }
