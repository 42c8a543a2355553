-- The reading that gives 8 beside the one that does not: what it accepts, and what it is refused with.
use Prim.Native.Nat.{ℕ}
use native.Mathlib.Omega.{arith}
use mathlib.Core.Path.{◌≡◌, refl, sym, ap, subst, ◌∙◌}
use mathlib.Core.Bool.{Bool, true, false, true≢false}
use mathlib.Core.List.{List}
use mathlib.Core.Logic.{◌⊎◌, inl, inr}
use Rattle.model.specs.Lists.{pick, each}
use Rattle.model.specs.Sheet.{EffectKind, Sheet}
use Rattle.model.specs.Effects.{Role, relation, mutation, render, diagnosis, nothing, row_of, is_alias}
use Rattle.model.specs.Reading.{Position, Result, got, refused, pure, refuse}
use Rattle.model.specs.Sections.{no_question, inner_function, sheet}
use Rattle.model.specs.Asking as asking
use Rattle.model.specs.Asking.{Asks, tell_block}
use Rattle.model.specs.Totals.{Totals, totals, over}
use Rattle.model.specs.Counting.{no_totals, with_relation, count_role, count_kind, counting_by, counting, counted_sheet}
use Rattle.model.proofs.Got.{got_value, not_both_lem}
use Rattle.model.proofs.Asked.{itself, sheet_follows, never}
use Rattle.model.proofs.Limited.{Above, Limit, over_limit}
use Rattle.model.proofs.TotalsAdded.{sheet_adds}
use Rattle.model.proofs.Ahead.{Comes, same, neither, stopped}
use Rattle.model.proofs.SheetAhead.{Asked, on, apart, Related, sheet_ahead}

-- the same count, and nothing is asked
abbrev quiet : Asks
quiet = record { Tally = Totals; none = no_totals; effect = count_kind; relation = with_relation; ask = λ t. no_question; inner = inner_function }

quiet_sheet : (ws : List ℕ) (c : Position) → asking.sheet quiet ws c ≡ sheet ws c
unfolding sheet
quiet_sheet ws c = never (asking.sheet quiet) sheet (sheet_follows (λ (k : ℕ). ⊥) quiet (λ t. itself (λ (k : ℕ). ⊥) no_question)) ws c

-- ---- a count does not lower a total
pub role_above : (r : Role) (t : Totals) → Above t (count_role r t)
role_above relation t = record { relations = omega arith; mutations = omega arith; renders = omega arith }
role_above mutation t = record { relations = omega arith; mutations = omega arith; renders = omega arith }
role_above render t = record { relations = omega arith; mutations = omega arith; renders = omega arith }
role_above diagnosis t = record { relations = omega arith; mutations = omega arith; renders = omega arith }
role_above nothing t = record { relations = omega arith; mutations = omega arith; renders = omega arith }

pub kind_above : (terminal : Bool) (k : EffectKind) (t : Totals) → Above t (count_kind terminal k t)
unfolding count_kind
kind_above false k t = role_above (row_of k).role t
kind_above true k t = go (is_alias k)
  where
    go : (b : Bool) → Above t (pick b (with_relation t) t)
    go true = role_above relation t
    go false = role_above nothing t

-- ---- both readings, by what is over a limit
module _ (over : Totals → Bool) (limit : Limit over) where
  -- the totals so far are the same, and none is over its limit
  abbrev Within : Totals → Totals → Type 0
  Within t u = (t ≡ u) × (over t ≡ false)

  abbrev Over : Totals → Type 0
  Over u = over u ≡ true

  asked-totals : (t u : Totals) → t ≡ u → Asked (counting_by over) quiet (Unit {0}) Within Over t u
  asked-totals t u e = go (over t) refl
    where
      go : (b : Bool) → over t ≡ b → Asked (counting_by over) quiet (Unit {0}) Within Over t u
      go true o = apart tt (λ ws c. ap (λ (x : Bool). pick x (refuse 8) (pure tt) ws c) o) (sym (ap over e) ∙ o)
      go false o = on (λ ws c. ap (λ (x : Bool). pick x (refuse 8) (pure tt) ws c) o) (λ ws c. refl) (e, o)

  related : Related (counting_by over) quiet (Unit {0}) Within Over
  related = record {
    effect = λ terminal k t u r. asked-totals _ _ (ap (count_kind terminal k) r.0);
    relation = λ t u r. asked-totals _ _ (ap (λ (x : Totals). with_relation x) r.0);
    worse_effect = λ terminal k u o. limit.stays u (count_kind terminal k u) (kind_above terminal k u) o;
    worse_relation = λ u o. limit.stays u (with_relation u) (role_above relation u) o;
  }

  abbrev told : Sheet → Totals
  told s = each (tell_block counting) s.blocks no_totals

  side_by_side : (ws : List ℕ) (c : Position) → Comes (Unit {0}) Within Over told told (asking.sheet (counting_by over) ws c) (sheet ws c)
  unfolding tell_block
  side_by_side ws c =
      subst (λ (y : Result Sheet). Comes (Unit {0}) Within Over told told (asking.sheet (counting_by over) ws c) y) (quiet_sheet ws c)
      (sheet_ahead (counting_by over) quiet (Unit {0}) Within Over related refl (refl, limit.none) ws c)

  module _ (ws : List ℕ) (c : Position) where
    -- what is accepted is what was read, with its totals within their limits
    pub got_by : (s : Sheet) (d : Position) → asking.sheet (counting_by over) ws c ≡ got s d → (sheet ws c ≡ got s d) × (over (totals s) ≡ false)
    got_by s d e = go (side_by_side ws c)
      where
        go : Comes (Unit {0}) Within Over told told (asking.sheet (counting_by over) ws c) (sheet ws c) → (sheet ws c ≡ got s d) × (over (totals s) ≡ false)
        go (same v k x y r) = (y ∙ sym x ∙ e, sym (ap (λ (z : Sheet). over (told z)) (got_value (sym x ∙ e)) ∙ ap over (sheet_adds s)) ∙ r.1)
        go (neither k x y) = absurd (not_both_lem e x)
        go (stopped m x l) = absurd (not_both_lem e x)

    -- and the other way
    pub within_by : (s : Sheet) (d : Position) → sheet ws c ≡ got s d → over (totals s) ≡ false → asking.sheet (counting_by over) ws c ≡ got s d
    within_by s d e o = go (side_by_side ws c)
      where
        go : Comes (Unit {0}) Within Over told told (asking.sheet (counting_by over) ws c) (sheet ws c) → asking.sheet (counting_by over) ws c ≡ got s d
        go (same v k x y r) = x ∙ sym y ∙ e
        go (neither k x y) = absurd (not_both_lem e y)
        go (stopped m x l) = absurd (true≢false (sym (l s d e) ∙ ap over (sheet_adds s) ∙ o))

    -- a refusal is the reading's own, or 8
    pub refused_by : (k : ℕ) → asking.sheet (counting_by over) ws c ≡ refused k → (sheet ws c ≡ refused k) ⊎ (k ≡ 8)
    refused_by k e = go (side_by_side ws c)
      where
        number : Result Sheet → ℕ
        number (got s d) = 0
        number (refused n) = n

        go : Comes (Unit {0}) Within Over told told (asking.sheet (counting_by over) ws c) (sheet ws c) → (sheet ws c ≡ refused k) ⊎ (k ≡ 8)
        go (same v j x y r) = absurd (not_both_lem x e)
        go (neither j x y) = inl (y ∙ sym x ∙ e)
        go (stopped m x l) = inr (ap number (sym e ∙ x))

-- ---- of mutations and renders
module _ (ws : List ℕ) (c : Position) where
  pub counted_got : (s : Sheet) (d : Position) → counted_sheet ws c ≡ got s d → (sheet ws c ≡ got s d) × (over (totals s) ≡ false)
  unfolding counted_sheet
  counted_got = got_by over over_limit ws c

  pub counted_within : (s : Sheet) (d : Position) → sheet ws c ≡ got s d → over (totals s) ≡ false → counted_sheet ws c ≡ got s d
  unfolding counted_sheet
  counted_within = within_by over over_limit ws c

  pub counted_refused : (k : ℕ) → counted_sheet ws c ≡ refused k → (sheet ws c ≡ refused k) ⊎ (k ≡ 8)
  unfolding counted_sheet
  counted_refused = refused_by over over_limit ws c
