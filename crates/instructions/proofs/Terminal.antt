-- A terminal: its operands, or of a Return its value, then its effects.
use Prim.Native.Nat.{ℕ, zero, suc, ◌+◌, ◌*◌, ◌≤◌, ◌<◌}
use native.Mathlib.Omega.{arith}
use mathlib.Core.Path.{◌≡◌, refl, sym, subst, ap, ◌∙◌}
use mathlib.Core.List.{List}
use lib.ListN.{length}
use Rattle.model.specs.Limits.{most_identifiers, most_index, place_width}
use Rattle.model.specs.Lists.{each, Every, one_if}
use Rattle.model.specs.Sheet.{EvaluationOrder, Place, Effect, EffectList, Terminal, Other, Return, MaybeThrow}
use Rattle.model.specs.Effects.{is_alias}
use Rattle.model.specs.Ranges.{PlaceBelow}
use Rattle.model.specs.Totals.{aliases_in}
use Rattle.model.specs.Reading.{Position}
use Rattle.model.specs.Graph.{into_aliases, relate}
use Rattle.model.specs.Built.{between}
use Rattle.model.specs.Building.{terminal_effect, terminal as terminal_step}
use Rattle.hir.specs.declared.Place.{Place as CodePlace}
use Rattle.hir.specs.declared.at.List.{List as Listed}
use Rattle.hir.specs.declared.at.Terminal.{Terminal as CodeTerminal}
use Rattle.hir.specs.declared.at.Terminal.TheVariants.{Other as IsOther, Return as IsReturn, MaybeThrow as IsMaybeThrow}
use Rattle.hir.specs.Says.{place_is}
use Rattle.hir.specs.Words.{Part, word_at, place_at, several, effects_from, places_from, terminal_of, terminal_from}
use Rattle.hir.specs.Parts.{TerminalAt}
use Rattle.hir.proofs.Values.{list_end}
use Rattle.building.specs.declared.Building.{Building}
use Rattle.building.specs.Built.{index_of}
use Rattle.instructions.specs.Cost.{Cost, relations_only, sum, costs, terminal_effect_cost, terminal_cost, Fits}
use Rattle.instructions.specs.Ranges.{InRange, TerminalInRange}
use Rattle.instructions.specs.Builds.{SpendsOn, Spends, and_count, Ready, Builds}
use Rattle.instructions.proofs.Spending.{spends_none, spends_then, fits_second, cost_eq, costs_relations}
use Rattle.instructions.proofs.Building.{ready_as, builds_as, counted_ready, counted_builds}
use Rattle.instructions.proofs.Instruction.{one_effect}

-- ---- what it spends
effects_cost : (l : EffectList) → costs terminal_effect_cost l ≡ relations_only (aliases_in l)
unfolding terminal_effect_cost
effects_cost l = costs_relations (λ (e : Effect). one_if (is_alias e.kind)) l

throws_cost : (o : EvaluationOrder) (l : EffectList) → terminal_cost (MaybeThrow o l) ≡ costs terminal_effect_cost l
unfolding terminal_cost
throws_cost o l = sym (effects_cost l)

-- the Return value, then the effects
returns_cost : (o : EvaluationOrder) (p : Place) (l : EffectList) → terminal_cost (Return o p l) ≡ sum (relations_only 1) (costs terminal_effect_cost l)
unfolding terminal_cost
returns_cost o p l =
    let e : relations_only (suc (aliases_in l)) ≡ sum (relations_only 1) (relations_only (aliases_in l)) = cost_eq (omega arith) refl refl refl in
    e ∙ ap (sum (relations_only 1)) (sym (effects_cost l))

-- ---- the terminal by its kind
abbrev other_from : List ℕ → Position → Part Terminal
other_from s c = record { what = Other (word_at s (c + 1)) (places_from s (c + 2)).what; next = (places_from s (c + 2)).next }

abbrev return_from : List ℕ → Position → Part Terminal
return_from s c = record { what = Return (word_at s (c + 1)) (place_at s (c + 2)) (effects_from s (c + 2 + place_width)).what; next = (effects_from s (c + 2 + place_width)).next + 1 }

abbrev throw_from : List ℕ → Position → Part Terminal
throw_from s c = record { what = MaybeThrow (word_at s (c + 1)) (effects_from s (c + 2)).what; next = (effects_from s (c + 2)).next + 1 }

module _ (s : List ℕ) (c : Position) where
  other_is : word_at s c ≡ 0 → terminal_from s c ≡ other_from s c
  unfolding terminal_from terminal_of
  other_is q = ap (λ (k : ℕ). terminal_of k (word_at s (c + 1)) s (c + 2)) q

  return_is : word_at s c ≡ 1 → terminal_from s c ≡ return_from s c
  unfolding terminal_from terminal_of
  return_is q = ap (λ (k : ℕ). terminal_of k (word_at s (c + 1)) s (c + 2)) q

  throw_is : 2 ≤ word_at s c → terminal_from s c ≡ throw_from s c
  unfolding terminal_from terminal_of
  throw_is h = go (word_at s c) h
    where
      go : (k : ℕ) → 2 ≤ k → terminal_of k (word_at s (c + 1)) s (c + 2) ≡ throw_from s c
      go zero h = absurd (omega (arith, h))
      go (suc zero) h = absurd (omega (arith, h))
      go (suc (suc k)) h = refl

-- ---- built, by what a match found
module _ (s : List ℕ) (c : Position) {ws : List ℕ} {b : Building} (w : Ready (terminal_from s c) TerminalInRange terminal_cost s ws b) where
  module _ {t : CodeTerminal} {l : Listed} (q : t ≡ IsOther l) (h : TerminalAt s c t) where
    other : TerminalAt s c (IsOther l)
    other = subst (TerminalAt s c) q h

    -- its operands stand in the sheet
    pub other_inside : l.first + place_width * l.count ≤ length s
    other_inside = omega (arith, list_end s (c + 2) other.1, (ready_as (other_is s c other.0) w).inside)

    pub other_builds : (r : Place) {d : Position} → d ≡ l.first + place_width * l.count → Builds (terminal_from s c) (terminal_step r) terminal_cost s ws b ws b d
    unfolding terminal_step terminal_cost
    other_builds r e = builds_as (other_is s c other.0) (record { spends = spends_none w.sound s; next = e ∙ list_end s (c + 2) other.1 })

  module _ {t : CodeTerminal} {l : Listed} (q : t ≡ IsMaybeThrow l) (h : TerminalAt s c t) where
    throw : TerminalAt s c (IsMaybeThrow l)
    throw = subst (TerminalAt s c) q h

    pub throw_ready : Ready (and_count (several l.count one_effect s l.first)) (Every InRange) (costs terminal_effect_cost) s ws b
    throw_ready =
        let v = ready_as (throw_is s c throw.0) w in
        counted_ready one_effect s (c + 2) throw.1 (record {
          sound = v.sound;
          holding = v.holding;
          inside = v.inside;
          range = v.range;
          fits = subst (λ (k : Cost). Fits k b) (throws_cost (word_at s (c + 1)) (effects_from s (c + 2)).what) v.fits;
        })

    pub throw_builds : (r : Place) {ws' : List ℕ} {r' : Building} {d : Position} → Builds (and_count (several l.count one_effect s l.first)) (each terminal_effect) (costs terminal_effect_cost) s ws b ws' r' d → Builds (terminal_from s c) (terminal_step r) terminal_cost s ws b ws' r' d
    unfolding terminal_step
    throw_builds r {ws'} {r'} {d} g =
        let o = counted_builds one_effect s (c + 2) throw.1 g in
        let e : EffectList = (effects_from s (c + 2)).what in
        builds_as (throw_is s c throw.0) (record { spends = subst (λ (k : Cost). SpendsOn s (each terminal_effect e) k ws b ws' r') (sym (throws_cost (word_at s (c + 1)) e)) o.spends; next = o.next })

  module _ {t : CodeTerminal} {v : CodePlace} {l : Listed} (q : t ≡ IsReturn v l) (h : TerminalAt s c t) where
    return : TerminalAt s c (IsReturn v l)
    return = subst (TerminalAt s c) q h

    abbrev behind : EffectList
    behind = (effects_from s (c + 2 + place_width)).what

    returned : Ready (return_from s c) TerminalInRange terminal_cost s ws b
    returned = ready_as (return_is s c return.0) w

    room : Fits (sum (relations_only 1) (costs terminal_effect_cost behind)) b
    room = subst (λ (k : Cost). Fits k b) (returns_cost (word_at s (c + 1)) (place_at s (c + 2)) behind) returned.fits

    pub value-fits : index_of b < most_index
    value-fits = omega (arith, room.indexes)

    pub value_known : PlaceBelow most_identifiers (place_is v)
    value_known = subst (PlaceBelow most_identifiers) (sym return.1.0) returned.range.0

    module _ (r : Place) {ws₁ : List ℕ} {b₁ : Building} (x : Spends (between (relate into_aliases) (place_is v) r) (relations_only 1) ws b ws₁ b₁) where
      pub return_ready : Ready (and_count (several l.count one_effect s l.first)) (Every InRange) (costs terminal_effect_cost) s ws₁ b₁
      return_ready = counted_ready one_effect s (c + 2 + place_width) return.1.1 (record {
        sound = (x s).sound;
        holding = (x s).holding w.holding;
        inside = returned.inside;
        range = returned.range.1;
        fits = fits_second (relations_only 1) (costs terminal_effect_cost behind) room (x s);
      })

      pub return_builds : {ws' : List ℕ} {r' : Building} {d : Position} → Builds (and_count (several l.count one_effect s l.first)) (each terminal_effect) (costs terminal_effect_cost) s ws₁ b₁ ws' r' d → Builds (terminal_from s c) (terminal_step r) terminal_cost s ws b ws' r' d
      unfolding terminal_step
      return_builds {ws'} {r'} {d} g =
          let o = counted_builds one_effect s (c + 2 + place_width) return.1.1 g in
          let y = subst (λ (p : Place). Spends (between (relate into_aliases) p r) (relations_only 1) ws b ws₁ b₁) return.1.0 x in
          let z = spends_then (relations_only 1) (costs terminal_effect_cost behind) (y s) o.spends in
          builds_as (return_is s c return.0) (record {
            spends = subst (λ (k : Cost). SpendsOn s (terminal_step r (return_from s c).what) k ws b ws' r') (sym (returns_cost (word_at s (c + 1)) (place_at s (c + 2)) behind)) z;
            next = o.next;
          })
