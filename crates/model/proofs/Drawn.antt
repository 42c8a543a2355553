-- What a class load draws: numbers below their bound, effects of its nine kinds whose words are within their limits, one in each instruction.
use Prim.Native.Nat.{ℕ, zero, suc, ◌+◌, ◌≤◌, ◌<◌}
use native.Mathlib.Nat.{mod-lt}
use native.Mathlib.Omega.{arith}
use mathlib.Core.Path.{◌≡◌, refl, sym, subst}
use mathlib.Core.Bool.{Bool, true, false}
use lib.ListN.{length}
use lib.Dec.{leb}
use Rattle.model.specs.Lists.{Every}
use Rattle.model.specs.Sheet.{Place, plain_place, EffectKind, Mutate, Effect, Instruction}
use Rattle.model.specs.Effects.{row_of, is_create_function, is_apply, is_render, is_diagnosis}
use Rattle.model.specs.Encoder.{UsedFits, ExtraFits, EffectFits}
use Rattle.model.specs.Load.{draw_below, load_kinds, load_kind, load_effect, draw_second, draw_places, draw_effect, load_instruction, load_instructions}
use Rattle.model.proofs.Everywhere.{every_at}

pub draw-below : (k state : ℕ) → 0 < k → (draw_below k state).number < k
unfolding draw_below
draw-below k state h = mod-lt _ h

-- a kind of at least one place, without an inner function, and neither a diagnosis nor a render nor Apply
abbrev Drawable : EffectKind → Type 0
Drawable k = (leb 1 (row_of k).places ≡ true) × (is_create_function k ≡ false) × (is_diagnosis (row_of k).role ≡ false) × (is_render (row_of k).role ≡ false) × (is_apply k ≡ false)

-- all nine are
all_drawable : Every Drawable load_kinds
unfolding row_of
all_drawable =
    ((refl, refl, refl, refl, refl), ((refl, refl, refl, refl, refl), ((refl, refl, refl, refl, refl), ((refl, refl, refl, refl, refl), ((refl, refl, refl, refl, refl), ((refl, refl, refl, refl, refl), ((refl, refl, refl, refl, refl), ((refl, refl, refl, refl, refl), ((refl, refl, refl, refl, refl), tt)))))))))

kind_drawable : (k : ℕ) → Drawable (load_kind k)
unfolding load_kind
kind_drawable k = every_at Drawable load_kinds k Mutate all_drawable all_drawable.0

-- an effect of such a kind, its places below n where the kind has them
pub record Drawn (n : ℕ) (e : Effect) : Type 0 where
  pub kind : EffectKind
  pub first : ℕ
  pub second : Place
  pub effect : e ≡ load_effect kind (plain_place first) second
  pub drawable : Drawable kind
  pub below : first < n
  pub fits : UsedFits (leb 2 (row_of kind).places) n (row_of kind).instance second

module _ (n : ℕ) (some : 0 < n) where
  second_drawn : (k : EffectKind) (b : Bool) (i state : ℕ) → Drawable k → i < n → leb 2 (row_of k).places ≡ b → Drawn n (draw_second b n k (plain_place i) state).effect
  unfolding draw_second
  second_drawn k true i state d h e = record {
    kind = k;
    first = i;
    second = plain_place (draw_below n state).number;
    effect = refl;
    drawable = d;
    below = h;
    fits = rw e (draw-below n state some, omega arith);
  }
  second_drawn k false i state d h e = record { kind = k; first = i; second = plain_place 0; effect = refl; drawable = d; below = h; fits = rw e (omega arith, refl) }

  pub effect-drawn : (state : ℕ) → Drawn n (draw_effect n state).effect
  unfolding draw_effect draw_places
  effect-drawn state =
      let d = draw_below (length load_kinds) state in
      let k : EffectKind = load_kind d.number in
      second_drawn k (leb 2 (row_of k).places) (draw_below n d.state).number (draw_below n d.state).state (kind_drawable d.number) (draw-below n d.state some) refl

-- its words are within their limits
pub drawn-fits : (n : ℕ) (e : Effect) → Drawn n e → EffectFits n 0 e
drawn-fits n e d =
    let k : EffectKind = d.kind in
    subst (λ (x : Effect). EffectFits n 0 x) (sym d.effect) (
      subst (λ (b : Bool). UsedFits b n 0 (plain_place d.first)) (sym d.drawable.0) (d.below, omega arith),
      d.fits,
      subst (λ (b : Bool). ExtraFits b 0 (row_of k).extra 0) (sym d.drawable.1) (omega arith),
    )

-- an effect that is neither copied nor recorded
abbrev pub NotCopied : Effect → Type 0
NotCopied e = (is_diagnosis (row_of e.kind).role ≡ false) × (is_render (row_of e.kind).role ≡ false)

pub drawn-not-copied : (n : ℕ) (e : Effect) → Drawn n e → NotCopied e
drawn-not-copied n e d = subst NotCopied (sym d.effect) (d.drawable.2, d.drawable.3)

pub drawn-not_apply : (n : ℕ) (e : Effect) → Drawn n e → is_apply e.kind ≡ false
drawn-not_apply n e d = subst (λ (x : Effect). is_apply x.kind ≡ false) (sym d.effect) d.drawable.4

-- ---- instructions
pub instructions_length : (n o left state : ℕ) → length (load_instructions n o left state) ≡ left
unfolding load_instructions
instructions_length n o zero state = refl
instructions_length n o (suc left) state = omega (arith, instructions_length n (suc o) left (draw_effect n state).state)

-- what holds of every instruction with one drawn effect and an order up to `last` holds of all
pub each_instruction : (n last : ℕ) (P : Instruction → Type 0) → ((o state : ℕ) → o ≤ last → P (load_instruction o (draw_effect n state).effect))
    → (left o state : ℕ) → o + left ≤ suc last → Every P (load_instructions n o left state)
unfolding load_instructions
each_instruction n last P h zero o state l = tt
each_instruction n last P h (suc left) o state l = (h o state (omega (arith, l)), each_instruction n last P h left (suc o) (draw_effect n state).state (omega (arith, l)))
