-- Where the parts end that are passed over: by a list's count and the width of what it counts.
use Prim.Native.Nat.{ℕ, zero, suc, ◌+◌, ◌*◌, ◌-◌, ◌≤◌, ◌<◌}
use native.Mathlib.Omega.{arith}
use mathlib.Core.Path.{◌≡◌, refl, sym, ap, subst, ◌∙◌}
use mathlib.Core.List.{List}
use lib.ListN.{length}
use Rattle.model.specs.Sheet.{Phi}
use Rattle.model.specs.Reading.{Position}
use Rattle.hir.specs.Words.{Part, word_at, effect_at, operand_at, several, effects_from, phi_from, phis_from, terminal_of, terminal_from}
use Rattle.model.specs.Limits.{place_width, effect_width, operand_width}
use Rattle.hir.specs.Parts.{ListAt, TerminalAt}
use Rattle.hir.specs.declared.Place.{Place}
use Rattle.hir.specs.declared.at.List.{List as Listed}
use Rattle.hir.specs.declared.at.Terminal.{Terminal}
use Rattle.hir.specs.declared.at.Terminal.TheVariants.{Other, Return, MaybeThrow}
use Rattle.hir.proofs.Widths.{Rises, phi_rises}
use Rattle.hir.proofs.Several.{list_is, several_next, first_inside, several_none, list_end}
use Rattle.hir.proofs.Values.{list_end as places_end}

-- ---- a phi, and several
pub phi_past : (ws : List ℕ) (c : Position) {l : Listed} → ListAt ws (c + place_width) l → l.first + l.count * operand_width ≡ (phi_from ws c).next
unfolding phi_from
phi_past ws c h = list_end operand_width operand_at ws (c + place_width) h

pub phi_follows : Rises phi_from
phi_follows ws c = omega (arith, phi_rises ws c)

-- with `left` phis left from c on
abbrev pub PhisLeft : List ℕ → Position → ℕ → Position → Type 0
PhisLeft ws end left c = (several left phi_from ws c).next ≡ end

pub phis-start : (ws : List ℕ) (c : Position) {l : Listed} → ListAt ws c l → PhisLeft ws (phis_from ws c).next (l.count - 0) l.first
phis-start ws c {l} h =
    let k : l.count - 0 ≡ l.count = omega arith in
    ap (λ (j : ℕ). (several j phi_from ws l.first).next) k ∙ ap (λ (p : Part (List Phi)). p.next) (sym (list_is phi_from ws c h))

pub phis_turn : (ws : List ℕ) (n i : ℕ) (c : Position) {d end : Position} → i < n → PhisLeft ws end (n - i) c → d ≡ (phi_from ws c).next → PhisLeft ws end (n - (i + 1)) d
phis_turn ws n i c {d} z v e =
    let k : n - (i + 1) ≡ n - i - 1 = omega arith in
    ap (λ (j : ℕ). (several j phi_from ws d).next) k
    ∙ ap (λ (j : Position). (several (n - i - 1) phi_from ws j).next) e ∙ sym (ap (λ (p : Part (List Phi)). p.next) (several_next phi_from ws (n - i) c (omega arith))) ∙ v

pub phis_inside : (ws : List ℕ) (left : ℕ) (c : Position) {end : Position} → PhisLeft ws end left c → 0 < left → end ≤ length ws → (phi_from ws c).next ≤ length ws
phis_inside ws left c v z h = first_inside phi_from ws left c phi_follows z (omega (arith, v, h))

pub phis_end : (ws : List ℕ) (left : ℕ) (c : Position) {end : Position} → PhisLeft ws end left c → left ≤ 0 → c ≡ end
phis_end ws left c v z = sym (ap (λ (p : Part (List Phi)). p.next) (several_none phi_from ws left c z)) ∙ v

-- ---- a terminal
module _ (ws : List ℕ) (c : Position) {t : Terminal} (h : TerminalAt ws c t) where
  pub other_past : {l : Listed} → t ≡ Other l → l.first + place_width * l.count ≡ (terminal_from ws c).next
  unfolding terminal_from terminal_of
  other_past {l} e = let k : TerminalAt ws c (Other l) = subst (TerminalAt ws c) e h in rw k.0 (places_end ws (c + 2) k.1)

  pub return_past : {value : Place} {l : Listed} → t ≡ Return value l → l.first + effect_width * l.count + 1 ≡ (terminal_from ws c).next
  unfolding terminal_from terminal_of
  return_past {value} {l} e = let k : TerminalAt ws c (Return value l) = subst (TerminalAt ws c) e h in rw k.0 (omega (arith, list_end effect_width effect_at ws (c + 2 + place_width) k.1.1))

  pub throw_past : {l : Listed} → t ≡ MaybeThrow l → l.first + effect_width * l.count + 1 ≡ (terminal_from ws c).next
  unfolding terminal_from terminal_of
  throw_past {l} e = let k : TerminalAt ws c (MaybeThrow l) = subst (TerminalAt ws c) e h in omega (arith, list_end effect_width effect_at ws (c + 2) k.1, effects_follow (word_at ws c) (word_at ws (c + 1)) k.0)
    where
      effects_follow : (k o : ℕ) → 2 ≤ k → (effects_from ws (c + 2)).next + 1 ≡ (terminal_of k o ws (c + 2)).next
      effects_follow zero o i = absurd (omega (arith, i))
      effects_follow (suc zero) o i = absurd (omega (arith, i))
      effects_follow (suc (suc k)) o i = refl
