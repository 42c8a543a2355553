-- The words of a part that was read are in their ranges.
use Prim.Native.Nat.{ℕ, zero, suc, ◌≤◌, ◌<◌}
use native.Mathlib.Omega.{arith}
use mathlib.Core.Path.{◌≡◌, sym, ◌∙◌}
use mathlib.Core.Bool.{Bool, true, false, true≢false}
use mathlib.Core.Option.{Option}
use lib.Dec.{leb}
use Rattle.model.specs.Limits.{most_identifiers, most_functions, most_count, most_order, most_lvalues, most_operands, no_operands, most_terminal, most_traits, most_kind}
use Rattle.model.specs.Lists.{pick, Every}
use Rattle.model.specs.Sheet.{Place, unused_place, EffectKind, EffectList, present, Other, Return, MaybeThrow}
use Rattle.model.specs.Effects.{kind_of, row_of, is_create_function}
use Rattle.model.specs.Ranges.{PlaceBelow}
use Rattle.model.specs.Reading.{word, fixed, at_most, below, counted, optional}
use Rattle.model.specs.Sections.{place, unused, extra, effect, effects, instruction_value, instruction, terminal_of, terminal}
use Rattle.model.proofs.ReadLaws.{Reads, pure_reads, pick_reads, bind_reads, then_reads, optional_reads, below_reads, counted_reads, at_most_reads}
use Rattle.instructions.specs.Ranges.{InRange, InstructionInRange, TerminalInRange}

pub place_known : (n : ℕ) → n ≤ most_identifiers → Reads (place n) (PlaceBelow most_identifiers)
unfolding place
place_known n h =
    bind_reads (below n) _ (λ (i : ℕ). i < n) (PlaceBelow most_identifiers) (below_reads n)
    (λ i k. then_reads (at_most most_traits) _ (PlaceBelow most_identifiers) (λ t. then_reads word _ (PlaceBelow most_identifiers) (λ s. pure_reads _ (PlaceBelow most_identifiers) (omega (arith, h, k)))))

unused_known : Reads (unused 0) (PlaceBelow most_identifiers)
unfolding unused
unused_known =
    bind_reads (at_most 0) _ (λ (i : ℕ). i ≤ 0) (PlaceBelow most_identifiers) (at_most_reads 0)
    (λ i none. then_reads (at_most 0) _ (PlaceBelow most_identifiers) (λ t. then_reads (at_most 0) _ (PlaceBelow most_identifiers) (λ s. pure_reads (unused_place i) (PlaceBelow most_identifiers) (omega (arith, none)))))

first_known : (n : ℕ) → n ≤ most_identifiers → (b : Bool) → Reads (pick b (place n) (unused 0)) (PlaceBelow most_identifiers)
first_known n h b = pick_reads b (place n) (unused 0) (PlaceBelow most_identifiers) (λ e. place_known n h) (λ e. unused_known)

second_known : (n instance : ℕ) → n ≤ most_identifiers → (b : Bool) → Reads (pick b (place n) (unused instance)) (λ (q : Place). b ≡ true → PlaceBelow most_identifiers q)
second_known n instance h b =
    pick_reads b (place n) (unused instance) (λ (q : Place). b ≡ true → PlaceBelow most_identifiers q)
    (λ t ws c a d e u. place_known n h ws c a d e) (λ t ws c a d e u. absurd (true≢false (sym u ∙ t)))

abbrev ExtraKnown : EffectKind → ℕ → Type 0
ExtraKnown k x = (is_create_function k ≡ true → x < most_functions) × (is_create_function k ≡ false → x ≤ (row_of k).extra)

extra_known : (m : ℕ) → m ≤ most_functions → (k : EffectKind) → Reads (extra m k) (ExtraKnown k)
unfolding extra
extra_known m h k =
    pick_reads (is_create_function k) (below m) (at_most (row_of k).extra) (ExtraKnown k)
    (λ t ws c a d e. (λ u. omega (arith, h, below_reads m ws c a d e), λ u. absurd (true≢false (sym t ∙ u))))
    (λ t ws c a d e. (λ u. absurd (true≢false (sym u ∙ t)), λ u. at_most_reads (row_of k).extra ws c a d e))

module _ (n m : ℕ) (hn : n ≤ most_identifiers) (hm : m ≤ most_functions) where
  effect_known : Reads (effect n m) InRange
  unfolding effect
  effect_known =
      then_reads (at_most most_kind) _ InRange
      (λ w. bind_reads (pick (leb 1 (row_of (kind_of w)).places) (place n) (unused 0)) _ (PlaceBelow most_identifiers) InRange (first_known n hn (leb 1 (row_of (kind_of w)).places))
      (λ p hp. bind_reads (pick (leb 2 (row_of (kind_of w)).places) (place n) (unused (row_of (kind_of w)).instance)) _ (λ (q : Place). leb 2 (row_of (kind_of w)).places ≡ true → PlaceBelow most_identifiers q) InRange
      (second_known n (row_of (kind_of w)).instance hn (leb 2 (row_of (kind_of w)).places))
      (λ q hq. bind_reads (extra m (kind_of w)) _ (ExtraKnown (kind_of w)) InRange (extra_known m hm (kind_of w))
      (λ x hx. pure_reads _ InRange (record { first = hp; second = hq; function = hx.0; extra = hx.1 })))))

  effects_known : Reads (effects n m) (Every InRange)
  unfolding effects
  effects_known = counted_reads InRange most_count (effect n m) effect_known

  list_known : Reads (optional (effects n m)) (λ (l : Option EffectList). Every InRange (present l))
  list_known = optional_reads (effects n m) (Every InRange) (λ (l : Option EffectList). Every InRange (present l)) effects_known tt (λ l q. q)

  pub instruction_known : Reads (instruction n m) InstructionInRange
  unfolding instruction
  instruction_known =
      then_reads (at_most most_order) _ InstructionInRange
      (λ o. then_reads (place n) _ InstructionInRange
      (λ p. then_reads (counted most_lvalues (place n)) _ InstructionInRange
      (λ ls. then_reads (counted most_operands (place n)) _ InstructionInRange
      (λ ps. then_reads (instruction_value n m) _ InstructionInRange
      (λ v. bind_reads (optional (effects n m)) _ (λ (l : Option EffectList). Every InRange (present l)) InstructionInRange list_known (λ l q. pure_reads _ InstructionInRange q))))))

  terminal_of_known : (k o : ℕ) → Reads (terminal_of n m k o) TerminalInRange
  unfolding terminal_of
  terminal_of_known zero o = then_reads (counted most_operands (place n)) _ TerminalInRange (λ ps. pure_reads (Other o ps) TerminalInRange tt)
  terminal_of_known (suc zero) o =
      bind_reads (place n) _ (PlaceBelow most_identifiers) TerminalInRange (place_known n hn)
      (λ p hp. bind_reads (effects n m) _ (Every InRange) TerminalInRange effects_known
      (λ l q. then_reads (fixed no_operands) _ TerminalInRange (λ z. pure_reads (Return o p l) TerminalInRange (hp, q))))
  terminal_of_known (suc (suc k)) o =
      bind_reads (effects n m) _ (Every InRange) TerminalInRange effects_known
      (λ l q. then_reads (fixed no_operands) _ TerminalInRange (λ z. pure_reads (MaybeThrow o l) TerminalInRange q))

  pub terminal_known : Reads (terminal n m) TerminalInRange
  unfolding terminal
  terminal_known =
      then_reads (at_most most_terminal) _ TerminalInRange (λ k. then_reads (at_most most_order) _ TerminalInRange (λ o. terminal_of_known k o))
