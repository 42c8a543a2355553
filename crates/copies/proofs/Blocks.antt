-- An effect, an instruction and a block, copied by their parts.
use Prim.Native.Nat.{ℕ, ◌+◌, ◌≤◌}
use native.Mathlib.Omega.{arith}
use mathlib.Core.Path.{◌≡◌, refl, sym, ap, subst, ◌∙◌}
use mathlib.Core.Bool.{Bool, true, false, not, true≢false}
use mathlib.Core.List.{List, []}
use lib.ListN.{length}
use Rattle.model.specs.Lists.{gather, list_if}
use Rattle.model.specs.Sheet.{Effect, EffectList}
use Rattle.model.specs.Effects.{Role, row_of}
use Rattle.model.specs.Reading.{Position}
use Rattle.hir.specs.Words.{Part, wide, effect_at, several, phi_from, phis_from, effects_at, instruction_from, instructions_from, terminal_from, block_from}
use Rattle.model.specs.Limits.{effect_width}
use Rattle.hir.specs.Parts.{InstructionAt}
use Rattle.hir.specs.declared.at.Instruction.{Instruction}
use Rattle.hir.proofs.Widths.{Rises, listed_rises, InstructionParts, instruction_parts, instruction_rises, terminal_rises, block_rises}
use Rattle.hir.proofs.Absent.{present_list, effects_are_lem}
use Rattle.writing.specs.declared.Writer.{Writer}
use Rattle.writing.specs.Wrote.{Writes}
use Rattle.writing.proofs.Writing.{writes_none, writes_as}
use Rattle.copies.specs.Copies.{Copies}
use Rattle.copies.specs.Words.{takes, taken_words, copy_words, instruction_words, block_words}
use Rattle.copies.specs.declared.effect_lists.Section.{Section}
use Rattle.copies.proofs.Passing.{phi_follows}

-- ---- an effect, whose role is r
module _ (s : Section) (sheet : List ℕ) (c : Position) {e : Effect} (is : e ≡ effect_at sheet c) {r : Role} (role : r ≡ (row_of e.kind).role) {b : Bool} (taken : b ≡ takes s r) where
  words_are : list_if b (taken_words s e) ≡ copy_words s (effect_at sheet c)
  unfolding copy_words
  words_are = ap (λ (x : Bool). list_if x (taken_words s e)) (taken ∙ ap (takes s) role) ∙ ap (copy_words s) is

  -- the section, which is t, takes it
  pub effect-taken : not b ≡ false → (t : Section) → s ≡ t → {o o' : Writer ℕ} → Writes (taken_words t e) o o' → length (taken_words t e) ≤ effect_width
      → Copies (wide effect_width effect_at) (copy_words s) sheet c o o' (c + effect_width)
  effect-taken q t p w few = record { wrote = writes_as w (ap (λ (x : Section). taken_words x e) (sym p) ∙ sym (all b q) ∙ words_are); after = refl; few = omega (arith, w.wrote.next, few) }
    where
      all : (x : Bool) → not x ≡ false → list_if x (taken_words s e) ≡ taken_words s e
      all true h = refl
      all false h = absurd (true≢false h)

  -- or leaves it
  pub effect-left : not b ≡ true → (o : Writer ℕ) → Copies (wide effect_width effect_at) (copy_words s) sheet c o o (c + effect_width)
  effect-left q o = record { wrote = writes_as (writes_none o) (sym (none b q) ∙ words_are); after = refl; few = omega arith }
    where
      none : (x : Bool) → not x ≡ true → list_if x (taken_words s e) ≡ []
      none true h = absurd (true≢false (sym h))
      none false h = refl

-- ---- an instruction: its effects stand behind all else
pub instruction_follows : Rises instruction_from
instruction_follows ws c = omega (arith, instruction_rises ws c)

module _ {sheet : List ℕ} {c : Position} {i : Instruction} (h : InstructionAt sheet c i) where
  pub effects_inside : (instruction_from sheet c).next ≤ length sheet → (several i.effects.count (wide effect_width effect_at) sheet i.effects.first).next ≤ length sheet
  unfolding instruction_from
  effects_inside k = subst (λ (p : Part EffectList). p.next ≤ length sheet) (effects_are_lem sheet (effects_at sheet c) h.effects) k

  before_effects : c ≤ effects_at sheet c
  before_effects = let p : InstructionParts sheet c = instruction_parts sheet c in omega (arith, p.operands, p.value, p.effects)

  pub after_order : c ≤ i.effects.first
  after_order = omega (arith, before_effects, h.effects.first)

  pub copies_instruction : (s : Section) {o o' : Writer ℕ} {d : ℕ}
      → Copies (several i.effects.count (wide effect_width effect_at)) (gather (copy_words s)) sheet i.effects.first o o' d → Copies instruction_from (instruction_words s) sheet c o o' d
  unfolding instruction_from instruction_words
  copies_instruction s p =
      let e = sym (effects_are_lem sheet (effects_at sheet c) h.effects) in
      record {
        wrote = writes_as p.wrote (ap (λ (q : Part EffectList). gather (copy_words s) q.what) e ∙ sym (ap (gather (copy_words s)) (present_list sheet (effects_at sheet c))));
        after = p.after ∙ ap (λ (q : Part EffectList). q.next) e;
        few = omega (arith, p.few, after_order);
      }

-- ---- a block: its phis and its terminal are passed over
pub block_follows : Rises block_from
block_follows ws c = omega (arith, block_rises ws c)

module _ (sheet : List ℕ) (c : Position) {i : Position} (phis : i ≡ (phis_from sheet (c + 1)).next) where
  -- the phis come first
  pub after-phis : c + 1 ≤ i
  after-phis = omega (arith, phis, listed_rises phi_from phi_follows sheet (c + 1))

  module _ {j : Position} (instructions : j ≡ (instructions_from sheet i).next) where
    pub block-ends : (terminal_from sheet j).next ≡ (block_from sheet c).next
    unfolding block_from
    block-ends = ap (λ (x : Position). (terminal_from sheet x).next) (instructions ∙ ap (λ (x : Position). (instructions_from sheet x).next) phis)

  pub instructions_inside : (instructions_from sheet i).next ≤ (block_from sheet c).next
  instructions_inside = omega (arith, terminal_rises sheet (instructions_from sheet i).next, block-ends {j = (instructions_from sheet i).next} refl)

  pub phis_inside : (phis_from sheet (c + 1)).next ≤ (block_from sheet c).next
  phis_inside = omega (arith, phis, listed_rises instruction_from instruction_follows sheet i, instructions_inside)

  pub copies_block : (s : Section) {o o' : Writer ℕ} {j d : ℕ} → Copies instructions_from (gather (instruction_words s)) sheet i o o' j → d ≡ (terminal_from sheet j).next
      → Copies block_from (block_words s) sheet c o o' d
  unfolding block_from block_words
  copies_block s {j = j} q t = record {
    wrote = writes_as q.wrote (ap (λ (x : Position). gather (instruction_words s) (instructions_from sheet x).what) phis);
    after = t ∙ block-ends q.after;
    few = omega (arith, q.few, after-phis, t, terminal_rises sheet j);
  }
