-- What the two sections take of the effects of instructions is what document 01 says.
use Prim.Native.Nat.{ℕ, ◌+◌, ◌-◌, ◌*◌, ◌/◌}
use native.Mathlib.Omega.{arith}
use mathlib.Core.Path.{◌≡◌, refl, sym, ap, ◌∙◌}
use mathlib.Core.Bool.{true, false, ◌||◌}
use mathlib.Core.List.{List, [], ◌∷◌, map}
use lib.ListN.{length}
use Rattle.model.specs.Limits.{diagnostic_width}
use Rattle.model.specs.Lists.{gather, keep}
use Rattle.model.specs.Sheet.{Effect, Diagnostic, Instruction, list_of, Block, Sheet}
use Rattle.model.specs.Effects.{row_of, is_render, is_diagnosis, diagnostic_of}
use Rattle.model.specs.Totals.{instruction_effects}
use Rattle.model.specs.Summary.{errors, copied, recorded}
use Rattle.model.specs.Answer.{diagnostic_words, effect_words, section}
use Rattle.writing.specs.declared.Writer.{Writer}
use Rattle.writing.specs.Wrote.{Writes, Patches}
use Rattle.writing.proofs.Writing.{writes_as, writes_patched}
use Rattle.copies.specs.Words.{copy_words, instruction_words, block_words}
use Rattle.copies.specs.declared.effect_lists.Section.{Section}
use Rattle.copies.specs.declared.effect_lists.Section.TheVariants.{Diagnostics, Effects}
use Rattle.model.proofs.Gathers.{gather_gather, gather_same, gather_keep, gather_map}
use Rattle.copies.proofs.Lengths.{gather_length}

-- block by block, or all effects of instructions at once
pub blocks_words : (t : Section) (s : Sheet) → gather (block_words t) s.blocks ≡ gather (copy_words t) (instruction_effects s)
unfolding instruction_effects block_words instruction_words
blocks_words t s =
    gather_same (λ (b : Block). gather (λ (i : Instruction). gather (copy_words t) (list_of i)) b.instructions)
    (λ (b : Block). gather (copy_words t) (gather list_of b.instructions))
    (λ b. sym (gather_gather (copy_words t) list_of b.instructions)) s.blocks
    ∙ sym (gather_gather (copy_words t) (λ (b : Block). gather list_of b.instructions) s.blocks)

-- "kinds 14 to 17 are copied to the effects"
pub copied-words : (s : Sheet) → gather (block_words Effects) s.blocks ≡ gather effect_words (copied s)
unfolding copied copy_words
copied-words s =
    blocks_words Effects s
    ∙ gather_keep (λ (e : Effect). is_diagnosis (row_of e.kind).role || is_render (row_of e.kind).role) effect_words (instruction_effects s)

diagnoses : (s : Sheet) → gather (block_words Diagnostics) s.blocks ≡ gather diagnostic_words (map diagnostic_of (keep (λ (e : Effect). is_diagnosis (row_of e.kind).role) (instruction_effects s)))
unfolding copy_words
diagnoses s =
    blocks_words Diagnostics s
    ∙ gather_keep (λ (e : Effect). is_diagnosis (row_of e.kind).role) (λ (e : Effect). diagnostic_words (diagnostic_of e)) (instruction_effects s)
    ∙ sym (gather_map diagnostic_words diagnostic_of (keep (λ (e : Effect). is_diagnosis (row_of e.kind).role) (instruction_effects s)))

-- "and the diagnostics of 14 to 16 recorded", if errors are
pub recorded-words : (s : Sheet) → errors s ≡ true → gather (block_words Diagnostics) s.blocks ≡ gather diagnostic_words (recorded s)
unfolding recorded
recorded-words s e = rw e (diagnoses s)

pub recorded_none : (s : Sheet) → errors s ≡ false → recorded s ≡ []
unfolding recorded
recorded_none s e = rw e

-- ---- how many records the words are
pub effects-length : (l : List Effect) → length (gather effect_words l) ≡ 8 * length l
effects-length l = gather_length effect_words 8 (λ e. refl) l

pub diagnostics_length : (l : List Diagnostic) → length (gather diagnostic_words l) ≡ diagnostic_width * length l
diagnostics_length l = gather_length diagnostic_words diagnostic_width (λ d. refl) l

-- ---- a section whose count is known only at its end
pub section_patched : {A : Type 0} (w : A → List ℕ) (l : List A) {x y : ℕ} {a b c : Writer ℕ} → Writes (x ∷ gather w l) a b → Patches a.at y b c → y ≡ length l → Writes (section w l) a c
section_patched w l {x} {y} {a} {b} {c} h p e = writes_as (writes_patched h p) (ap (λ (n : ℕ). n ∷ gather w l) e)

-- the count by the positions: of effects
pub effects-count : (l : List Effect) {x : ℕ} {a b : Writer ℕ} → Writes (x ∷ gather effect_words l) a b → (b.at - (a.at + 1)) / 8 ≡ length l
effects-count l h = omega (arith, h.wrote.next, effects-length l)

-- of diagnostics
pub diagnostics_count : (l : List Diagnostic) {x : ℕ} {a b : Writer ℕ} → Writes (x ∷ gather diagnostic_words l) a b → (b.at - (a.at + 1)) / diagnostic_width ≡ length l
diagnostics_count l h = omega (arith, h.wrote.next, diagnostics_length l)
