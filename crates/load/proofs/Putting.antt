-- What the loops of a class load leave to be written, and that there is room for it.
use Prim.Native.Nat.{ℕ, suc, ◌+◌, ◌-◌, ◌≤◌, ◌<◌}
use native.Mathlib.Omega.{arith}
use native.Mathlib.Numerals.{add-one}
use mathlib.Core.Path.{◌≡◌, sym, ap, ◌∙◌}
use mathlib.Core.List.{List, [], ◌∷◌, ◌++◌}
use lib.ListN.{length, replicate, length-append}
use Rattle.model.specs.Lists.{gather}
use Rattle.model.specs.Sheet.{EvaluationOrder}
use Rattle.model.specs.Answer.{section}
use Rattle.model.specs.Encoder.{identifier_words, instruction_words}
use Rattle.model.specs.Load.{load_identifier, DrawnEffect as ModelDrawn, draw_effect, load_instruction, load_instructions}
use Rattle.model.proofs.Drawn.{instructions_length}
use Rattle.writing.specs.declared.Writer.{Writer}
use Rattle.writing.specs.Wrote.{Writes}
use Rattle.writing.proofs.Writing.{writes_then, writes_as}
use Rattle.copies.proofs.Loops.{Leaves, leaves_all, leaves_then, leaves_none}

-- what is written next has room, if the whole has
leaves_room : {whole rest : List ℕ} {o₀ o : Writer ℕ} (us rest' : List ℕ) (most : ℕ) → Leaves whole rest o₀ o → rest ≡ us ++ rest' → o₀.at + length whole ≤ most → o.at + length us ≤ most
leaves_room us rest' most h e r = omega (arith, h.next, ap (λ (l : List ℕ). length l) e, length-append us rest', r)

-- ---- identifiers: so many are left
abbrev pub identifiers_left : ℕ → List ℕ
identifiers_left left = gather identifier_words (replicate left load_identifier)

identifiers_next : (n i : ℕ) → i < n → identifiers_left (n - i) ≡ identifier_words load_identifier ++ identifiers_left (n - (i + 1))
identifiers_next n i h = let e : n - i ≡ suc (n - (i + 1)) = omega arith in ap identifiers_left e

pub identifiers_turn : (n i : ℕ) {o₀ o o' : Writer ℕ} → Leaves (identifiers_left n) (identifiers_left (n - i)) o₀ o → i < n → Writes (identifier_words load_identifier) o o' → Leaves (identifiers_left n) (identifiers_left (n - (i + 1))) o₀ o'
identifiers_turn n i v h w = leaves_then v w (identifiers_next n i h)

-- ---- instructions: those from an order on are left, drawn from a state on
abbrev instructions_left : ℕ → ℕ → EvaluationOrder → ℕ → List ℕ
instructions_left n m order state = gather instruction_words (load_instructions n order (m + 1 - order) state)

instructions_next : (n m order state : ℕ) → order < m + 1 → {d : ModelDrawn} → d ≡ draw_effect n state
    → instructions_left n m order state ≡ instruction_words (load_instruction order d.effect) ++ instructions_left n m (order + 1) d.state
unfolding load_instructions
instructions_next n m order state h {d} e =
    let p : m + 1 - order ≡ suc (m - order) = omega arith in
    let q : m - order ≡ m + 1 - (order + 1) = omega arith in
    ap (λ (k : ℕ). gather instruction_words (load_instructions n order k state)) p
    ∙ ap (λ (x : ModelDrawn). instruction_words (load_instruction order x.effect) ++ gather instruction_words (load_instructions n (suc order) (m - order) x.state)) (sym e)
    ∙ ap (λ (k : ℕ). instruction_words (load_instruction order d.effect) ++ gather instruction_words (load_instructions n k (m - order) d.state)) (sym (add-one order))
    ∙ ap (λ (k : ℕ). instruction_words (load_instruction order d.effect) ++ gather instruction_words (load_instructions n (order + 1) k d.state)) q

instructions_none : (n m order state : ℕ) → m + 1 ≤ order → instructions_left n m order state ≡ []
unfolding load_instructions
instructions_none n m order state h = let e : m + 1 - order ≡ 0 = omega arith in rw e

module _ (n seed m : ℕ) (o₁ : Writer ℕ) where
  pub record Drawing (state order : ℕ) (o : Writer ℕ) : Type 0 where
    pub leaves : Leaves (gather instruction_words (load_instructions n 1 m seed)) (instructions_left n m order state) o₁ o

  pub drawing_start : Drawing seed 1 o₁
  drawing_start = let e : m + 1 - 1 ≡ m = omega arith in record { leaves = rw e (leaves_all (gather instruction_words (load_instructions n 1 m seed)) o₁) }

module _ {n seed m : ℕ} {o₀ o₁ : Writer ℕ} (counted : Writes (m ∷ []) o₀ o₁) {state order : ℕ} {o : Writer ℕ} (v : Drawing n seed m o₁ state order o) where
  pub drawing_room : (most : ℕ) → order ≤ m → {d : ModelDrawn} → d ≡ draw_effect n state → o₀.at + length (section instruction_words (load_instructions n 1 m seed)) ≤ most
      → o.at + length (instruction_words (load_instruction order d.effect)) ≤ most
  drawing_room most h {d} e r = leaves_room (instruction_words (load_instruction order d.effect)) (instructions_left n m (order + 1) d.state) most v.leaves (instructions_next n m order state (omega arith) e) (omega (arith, r, counted.wrote.next))

  pub drawing_turn : order ≤ m → {d : ModelDrawn} → d ≡ draw_effect n state → {o' : Writer ℕ} → Writes (instruction_words (load_instruction order d.effect)) o o' → Drawing n seed m o₁ d.state (order + 1) o'
  drawing_turn h e w = record { leaves = leaves_then v.leaves w (instructions_next n m order state (omega arith) e) }

  pub drawing_end : m < order → Writes (section instruction_words (load_instructions n 1 m seed)) o₀ o
  drawing_end h =
      writes_as (writes_then counted (leaves_none v.leaves (instructions_none n m order state (omega arith))))
      (ap (λ (k : ℕ). k ∷ gather instruction_words (load_instructions n 1 m seed)) (sym (instructions_length n 1 m seed)))
