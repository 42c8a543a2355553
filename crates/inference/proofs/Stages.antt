-- Each stage from params to walks finds what it asks for, and together they leave those sections.
use Prim.Native.Nat.{ℕ, ◌+◌, ◌≤◌}
use native.Mathlib.Omega.{arith}
use mathlib.Core.Path.{◌≡◌, subst, ◌∙◌}
use mathlib.Core.Bool.{Bool}
use mathlib.Core.List.{List, ◌++◌}
use Rattle.model.specs.Limits.{most_mutations}
use Rattle.model.specs.Sheet.{Sheet}
use Rattle.model.specs.Answer.{count_words, section}
use Rattle.workspace.specs.Layout.{MUTATIONS}
use Rattle.building.specs.declared.Building.{Building}
use Rattle.building.specs.Built.{index_of}
use Rattle.aliasing.specs.Pending.{taken_of, Processed}
use Rattle.renders.specs.Renders.{Unmoved}
use Rattle.writing.specs.declared.Writer.{Writer}
use Rattle.writing.specs.Wrote.{Writes}
use Rattle.summary.specs.Sections.{simulated_of}
use Rattle.dataflow.specs.declared.function.HirFunction.{HirFunction}
use Rattle.diagnostics.specs.Diagnosed.{DiagnosticsPut}
use Rattle.summary.specs.Simulates.{Left, Before, EffectsPut}
use Rattle.summary.proofs.Rooms.{walks_next}
use Rattle.summary.proofs.Turns.{walkable_from}
use Rattle.inference.specs.Whole.{Prepared, TrackedPut, MiddlePut}
use Rattle.inference.proofs.Answering.{real_state, real_renders, real_stands, next_stands, next_state_lem, last_functions, middle_wrote}

-- the functions handed over stay in their part
pub hand_low : {errors : Bool} {ws : List ℕ} {count : ℕ} {ws₁ : List ℕ} {hand : ℕ} → Processed errors ws count ws₁ hand → hand ≤ MUTATIONS
hand_low m = omega (arith, m.handing.room)

pub before_effects : {s : Sheet} {sheet lists ws : List ℕ} {f : HirFunction} {b : Building} {ws₁ ws₂ : List ℕ} {hand i : ℕ}
    → Prepared s sheet lists ws f b → Processed f.errors ws b.mutations ws₁ hand → Unmoved ws₁ ws₂ → i ≡ index_of b → Before s sheet ws₂ f i
before_effects {ws₁ = ws₁} {ws₂ = ws₂} p m u is = record { describes = p.describes; tracked = (next_stands p m u).tracked; state = next_state_lem p m u; first = is ∙ p.index }

-- all stages
pub stages : {sheet lists ws : List ℕ} {f : HirFunction} {b : Building} {ws₁ ws₂ ws₃ : List ℕ} {hand i : ℕ} {o o₁ o₂ o₃ o₄ : Writer ℕ}
    → b.mutations ≤ most_mutations → Processed f.errors ws b.mutations ws₁ hand → TrackedPut ws₁ f o o₁ → DiagnosticsPut sheet lists ws₁ f b.renders hand o₁ ws₂ o₂
    → i ≡ index_of b → EffectsPut sheet ws₂ f i o₂ ws₃ o₃
    → Writes (section count_words (taken_of ws₃ b.mutations ++ simulated_of ws₃ (f.params + f.context + 1))) o₃ o₄
    → MiddlePut sheet lists ws f b o ws₃ o₄
stages {f = f} {b = b} {ws₃ = ws₃} n m places diagnostics is effects walks = record {
  wrote = λ s p.
      let before = before_effects p m diagnostics.unmoved is in
      middle_wrote p m diagnostics.unmoved ws₃ effects.kept places (diagnostics.wrote s p.describes (real_stands p m) (real_state p m) (real_renders p m)) (effects.wrote s before)
      (effects.left s before).counts walks;
  left = λ s p. subst (λ (k : ℕ). Left s ws₃ (f.params + f.context + 1) (k + (f.params + f.context + 1))) is (effects.left s (before_effects p m diagnostics.unmoved is));
  functions = λ s p. last_functions p m diagnostics.unmoved ws₃ effects.kept;
  walkable = walkable_from (diagnostics.unmoved.aside.graph ∙ m.graph) (diagnostics.unmoved.aside.same ∙ m.same) effects.walkable;
  few = omega (arith, places.few, diagnostics.few, effects.few, walks_next ws₃ b.mutations (f.params + f.context + 1) walks, f.params_few, f.context_few, n);
}
