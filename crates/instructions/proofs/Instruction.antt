-- An instruction: its order, and behind its places and its value its effects.
use Prim.Native.Nat.{ℕ}
use native.Mathlib.Omega.{arith}
use mathlib.Core.Path.{sym, subst}
use mathlib.Core.List.{List}
use Rattle.model.specs.Lists.{each, Every}
use Rattle.model.specs.Sheet.{EvaluationOrder, Effect, EffectList}
use Rattle.model.specs.Reading.{Position}
use Rattle.model.specs.Building.{instruction as instruction_step}
use Rattle.hir.specs.declared.at.Instruction.{Instruction}
use Rattle.hir.specs.Words.{Standing, wide, effect_at, word_at, several, present_from, effects_at, instruction_from}
use Rattle.model.specs.Limits.{effect_width}
use Rattle.hir.specs.Parts.{InstructionAt}
use Rattle.hir.proofs.Absent.{present_list, effects_are_lem}
use Rattle.hir.proofs.Widths.{Rises, instruction_rises}
use Rattle.building.specs.declared.Building.{Building}
use Rattle.instructions.specs.Cost.{costs, effect_cost, instruction_cost, Fits}
use Rattle.instructions.specs.Ranges.{InRange, InstructionInRange}
use Rattle.instructions.specs.Builds.{effect_step, SpendsOn, Ready, Builds}
use Rattle.instructions.proofs.Building.{ready_as, builds_as}

-- an effect
abbrev pub one_effect : Standing Effect
one_effect = wide effect_width effect_at

pub rises : Rises instruction_from
rises s c = omega (arith, instruction_rises s c)

module _ {s : List ℕ} {c : Position} {i : Instruction} (h : InstructionAt s c i) {ws : List ℕ} {b : Building} where
  pub effects_ready : Ready (instruction_from s c) InstructionInRange instruction_cost s ws b → Ready (several i.effects.count one_effect s i.effects.first) (Every InRange) (costs effect_cost) s ws b
  unfolding instruction_from instruction_cost
  effects_ready w =
      let same = present_list s (effects_at s c) in
      ready_as (effects_are_lem s (effects_at s c) h.effects)
      (record { sound = w.sound; holding = w.holding; inside = w.inside; range = subst (Every InRange) same w.range; fits = subst (λ (l : EffectList). Fits (costs effect_cost l) b) same w.fits })

  pub instruction_builds : {ws' : List ℕ} {r : Building} {d : Position} → Builds (several i.effects.count one_effect s i.effects.first) (each (effect_step i.order.0)) (costs effect_cost) s ws b ws' r d
      → Builds (instruction_from s c) instruction_step instruction_cost s ws b ws' r d
  unfolding instruction_from instruction_cost instruction_step
  instruction_builds {ws'} {r} {d} g =
      let o = subst (λ (o : EvaluationOrder). Builds (present_from s (effects_at s c)) (each (effect_step o)) (costs effect_cost) s ws b ws' r d) h.order (builds_as (effects_are_lem s (effects_at s c) h.effects) g) in
      record {
        spends = subst (λ (l : EffectList). SpendsOn s (each (effect_step (word_at s c)) l) (costs effect_cost l) ws b ws' r) (sym (present_list s (effects_at s c))) o.spends;
        next = o.next;
      }
