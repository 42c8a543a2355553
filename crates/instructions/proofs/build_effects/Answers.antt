use native.Mathlib.Omega.{arith}
use Rattle.hir.specs.Words.{effect_at}
use Rattle.model.specs.Limits.{effect_width}
use Rattle.hir.proofs.Widths.{wide_rises}
use Rattle.instructions.proofs.Building.{value_ready, value_builds, loop_start, loop_done, loop_ready, loop_turn}
use Rattle.instructions.proofs.build_effects.Goals as goal

pub loop-init : goal.loop-init
loop-init c = loop_start c.requires (omega arith)

pub effect_at-requires : goal.effect_at-requires
effect_at-requires c = (loop_ready c.loop.invariant (omega arith) (wide_rises effect_width effect_at)).inside

pub build_effect-requires : goal.build_effect-requires
build_effect-requires c = value_ready c.effect_at.ensures (loop_ready c.loop.invariant (omega arith) (wide_rises effect_width effect_at))

pub overflow_add-next : goal.overflow_add-next
overflow_add-next c = omega (arith, (loop_ready c.loop.invariant (omega arith) (wide_rises effect_width effect_at)).inside)

pub loop-preserved : goal.loop-preserved
loop-preserved c = loop_turn c.loop.invariant (omega arith) (value_builds c.effect_at.ensures c.build_effect.ensures) (omega arith)

pub returns : goal.returns
returns c = loop_done c.loop.invariant (omega arith)
