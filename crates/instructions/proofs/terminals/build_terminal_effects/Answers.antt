use native.Mathlib.Omega.{arith}
use Rattle.hir.specs.Words.{effect_at}
use Rattle.model.specs.Limits.{effect_width}
use Rattle.hir.proofs.Widths.{wide_rises}
use Rattle.instructions.proofs.Building.{value_ready, value_builds, without-count, with_count, loop_start, loop_done, loop_ready, loop_turn}
use Rattle.instructions.proofs.terminals.build_terminal_effects.Goals as goal

pub loop-init : goal.loop-init
loop-init c = loop_start (without-count c.requires) (omega arith)

pub effect_at-requires : goal.effect_at-requires
effect_at-requires c = (loop_ready c.loop.invariant (omega arith) (wide_rises effect_width effect_at)).inside

pub build_terminal_effect-requires : goal.build_terminal_effect-requires
build_terminal_effect-requires c = value_ready c.effect_at.ensures (loop_ready c.loop.invariant (omega arith) (wide_rises effect_width effect_at))

pub overflow_add-next : goal.overflow_add-next
overflow_add-next c = omega (arith, (loop_ready c.loop.invariant (omega arith) (wide_rises effect_width effect_at)).inside)

pub loop-preserved : goal.loop-preserved
loop-preserved c = loop_turn c.loop.invariant (omega arith) (value_builds c.effect_at.ensures c.build_terminal_effect.ensures) (omega arith)

pub overflow_add-result : goal.overflow_add-result
overflow_add-result c = omega (arith, (loop_done c.loop.invariant (omega arith)).next, c.requires.inside)

pub returns : goal.returns
returns c = with_count (loop_done c.loop.invariant (omega arith))
