-- What the code's draws say, as the definitions have it.
use Rattle.std.specs.Prelude.{ℕ}
use Rattle.model.specs.Load.{Draw, DrawnEffect}
use Rattle.hir.specs.Says.{effect_is}
use Rattle.hir.specs.declared.AliasingEffect.{AliasingEffect}
use Rattle.load.specs.declared.draws.Generator.{Generator}

-- the number, and the state after it
abbrev pub draw_is : ℕ → Generator → Draw
draw_is number g = record { number = number; state = g.state }

-- the effect, and the state after its draws
abbrev pub drawn_is : AliasingEffect → Generator → DrawnEffect
drawn_is effect g = record { effect = effect_is effect; state = g.state }
