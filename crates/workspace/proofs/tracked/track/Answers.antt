use Rattle.hir.specs.Numbers.{effect_number}
use Rattle.model.proofs.Traits.{traits_few}
use Rattle.workspace.proofs.Places.{place-stored}
use Rattle.hir.proofs.Ranges.{effect_number_lem}
use native.Mathlib.Omega.{arith}
use Rattle.workspace.proofs.tracked.track.Goals as goal

pub overflow_mul-ws : goal.overflow_mul-ws
overflow_mul-ws c =
    omega (arith, c.traits_word.ensures, traits_few (effect_number c.args.p.effect) c.args.p.reactive (effect_number_lem c.args.p.effect))

pub overflow_add-ws : goal.overflow_add-ws
overflow_add-ws c =
    omega (arith, c.traits_word.ensures, traits_few (effect_number c.args.p.effect) c.args.p.reactive (effect_number_lem c.args.p.effect))

pub returns : goal.returns
returns c =
    place-stored _ _ _ _ (omega arith) c.traits_word.ensures c.requires.identifier_lt_most_identifiers (effect_number_lem c.args.p.effect)
