use native.Mathlib.Omega.{arith}
use mathlib.Core.Path.{ap, ◌∙◌}
use Rattle.operands.specs.Given.{given_to}
use Rattle.operands.proofs.Putting.{putting_inside, putting_room, putting_turn, putting_end}
use Rattle.operands.proofs.given.put_places.Goals as goal

pub overflow_add-next : goal.overflow_add-next
overflow_add-next c =
    omega (arith, putting_inside _ _ _ _ c.loop.invariant c.loop-test.true c.requires.place_width_le_width.1, c.requires.place_width_le_width.0, c.well_formed)

pub place_at-requires : goal.place_at-requires
place_at-requires c =
    omega (arith, putting_inside _ _ _ _ c.loop.invariant c.loop-test.true c.requires.place_width_le_width.1, c.requires.place_width_le_width.0)

pub put_place-requires : goal.put_place-requires
put_place-requires c =
    omega (arith, putting_room _ _ _ _ c.loop.invariant, c.loop-test.true, c.requires.count_bound)

pub overflow_add-next-in-loop : goal.overflow_add-next-in-loop
overflow_add-next-in-loop c =
    omega (arith, putting_inside _ _ _ _ c.loop.invariant c.loop-test.true c.requires.place_width_le_width.1)

pub loop-preserved : goal.loop-preserved
loop-preserved c =
    putting_turn _ _ _ _ c.loop.invariant c.requires.place_width_le_width.0 c.loop-test.true c.put_place.ensures (c.give.ensures
    ∙ ap (given_to c.args.given) c.place_at.ensures)

pub returns : goal.returns
returns c = putting_end _ _ _ _ c.loop.invariant c.loop-test.false
