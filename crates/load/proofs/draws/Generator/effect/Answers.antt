use Rattle.std.proofs.lemmas.Bool.{le-leb, lt-leb}
use native.Mathlib.Omega.{arith}
use Rattle.load.proofs.Drawing.{below-drawn, kind_drawn, second_drawn, second_none, places_drawn, effect-drawn}
use Rattle.load.proofs.draws.Generator.effect.Goals as goal

pub bounds-below-below : goal.bounds-below-below
bounds-below-below c = below-drawn _ _ (omega arith) c.below.ensures

pub returns-then-row_of-ge2 : goal.returns-then-row_of-ge2
returns-then-row_of-ge2 c =
    effect-drawn _ _ c.below.ensures (kind_drawn _ (below-drawn _ _ (omega arith) c.below.ensures))
    (places_drawn _ _ _ c.below-2.ensures c.plain_place-first.ensures c.from.ensures c.row_of.ensures
    (second_drawn _ _ _ _ _ (le-leb _ _ c.if-row_of-ge2.true) c.below-then-row_of-ge2.ensures c.plain_place-second.ensures))

pub returns-else-row_of-ge2 : goal.returns-else-row_of-ge2
returns-else-row_of-ge2 c =
    effect-drawn _ _ c.below.ensures (kind_drawn _ (below-drawn _ _ (omega arith) c.below.ensures))
    (places_drawn _ _ _ c.below-2.ensures c.plain_place-first.ensures c.from.ensures c.row_of.ensures
    (second_none _ _ _ _ (lt-leb _ _ c.if-row_of-ge2.false)))
