use Rattle.hir.proofs.EffectKinds.{number_same}
use Rattle.writing.proofs.Writing.{writes_then, writes_as}
use Rattle.copies.proofs.put_effect.Goals as goal

pub returns : goal.returns
returns c =
    writes_as (writes_then c.put.ensures (writes_then c.put_effect_place.ensures (writes_then c.put_effect_place-2.ensures c.put-2.ensures))) (rw (c.from.ensures, number_same))
