use Rattle.hir.proofs.AtLaws.{own_row}
use Rattle.reading.proofs.blocks.effect.Goals as goal

pub effect_after-requires : goal.effect_after-requires
effect_after-requires c = own_row _ c.row_of-row.ensures
