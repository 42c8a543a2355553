use Rattle.summary.proofs.Collecting.{level_wrote, collected}
use native.Mathlib.Omega.{arith}
use Rattle.summary.proofs.records.collect_param_effects.Goals as goal

pub put_record-requires-2 : goal.put_record-requires-2
put_record-requires-2 c = omega (arith, level_wrote _ _ _ _ _ c.put_record.ensures)

pub returns : goal.returns
returns c = collected _ _ c.requires.identifier_lt_most_identifiers.0 c.put_record.ensures c.put_record-2.ensures
