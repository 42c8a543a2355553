use Rattle.hir.specs.Parts.{operand_is}
use Rattle.building.specs.Phis.{from, waiting_at}
use Rattle.building.proofs.Storing.{one-stored, one_passed}
use mathlib.Core.Bool.{not}
use mathlib.Core.Path.{ap}
use Rattle.building.proofs.phis.store_operand.Goals as goal

pub returns-then-has_come : goal.returns-then-has_come
returns-then-has_come c =
    one-stored (from c.args.first c.args.count c.args.ws.now) (waiting_at c.args.into.0 c.args.index (operand_is c.args.o)) _ c.has_come.ensures (ap not c.if-has_come.true) c.store.ensures

pub returns-else-has_come : goal.returns-else-has_come
returns-else-has_come c =
    one_passed (from c.args.first c.args.count c.args.ws.now) (waiting_at c.args.into.0 c.args.index (operand_is c.args.o)) _ c.has_come.ensures (ap not c.if-has_come.false) c.requires.room
