use Rattle.aliasing.proofs.Writes.{transitive_higher, transitive_stays, local_higher, local_stays}
use Rattle.aliasing.proofs.record.Goals as goal

pub returns-then-kind-level : goal.returns-then-kind-level
returns-then-kind-level c =
    transitive_higher _ _ _ _ _ c.is_some.ensures c.from.ensures c.max-reason.ensures c.max.ensures c.if-entry.true c.max-then-entry.ensures c.if-kind-level.true

pub returns-else-kind-level : goal.returns-else-kind-level
returns-else-kind-level c =
    transitive_stays _ _ _ _ _ c.is_some.ensures c.from.ensures c.max-reason.ensures c.max.ensures c.if-entry.true c.max-then-entry.ensures c.if-kind-level.false

pub returns-then-local-level : goal.returns-then-local-level
returns-then-local-level c =
    local_higher _ _ _ _ _ c.is_some.ensures c.from.ensures c.max-reason.ensures c.max.ensures c.if-entry.false c.max-else-entry.ensures c.if-local-level.true

pub returns-else-local-level : goal.returns-else-local-level
returns-else-local-level c =
    local_stays _ _ _ _ _ c.is_some.ensures c.from.ensures c.max-reason.ensures c.max.ensures c.if-entry.false c.max-else-entry.ensures c.if-local-level.false
