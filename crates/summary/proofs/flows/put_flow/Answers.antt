use borrow.Author.Tests.{eq-eqb, ne_eqb}
use mathlib.Core.Path.{◌∙◌, sym}
use Rattle.summary.proofs.Flowing.{all_hold, first_fails, later_fails, flow_not, flow_some}
use Rattle.summary.proofs.flows.put_flow.Goals.{else-ne-via-then-ne+then-ne-2+else-ws-x, else-ne-via-then-ne+else-ne-2, else-ne-via-else-ne}
use Rattle.summary.proofs.flows.put_flow.Goals as goal

pub returns-then-ws-x : goal.returns-then-ws-x
returns-then-ws-x c =
    flow_some _ _ _ _ _ c.requires.identifier_lt_most_identifiers.0
    (all_hold (sym c.ne.ensures ∙ c.if-ne.true) (sym c.ne-then-ne.ensures ∙ c.if-ne-2.true) (eq-eqb _ _ c.if-ws-x.true)) c.flow_kind.ensures c.put_effect.ensures

pub returns-else-ne : goal.returns-else-ne
returns-else-ne c = elim c.else-ne.branch [
  | else-ne-via-then-ne+then-ne-2+else-ws-x w ↦ flow_not _ _ _ _ _ c.requires.identifier_lt_most_identifiers.0 (later_fails _ (later_fails _ (ne_eqb _ _ w.if-ws-x.false))) _
  | else-ne-via-then-ne+else-ne-2 w ↦ flow_not _ _ _ _ _ c.requires.identifier_lt_most_identifiers.0 (later_fails _ (first_fails (sym w.ne-then-ne.ensures ∙ w.if-ne-2.false) _)) _
  | else-ne-via-else-ne w ↦ flow_not _ _ _ _ _ c.requires.identifier_lt_most_identifiers.0 (first_fails (sym c.ne.ensures ∙ w.if-ne.false) _) _
]
