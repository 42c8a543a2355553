use Prim.Native.Nat.{◌≤◌}
use native.Mathlib.Omega.{arith}
use mathlib.Core.Path.{sym, subst, ◌∙◌}
use lib.ListN.{length}
use Rattle.hir.specs.Words.{value_from}
use Rattle.model.specs.Reading.{Position}
use Rattle.hir.proofs.Values.{list_as, value_as, effects_as, list_end, operands_inside, value_inside, effects_inside}
use Rattle.hir.proofs.at.instruction_at.Goals as goal

pub past_places-requires : goal.past_places-requires
past_places-requires c = omega (arith, list_end _ _ c.list_at-value_lvalues.ensures, operands_inside c.args.s.now c.args.at c.requires)

pub list_at-operands-requires : goal.list_at-operands-requires
list_at-operands-requires c =
    omega (arith, c.past_places.ensures, list_end _ _ c.list_at-value_lvalues.ensures, operands_inside c.args.s.now c.args.at c.requires)

pub past_places-requires-2 : goal.past_places-requires-2
past_places-requires-2 c =
    let first = c.list_at-value_lvalues.ensures in
    let l = list_as c.list_at-operands.ensures (c.past_places.ensures ∙ list_end _ _ first) in
    omega (arith, list_end _ _ l, value_inside c.args.s.now c.args.at c.requires)

pub value_at-v-requires : goal.value_at-v-requires
value_at-v-requires c =
    let first = c.list_at-value_lvalues.ensures in
    let l = list_as c.list_at-operands.ensures (c.past_places.ensures ∙ list_end _ _ first) in
    subst (λ (x : Position). (value_from c.args.s.now x).next ≤ length c.args.s.now) (sym (c.past_places-2.ensures ∙ list_end _ _ l))
    (omega (arith, effects_inside c.args.s.now c.args.at c.requires))

pub effects_at-e-requires : goal.effects_at-e-requires
effects_at-e-requires c =
    let first = c.list_at-value_lvalues.ensures in
    let l = list_as c.list_at-operands.ensures (c.past_places.ensures ∙ list_end _ _ first) in
    let v = value_as c.value_at-v.ensures (c.past_places-2.ensures ∙ list_end _ _ l) in
    omega (arith, v.next, effects_inside c.args.s.now c.args.at c.requires)

pub returns : goal.returns
returns c =
    let first = c.list_at-value_lvalues.ensures in
    let l = list_as c.list_at-operands.ensures (c.past_places.ensures ∙ list_end _ _ first) in
    let v = value_as c.value_at-v.ensures (c.past_places-2.ensures ∙ list_end _ _ l) in
    record {
      order = c.order_at-order.ensures;
      lvalue = c.place_at-lvalue.ensures;
      value_lvalues = first;
      operands = l;
      value = v.value;
      effects = effects_as c.effects_at-e.ensures v.next;
    }
