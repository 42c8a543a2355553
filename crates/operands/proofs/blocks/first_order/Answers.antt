use native.Mathlib.Omega.{arith}
use Rattle.operands.proofs.WholeBlocks.{terminal_behind, order_terminal, order_instruction}
use Rattle.operands.proofs.blocks.first_order.Goals as goal

pub list_at-list-requires : goal.list_at-list-requires
list_at-list-requires c = omega (arith, terminal_behind c.args.sheet.now c.args.from, c.requires)

pub overflow_add-list : goal.overflow_add-list
overflow_add-list c =
    omega (arith, c.list_at-list.ensures.first, terminal_behind c.args.sheet.now c.args.from, c.requires)

pub order_at-requires : goal.order_at-requires
order_at-requires c =
    omega (arith, c.list_at-list.ensures.first, terminal_behind c.args.sheet.now c.args.from, c.requires)

pub returns-then-list-eq0 : goal.returns-then-list-eq0
returns-then-list-eq0 c =
    order_terminal _ _ c.list_at-list.ensures c.if-list-eq0.true c.order_at.ensures

pub order_at-requires-2 : goal.order_at-requires-2
order_at-requires-2 c =
    omega (arith, c.list_at-list.ensures.first, terminal_behind c.args.sheet.now c.args.from, c.requires)

pub returns : goal.returns
returns c = order_instruction _ _ c.list_at-list.ensures (omega (arith, c.if-list-eq0.false)) c.order_at-2.ensures
