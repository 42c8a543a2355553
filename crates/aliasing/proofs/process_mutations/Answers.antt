use Rattle.aliasing.proofs.Pending.{cleared_start, cleared_end, order_few, process_turn, process_end}
use Rattle.aliasing.proofs.process_mutations.Goals as goal

pub loop-i-init : goal.loop-i-init
loop-i-init c =
    cleared_start c.args.ws.now c.requires.indexed _ c.clear_marks.ensures c.args.count c.requires.pending c.args.should_record_errors

pub pending_mutation-m-requires : goal.pending_mutation-m-requires
pending_mutation-m-requires c = order_few _ _ _ _ _ _ c.loop-i.invariant c.loop-i-test.true

pub loop-i-preserved : goal.loop-i-preserved
loop-i-preserved c =
    process_turn _ _ _ _ _ _ c.loop-i.invariant c.loop-i-test.true c.pending_mutation-m.result c.pending_mutation-m.ensures _ _ _ c.mutate-taken.ensures

pub returns : goal.returns
returns c =
    cleared_end c.args.ws.now c.requires.indexed _ c.clear_marks.ensures c.args.count c.requires.pending _ _ _
    (process_end _ _ _ _ _ _ c.loop-i.invariant c.loop-i-test.false)
