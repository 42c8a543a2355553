use native.Mathlib.Omega.{arith}
use mathlib.Core.Path.{◌∙◌}
use Rattle.inference.proofs.Answering.{real_indexed, real_stands, next_indexed}
use Rattle.inference.proofs.Stages.{hand_low, before_effects, stages}
use Rattle.inference.proofs.put_middle.Goals as goal

pub process_mutations-hand-requires : goal.process_mutations-hand-requires
process_mutations-hand-requires c =
    record { indexed = c.requires.prepared.1.indexed; pending = c.requires.prepared.1.pending }

pub put_tracked-requires : goal.put_tracked-requires
put_tracked-requires c =
    let p = c.requires.prepared.1 in
    record { in_bounds = (real_stands p c.process_mutations-hand.ensures).size; most_tracked_words_bound = omega (arith, c.requires.most_middle_bound) }

pub put_diagnostics-requires : goal.put_diagnostics-requires
put_diagnostics-requires c =
    let p = c.requires.prepared.1 in
    let m = c.process_mutations-hand.ensures in
    record { indexed = real_indexed p m; describes = (c.requires.prepared.0, (p.describes, real_stands p m)); renders_le_most_renders = (p.few_renders, (hand_low m, omega (arith, c.requires.most_middle_bound, c.put_tracked.ensures.few))) }

pub index-requires : goal.index-requires
index-requires c =
    let p = c.requires.prepared.1 in
    p.indexes

pub put_effects-requires : goal.put_effects-requires
put_effects-requires c =
    let p = c.requires.prepared.1 in
    let m = c.process_mutations-hand.ensures in
    let u = c.put_diagnostics.ensures.unmoved in
    record { indexed = next_indexed p m u; before = (c.requires.prepared.0, before_effects p m u c.index.ensures); index_le_most_index = (omega (arith, c.index.ensures, p.indexes), omega (arith, c.requires.most_middle_bound, c.put_tracked.ensures.few, c.put_diagnostics.ensures.few)) }

pub overflow_add-walks : goal.overflow_add-walks
overflow_add-walks c =
    omega (arith, c.args.f.params_few, c.args.f.context_few)

pub overflow_add-walks-2 : goal.overflow_add-walks-2
overflow_add-walks-2 c =
    omega (arith, c.args.f.params_few, c.args.f.context_few)

pub overflow_cast-walks : goal.overflow_cast-walks
overflow_cast-walks c =
    omega (arith, c.args.f.params_few, c.args.f.context_few)

pub put_walks-requires : goal.put_walks-requires
put_walks-requires c =
    let p = c.requires.prepared.1 in
    record { real_le_most_mutations = (p.pending.few, (omega (arith, c.args.f.params_few, c.args.f.context_few), c.put_effects.ensures.walkable.indexed.size)); most_walks_bound = omega (arith, c.requires.most_middle_bound, c.put_tracked.ensures.few, c.put_diagnostics.ensures.few, c.put_effects.ensures.few) }

pub shape_of-ws : goal.shape_of-ws
shape_of-ws c =
    c.put_effects.ensures.walkable.same
    ∙ c.put_diagnostics.ensures.unmoved.aside.same
    ∙ c.process_mutations-hand.ensures.same

pub returns : goal.returns
returns c =
    let p = c.requires.prepared.1 in stages p.pending.few c.process_mutations-hand.ensures c.put_tracked.ensures c.put_diagnostics.ensures c.index.ensures c.put_effects.ensures c.put_walks.ensures
