use native.Mathlib.Omega.{arith}
use Rattle.dataflow.proofs.Described.{returns_inside}
use Rattle.summary.proofs.Written.{indexed-after, after_context, after_params, after_returns, some_marked, after_walks, rises, effects_put}
use Rattle.summary.proofs.simulation.put_effects.Goals as goal

pub collect_effects-requires-2-clause-count_bound_2 : goal.collect_effects-requires-2-clause-count_bound_2
collect_effects-requires-2-clause-count_bound_2 c =
    omega (arith, c.requires.index_le_most_index, c.requires.before.1.describes.short, c.args.f.params_few, after_context _ _ _ c.args.index c.put.ensures c.put_copied.ensures c.collect_effects.ensures)

pub put_create_returns-requires : goal.put_create_returns-requires
put_create_returns-requires c = record {
  identifier_width_in_bounds = returns_inside c.requires.before.1.describes;
  effect_width_bound = omega (arith, c.requires.index_le_most_index, c.requires.before.1.describes.short, after_params _ _ _ c.args.index c.put.ensures c.put_copied.ensures c.collect_effects.ensures c.collect_effects-2.ensures);
}

pub simulate-requires : goal.simulate-requires
simulate-requires c = record {
  indexed = indexed-after c.requires.indexed c.mark_tracked.ensures;
  marked = some_marked _ _ _ _ c.put.ensures c.put_copied.ensures c.collect_effects.ensures c.collect_effects-2.ensures c.requires.before c.put_create_returns.ensures c.mark_tracked.ensures;
  count_le_most_tracked = (
    omega (arith, c.args.f.params_few, c.args.f.context_few),
    (c.requires.index_le_most_index.0, omega (arith, c.requires.index_le_most_index, after_returns _ _ _ _ c.put.ensures c.put_copied.ensures c.collect_effects.ensures c.collect_effects-2.ensures c.requires.before c.put_create_returns.ensures)),
  );
}

pub overflow_sub-count : goal.overflow_sub-count
overflow_sub-count c =
    omega (arith, rises _ _ _ _ c.put.ensures c.put_copied.ensures c.collect_effects.ensures c.collect_effects-2.ensures c.requires.before c.put_create_returns.ensures c.mark_tracked.ensures c.simulate.ensures)

pub overflow_cast-count : goal.overflow_cast-count
overflow_cast-count c =
    omega (arith, after_walks _ _ _ _ c.put.ensures c.put_copied.ensures c.collect_effects.ensures c.collect_effects-2.ensures c.requires.before c.put_create_returns.ensures c.mark_tracked.ensures c.simulate.ensures)

pub returns : goal.returns
returns c =
    effects_put _ _ _ _ c.put.ensures c.put_copied.ensures c.collect_effects.ensures c.collect_effects-2.ensures c.requires.before c.put_create_returns.ensures c.mark_tracked.ensures c.simulate.ensures c.patch.ensures
