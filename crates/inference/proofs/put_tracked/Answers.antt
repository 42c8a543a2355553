use native.Mathlib.Omega.{arith}
use Rattle.summary.proofs.Rooms.{marked_next}
use Rattle.inference.proofs.Answering.{tracked_put}
use Rattle.inference.proofs.put_tracked.Goals as goal

pub put_marked-requires : goal.put_marked-requires
put_marked-requires c =
    record { count_bound = (omega (arith, c.args.f.params_few), c.requires.in_bounds); count_bound_2 = omega (arith, c.args.f.params_few, c.requires.most_tracked_words_bound) }

pub put_marked-requires-2 : goal.put_marked-requires-2
put_marked-requires-2 c =
    record { count_bound = (omega (arith, c.args.f.params_few, c.args.f.context_few), c.requires.in_bounds); count_bound_2 = omega (arith, c.args.f.params_few, c.args.f.context_few, c.requires.most_tracked_words_bound, marked_next _ _ _ c.put_marked.ensures) }

pub returns : goal.returns
returns c = tracked_put c.put_marked.ensures c.put_marked-2.ensures
