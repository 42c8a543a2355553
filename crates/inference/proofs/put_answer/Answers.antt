use native.Mathlib.Omega.{arith}
use mathlib.Core.Path.{refl, ◌∙◌}
use Rattle.inference.proofs.Passing.{passing, answer_put}
use Rattle.inference.proofs.put_answer.Goals as goal

pub put_middle-requires : goal.put_middle-requires
put_middle-requires c =
    record { prepared = c.requires.prepared; most_middle_bound = omega (arith, c.requires.most_answer_bound, c.args.f.identifiers_few) }

pub put_passed-requires : goal.put_passed-requires
put_passed-requires c =
    record { passing = (c.requires.prepared.0, passing c.put_middle.ensures c.requires.prepared.1); most_ranges_bound = (omega (arith, c.requires.most_answer_bound), omega (arith, c.requires.most_answer_bound, c.args.f.identifiers_few, c.put_middle.ensures.few)) }

pub shape_of-ws : goal.shape_of-ws
shape_of-ws c = c.put_passed.ensures.kept.same ∙ c.put_middle.ensures.walkable.same

pub returns : goal.returns
returns c = answer_put c.put_middle.ensures c.args.out.now refl refl c.put_passed.ensures
