use Rattle.model.specs.Load.{loadable}
use Rattle.load.proofs.Bounds.{contained, both_tests, first_test}
use Rattle.load.proofs.loadable.Goals as goal

pub returns-then-contains : goal.returns-then-contains
unfolding loadable
returns-then-contains c =
    both_tests
    (contained c.args.n c.contains.ensures.value c.new.ensures.start c.new.ensures.end c.new.ensures.exhausted) c.if-contains.true
    (contained c.args.m c.contains-then-contains.ensures.value c.new-then-contains.ensures.start c.new-then-contains.ensures.end c.new-then-contains.ensures.exhausted)

pub returns-else-contains : goal.returns-else-contains
unfolding loadable
returns-else-contains c =
    first_test _ (contained c.args.n c.contains.ensures.value c.new.ensures.start c.new.ensures.end c.new.ensures.exhausted) c.if-contains.false
