use Rattle.std.proofs.Common.{rules, ◌∙◌}
use Rattle.model.specs.Sections.{place}
use Rattle.reading.specs.Judging.{telling}
use Rattle.reading.specs.Whole.{skip}
use Rattle.reading.proofs.SectionLaws.{counted_skipped}
use Rattle.reading.proofs.sections.places.Goals as goal

pub returns : goal.returns
unfolding telling
returns c = c.section.ensures (telling (place c.args.n) skip tt) (λ d r k. search rules) ∙ counted_skipped (place c.args.n) _ _ _
