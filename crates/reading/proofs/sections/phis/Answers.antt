use Rattle.std.proofs.Common.{rules, ◌∙◌}
use Rattle.model.specs.Sections.{phi}
use Rattle.reading.specs.Judging.{telling}
use Rattle.reading.specs.Whole.{skip}
use Rattle.reading.proofs.SectionLaws.{counted_skipped}
use Rattle.reading.proofs.sections.phis.Goals as goal

pub returns : goal.returns
returns c = c.section.ensures (telling (phi c.args.n) skip tt) (λ d r k. search rules) ∙ counted_skipped (phi c.args.n) _ _ _
