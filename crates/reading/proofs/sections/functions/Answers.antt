use Rattle.std.proofs.Common.{rules, ◌∙◌}
use Rattle.model.specs.Sections.{inner_function}
use Rattle.reading.specs.Judging.{telling}
use Rattle.reading.specs.Whole.{skip}
use Rattle.reading.proofs.SectionLaws.{counted_skipped}
use Rattle.reading.proofs.sections.functions.Goals as goal

pub returns : goal.returns
returns c = c.section.ensures (telling (inner_function c.args.n) skip tt) (λ d r k. search rules) ∙ counted_skipped (inner_function c.args.n) _ _ _
