use Rattle.std.proofs.Common.{rules, refl, sym, ◌∙◌}
use Rattle.reading.specs.TotalsSays.{so_far, totals_says}
use Rattle.reading.proofs.JudgeLaws.{section_got, times_said}
use Rattle.reading.proofs.blocks.instructions.Goals as goal

pub returns : goal.returns
returns c =
    times_said _ _ _ totals_says (λ p. so_far p.0) (λ p. p.1.at) (λ p. refl) (λ e. refl) _ (λ p r k. search rules) _ _ _ c.times.ensures ∙ sym (section_got _ _ _ _ _ _ _ _ (sym c.in_ok-count.ensures))
