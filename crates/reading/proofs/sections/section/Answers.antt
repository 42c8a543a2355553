use Rattle.std.proofs.Common.{refl, sym, ◌∙◌}
use Rattle.reading.specs.Says.{cursor_says}
use Rattle.reading.specs.Whole.{skip}
use Rattle.hir.specs.Says.{word_says}
use Rattle.reading.proofs.JudgeLaws.{times_said, exits}
use Rattle.reading.proofs.SectionLaws.{skipped, section-read, section_stopped, count_stopped}
use Rattle.reading.proofs.sections.section.Goals as goal

pub returns-in_err-count : goal.returns-in_err-count
returns-in_err-count g c f h = exits word_says (λ k. refl) _ _ c.from_residual.ensures.1 (count_stopped _ _ _ _ _ (sym c.in_err-count.ensures))

pub returns-in_err-c : goal.returns-in_err-c
returns-in_err-c g c f h =
    let t = times_said (λ (u : Unit {0}). f) skip c.args.s.now cursor_says (λ q. tt) (λ q. q.at) (λ q. refl) (λ e. refl) _ (λ q r k. h q r k ∙ skipped f c.args.s.now q.at) _ _ _ c.in_err-c.ensures in
    exits word_says (λ k. refl) _ _ c.from_residual-in_err-c.ensures.1 (section_stopped _ _ _ _ _ _ _ (sym c.in_ok-count.ensures) (sym t))

pub returns : goal.returns
returns g c f h =
    let t = times_said (λ (u : Unit {0}). f) skip c.args.s.now cursor_says (λ q. tt) (λ q. q.at) (λ q. refl) (λ e. refl) _ (λ q r k. h q r k ∙ skipped f c.args.s.now q.at) _ _ _ c.in_ok-c.ensures in
    sym (section-read _ _ _ _ _ _ _ (sym c.in_ok-count.ensures) (sym t))
