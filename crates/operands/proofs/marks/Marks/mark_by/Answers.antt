use mathlib.Core.Path.{ap, ◌∙◌}
use mathlib.Core.List.{List}
use Rattle.model.specs.Marks.{Mark, marks_of, mark_of}
use Rattle.hir.specs.Numbers.{effect_number}
use Rattle.operands.proofs.Marked.{flowing, conditional, marked_by, silent}
use Rattle.operands.proofs.marks.Marks.mark_by.Goals as goal

pub mark_flow-requires : goal.mark_flow-requires
mark_flow-requires c = (c.requires.0 (flowing c.in-Capture.is).0, c.requires.1)

pub returns-in-Freeze : goal.returns-in-Freeze
unfolding marks_of
returns-in-Freeze c = marked_by c.args.e c.in-Freeze.is _ _ _ _ c.mark_place.ensures

pub returns-in-Mutate : goal.returns-in-Mutate
unfolding marks_of
returns-in-Mutate c = marked_by c.args.e c.in-Mutate.is _ _ _ _ c.mark_place-in-Mutate.ensures

pub returns-in-MutateConditionally : goal.returns-in-MutateConditionally
returns-in-MutateConditionally c =
    c.mark_place-in-MutateConditionally.ensures
    ∙ ap (λ (ms : List Mark). mark_of ms c.args.x.0 (effect_number c.args.before)) (conditional c.in-MutateConditionally.is _ _ _ _)

pub returns-in-Capture : goal.returns-in-Capture
returns-in-Capture c =
    c.mark_flow.ensures
    ∙ ap (λ (ms : List Mark). mark_of ms c.args.x.0 (effect_number c.args.before)) ((flowing c.in-Capture.is).1 _ _ _ _)

pub returns-in_default : goal.returns-in_default
returns-in_default c =
    let d = c.in_default in
    silent _ d.not-Freeze d.not-Mutate d.not-MutateConditionally d.not-MutateTransitive d.not-MutateTransitiveConditionally d.not-Capture
    d.not-Alias d.not-MaybeAlias d.not-Assign d.not-CreateFrom _ _ _ _ _
