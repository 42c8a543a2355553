use mathlib.Core.Path.{◌≡◌, sym, ◌∙◌}
use mathlib.Core.Bool.{true, false}
use lib.Dec.{eqb}
use Rattle.model.specs.Sections.{extra}
use Rattle.hir.specs.Numbers.{kind_number}
use Rattle.hir.specs.declared.EffectKind.TheVariants.{CreateFunction}
use Rattle.hir.proofs.EffectKinds.{number_same, kinds_equal}
use Rattle.hir.proofs.effects.extra.Goals as goal

pub returns-then-eq : goal.returns-then-eq
unfolding extra
returns-then-eq c =
    let e : eqb (kind_number c.args.row.kind) 13 ≡ true = sym (kinds_equal c.args.row.kind CreateFunction) ∙ sym c.eq.ensures ∙ c.if-eq.true in
    rw (number_same, e) c.below.ensures

pub returns-else-eq : goal.returns-else-eq
unfolding extra
returns-else-eq c =
    let e : eqb (kind_number c.args.row.kind) 13 ≡ false = sym (kinds_equal c.args.row.kind CreateFunction) ∙ sym c.eq.ensures ∙ c.if-eq.false in
    rw (← c.requires, number_same, e) c.at_most.ensures
