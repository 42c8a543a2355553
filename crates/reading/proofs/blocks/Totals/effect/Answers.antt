use Rattle.std.proofs.Common.{◌≡◌, sym, ◌∙◌, true, false, eqb}
use Rattle.hir.specs.Numbers.{kind_number}
use Rattle.hir.specs.declared.EffectKind.TheVariants.{Apply}
use Rattle.hir.proofs.EffectKinds.{number_same, kinds_equal}
use Rattle.reading.specs.Judging.{tell_kind, with_apply}
use Rattle.reading.proofs.blocks.Totals.effect.Goals as goal

pub returns-in-Nothing : goal.returns-in-Nothing
unfolding tell_kind with_apply
returns-in-Nothing c =
    let e : eqb (kind_number c.args.kind) 12 ≡ true = sym (kinds_equal c.args.kind Apply) ∙ sym c.eq.ensures ∙ c.if-eq.true in
    rw (c.if-terminal.false, ← c.in-Nothing.ensures, number_same, e)

pub returns-in-Relation : goal.returns-in-Relation
unfolding tell_kind
returns-in-Relation c =
    let e : eqb (kind_number c.args.kind) 12 ≡ false = sym (kinds_equal c.args.kind Apply) ∙ sym c.eq.ensures ∙ c.if-eq.false in
    rw (c.if-terminal.false, ← c.in-Nothing.ensures, number_same, e)
