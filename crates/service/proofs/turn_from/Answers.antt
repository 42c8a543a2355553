use mathlib.Core.Path.{refl, sym, subst}
use Rattle.service.specs.Served.{Served}
use Rattle.service.specs.declared.Reply.{Reply}
use Rattle.service.proofs.Serving.{served_refused, served_accepted}
use Rattle.service.proofs.turn_from.Goals as goal

pub returns-in-Ok : goal.returns-in-Ok
returns-in-Ok c = served_accepted c.args.sheet.now c.args.workspace.now c.args.answer.now c.args.serial c.infer_mutation_aliasing_ranges.ensures c.in-Ok.is c.ranges.serial.fits refl

pub returns-in-Err : goal.returns-in-Err
returns-in-Err c =
    subst (λ (r : Reply). Served c.args.serial c.args.sheet.now c.args.workspace.now c.args.answer.now r c.args.serial c.infer_mutation_aliasing_ranges.new.workspace c.infer_mutation_aliasing_ranges.new.answer)
    (sym c.from.ensures) (served_refused c.args.sheet.now c.args.workspace.now c.args.answer.now c.args.serial c.infer_mutation_aliasing_ranges.ensures c.in-Err.is)
