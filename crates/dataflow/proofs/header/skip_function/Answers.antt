use native.Mathlib.Omega.{arith}
use mathlib.Core.Path.{refl, ◌∙◌}
use Rattle.hir.proofs.Widths.{function_rises}
use Rattle.dataflow.proofs.Storing.{context_begin, function_end}
use Rattle.dataflow.proofs.header.skip_function.Goals as goal

pub list_at-diagnostics-requires : goal.list_at-diagnostics-requires
list_at-diagnostics-requires c = omega (arith, function_rises c.args.sheet.now c.args.at, c.requires)

pub list_at-requires : goal.list_at-requires
list_at-requires c =
    omega (arith, context_begin c.args.sheet.now c.args.at c.list_at-diagnostics.ensures, c.requires)

pub past_places-requires : goal.past_places-requires
past_places-requires c =
    omega (arith, function_end c.args.sheet.now c.args.at c.list_at-diagnostics.ensures refl c.list_at.ensures, c.requires)

pub returns : goal.returns
returns c =
    c.past_places.ensures ∙ function_end c.args.sheet.now c.args.at c.list_at-diagnostics.ensures refl c.list_at.ensures
