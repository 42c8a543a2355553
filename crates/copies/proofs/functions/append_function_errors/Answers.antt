use native.Mathlib.Omega.{arith}
use Rattle.copies.proofs.Errors.{errors_none, errors_begin, errors_inside, errors_room, errors_wrote}
use Rattle.copies.proofs.functions.append_function_errors.Goals as goal

pub returns-then-count-function : goal.returns-then-count-function
returns-then-count-function c = errors_none _ _ _ _ c.if-count-function.true _

pub list_at-requires : goal.list_at-requires
list_at-requires c = errors_begin c.requires.functions c.if-count-function.false

pub copy_diagnostics-requires : goal.copy_diagnostics-requires
copy_diagnostics-requires c =
    record { first_in_bounds = errors_inside c.requires.functions c.if-count-function.false c.list_at.ensures; count_bound = omega (arith, errors_room c.requires.functions c.if-count-function.false c.list_at.ensures, c.requires.most_errors_bound) }

pub returns : goal.returns
returns c = errors_wrote c.requires.functions c.if-count-function.false c.list_at.ensures c.copy_diagnostics.ensures
