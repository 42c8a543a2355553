use Rattle.dataflow.proofs.Before.{flags_inside, identifiers_begin, ends_ready, functions_begin, functions_ready, top_read}
use Rattle.dataflow.proofs.header.read_top.Goals as goal

pub flags_at-flags-requires : goal.flags_at-flags-requires
flags_at-flags-requires c = flags_inside c.requires.accepted

pub list_at-identifiers-requires : goal.list_at-identifiers-requires
list_at-identifiers-requires c =
    identifiers_begin c.requires.accepted

pub read_ends-after-requires : goal.read_ends-after-requires
read_ends-after-requires c =
    let r = ends_ready c.requires.accepted c.list_at-identifiers.ensures in
    record { first_in_bounds = r.0; count_le_most_identifiers = (r.1, c.requires.in_bounds) }

pub list_at-functions-requires : goal.list_at-functions-requires
list_at-functions-requires c =
    functions_begin c.requires.accepted c.list_at-identifiers.ensures c.read_ends-after.ensures

pub read_functions-next-requires : goal.read_functions-next-requires
read_functions-next-requires c =
    let both = functions_ready c.requires.accepted c.list_at-identifiers.ensures c.read_ends-after.ensures c.list_at-functions.ensures c.requires.in_bounds in
    record { first_in_bounds = both.0; count_le_most_functions = both.1 }

pub returns : goal.returns
returns c =
    top_read c.requires.accepted c.list_at-identifiers.ensures c.read_ends-after.ensures c.list_at-functions.ensures c.flags_at-flags.ensures c.records_errors.ensures c.read_functions-next.ensures
