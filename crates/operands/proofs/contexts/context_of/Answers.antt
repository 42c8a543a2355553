use Rattle.operands.proofs.Inner.{function_begin, context_begin, context_list}
use Rattle.operands.proofs.contexts.context_of.Goals as goal

pub list_at-diagnostics-requires : goal.list_at-diagnostics-requires
list_at-diagnostics-requires c =
    function_begin c.requires.1.0 c.requires.1.1

pub list_at-requires : goal.list_at-requires
list_at-requires c =
    context_begin c.requires.1.0 c.requires.1.1 c.list_at-diagnostics.ensures

pub returns : goal.returns
returns c =
    context_list c.requires.1.0 c.requires.1.1 c.list_at-diagnostics.ensures c.list_at.ensures
