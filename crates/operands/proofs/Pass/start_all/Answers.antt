use Rattle.operands.proofs.Stepping.{known_kept}
use Rattle.operands.proofs.InstructionValues.{kept_ranges, function_known, context_in, plain_started, function_started}
use Rattle.operands.proofs.Pass.start_all.Goals as goal

pub context_of-context-requires : goal.context_of-context-requires
context_of-context-requires c =
    (c.requires.0, (known_kept (kept_ranges c.start_operands.ensures.kept) c.requires.1.known, function_known c.requires.1.parts c.in-Function.is))

pub start_operands-requires-in-Function-clause-places_in : goal.start_operands-requires-in-Function-clause-places_in
start_operands-requires-in-Function-clause-places_in c =
    context_in (known_kept (kept_ranges c.start_operands.ensures.kept) c.requires.1.known) (function_known c.requires.1.parts c.in-Function.is) c.context_of-context.ensures

pub returns-in-Plain : goal.returns-in-Plain
returns-in-Plain c =
    plain_started c.start_operands.ensures c.in-Plain.is

pub returns-in-Function : goal.returns-in-Function
returns-in-Function c =
    function_started c.start_operands.ensures c.in-Function.is c.context_of-context.ensures c.start_operands-in-Function.ensures
