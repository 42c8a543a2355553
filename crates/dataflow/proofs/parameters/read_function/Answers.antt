use Rattle.dataflow.specs.declared.function.HirFunction.{HirFunction}
use Rattle.dataflow.proofs.ReadFunction.{function, function-read}
use Rattle.dataflow.proofs.parameters.read_function.Goals as goal

pub invariant_of-result : goal.invariant_of-result
invariant_of-result c =
    let f : HirFunction = function c.requires.accepted c.requires.in_bounds c.read_top-top.ensures c.start-building.ensures c.read_tracked-t.ensures in
    record { identifiers_few = f.identifiers_few; functions_few = f.functions_few; params_few = f.params_few; context_few = f.context_few; blocks_few = f.blocks_few; returns_below = f.returns_below }

pub returns : goal.returns
returns c =
    function-read c.requires.accepted c.requires.in_bounds c.read_top-top.ensures c.start-building.ensures c.read_tracked-t.ensures
