use Prim.Native.Nat.{◌-◌}
use Rattle.model.specs.Building.{block as block_step}
use Rattle.hir.specs.Says.{place_is}
use Rattle.hir.specs.Words.{several, block_from}
use Rattle.instructions.proofs.Building.{Looping}
use Rattle.dataflow.specs.Cost.{block_cost}
use Rattle.dataflow.specs.Ranges.{BlockInRange}
use Rattle.dataflow.proofs.build_blocks.Given as goal

abbrev pub invariant-loop : goal.invariant-loop
invariant-loop l = Looping block_from BlockInRange (block_step (place_is l.returns)) block_cost l.s (several l.end block_from l.s l.initial.next) l.initial.ws l.initial.b (l.end - l.counter) l.next l.ws l.b
