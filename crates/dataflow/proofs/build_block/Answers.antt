use native.Mathlib.Omega.{arith}
use Rattle.hir.specs.Says.{place_is}
use Rattle.dataflow.proofs.Block.{number_inside, phis_ready, instructions_ready, can_end, terminal_ready, block_builds}
use Rattle.dataflow.proofs.build_block.Goals as goal

pub number_at-number-requires : goal.number_at-number-requires
number_at-number-requires c = number_inside _ _ c.requires.ready

pub overflow_add-at : goal.overflow_add-at
overflow_add-at c =
    omega (arith, number_inside c.args.s.now c.args.at c.requires.ready)

pub build_phis-next-requires : goal.build_phis-next-requires
build_phis-next-requires c =
    phis_ready _ _ c.requires.ready

pub build_instructions-next-requires : goal.build_instructions-next-requires
build_instructions-next-requires c =
    instructions_ready _ _ c.requires.ready c.build_phis-next.ensures

pub wake-requires : goal.wake-requires
wake-requires c =
    let both = can_end _ _ c.requires.ready c.build_phis-next.ensures c.build_instructions-next.ensures in
    record { sound = both.0; come_lt_most_blocks = both.1 }

pub build_terminal-requires : goal.build_terminal-requires
build_terminal-requires c =
    record { place_below = c.requires.place_below; ready = terminal_ready _ _ c.requires.ready c.build_phis-next.ensures c.build_instructions-next.ensures _ c.number_at-number.ensures c.wake.ensures }

pub returns : goal.returns
returns c =
    block_builds _ _ c.requires.ready c.build_phis-next.ensures c.build_instructions-next.ensures _ c.number_at-number.ensures c.wake.ensures (place_is c.args.returns) c.build_terminal.ensures
