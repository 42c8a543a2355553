use native.Mathlib.Omega.{arith}
use Rattle.copies.proofs.Blocks.{block_follows}
use Rattle.copies.proofs.Copying.{copying_start, copying_turn, copying_inside, copying_end}
use Rattle.copies.proofs.effect_lists.copy_effects.Goals as goal

pub loop-init : goal.loop-init
loop-init c = copying_start _ _ _ _ _ _

pub copy_block-next-requires : goal.copy_block-next-requires
copy_block-next-requires c =
    record { from_in_bounds = copying_inside _ _ _ c.loop.invariant block_follows c.loop-test.true c.requires.first_in_bounds; sheet_bound = omega (arith, c.loop.invariant.few, c.requires.sheet_bound) }

pub loop-preserved : goal.loop-preserved
loop-preserved c = copying_turn _ _ _ c.loop.invariant c.loop-test.true c.copy_block-next.ensures

pub returns : goal.returns
returns c = copying_end _ _ _ c.loop.invariant c.loop-test.false
