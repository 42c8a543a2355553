use Rattle.building.proofs.BlockEnds.{wake_room, wake_known, ends_again, ends_new}
use Rattle.building.proofs.Building.wake.Goals.{then-not-has_come, else-not-has_come}
use Rattle.building.proofs.Building.wake.Goals as goal

pub wake-requires : goal.wake-requires
wake-requires c =
    record { room = wake_room _ _ _ _ c.requires.sound.0 c.requires.sound.1 c.requires.come_lt_most_blocks _ c.push_block.ensures; every = wake_known _ _ _ _ c.requires.sound.0 c.requires.sound.1 c.requires.come_lt_most_blocks _ c.push_block.ensures }

pub returns : goal.returns
returns c = elim c.if-not-has_come.branch [
  | then-not-has_come w ↦ rw (w.ws-is, w.self-is)
      (ends_new _ _ _ _ c.requires.sound.0 c.requires.sound.1 c.requires.come_lt_most_blocks _ c.push_block.ensures _ c.has_come.ensures w.if-not-has_come.true w.wake.ensures)
  | else-not-has_come w ↦ rw (w.ws-is, w.self-is)
      (ends_again _ _ _ _ c.requires.sound.0 c.requires.sound.1 c.requires.come_lt_most_blocks _ c.push_block.ensures _ c.has_come.ensures w.if-not-has_come.false)
]
