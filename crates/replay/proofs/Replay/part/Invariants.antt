use Rattle.std.proofs.Common.{length}
use Rattle.replay.proofs.Replay.part.Given as goal

abbrev pub decreases-loop-behind : goal.decreases-loop-behind
decreases-loop-behind l = length l.rest
