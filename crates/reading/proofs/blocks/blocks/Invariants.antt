use Rattle.std.proofs.Common.{◌≡◌, ℕ, ◌+◌, ◌<◌, ◌≤◌, [], length, take, reverse}
use Rattle.model.specs.Asking.{block, tell_block}
use Rattle.model.specs.Limits.{most_blocks}
use Rattle.model.specs.Lists.{each, Every}
use Rattle.model.specs.Reading.{numbered_from}
use Rattle.reading.specs.Judging.{judge, counting, nothing_yet}
use Rattle.reading.specs.TotalsSays.{so_far}
use Rattle.reading.proofs.blocks.blocks.Given as goal

abbrev pub invariant-loop-k : goal.invariant-loop-k
invariant-loop-k l = record {
  told : (j : ℕ) → l.k + j ≡ l.initial.k-end →
      judge (numbered_from l.initial.k-end [] (block counting l.h.identifiers l.h.functions) (tell_block counting)) (each (tell_block counting)) nothing_yet l.s l.initial.c.at
      ≡ judge (numbered_from j (reverse (take l.k l.used)) (block counting l.h.identifiers l.h.functions) (tell_block counting)) (each (tell_block counting)) (so_far l.totals) l.s l.c.at;
  few : l.initial.k-end ≤ most_blocks;
  long : length l.used ≡ most_blocks;
  below : Every (λ (v : ℕ). v < l.above) (reverse (take l.k l.used));
}
