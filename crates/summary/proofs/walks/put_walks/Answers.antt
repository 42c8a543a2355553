use native.Mathlib.Omega.{arith}
use Rattle.summary.proofs.Counts.{counts_wrote, walks_section}
use Rattle.summary.proofs.walks.put_walks.Goals as goal

pub put_counts-requires-2-clause-count_bound : goal.put_counts-requires-2-clause-count_bound
put_counts-requires-2-clause-count_bound c = omega (arith, c.put.ensures.wrote.next, counts_wrote _ _ _ _ c.put_counts.ensures)

pub returns : goal.returns
returns c = walks_section _ _ _ c.put.ensures c.put_counts.ensures c.put_counts-2.ensures
