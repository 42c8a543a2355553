use Rattle.writing.proofs.Writing.{writes_then, writes_as}
use Rattle.load.proofs.Sheets.{blocks_parts}
use Rattle.load.proofs.parts.put_blocks.Goals as goal

pub returns : goal.returns
returns c =
    writes_as (writes_then c.put.ensures (writes_then c.put-2.ensures (writes_then c.put-3.ensures (writes_then c.put_instructions.ensures c.put_terminal.ensures)))) (blocks_parts c.args.seed c.args.n c.args.m)
