use native.Mathlib.Omega.{arith}
use Rattle.model.proofs.LoadAccepted.{load_bounds}
use Rattle.writing.proofs.Writing.{writes_then, writes_as}
use Rattle.load.proofs.Sheets.{sheet_parts, sheet_room}
use Rattle.load.proofs.put_sheet.Goals as goal

pub put_identifiers-requires : goal.put_identifiers-requires
put_identifiers-requires c = omega (arith, sheet_room c.args.seed c.args.n c.args.m c.requires.loadable)

pub put_params-requires : goal.put_params-requires
put_params-requires c = omega (arith, sheet_room c.args.seed c.args.n c.args.m c.requires.loadable)

pub put_returns-requires-clause-n_nonzero : goal.put_returns-requires-clause-n_nonzero
put_returns-requires-clause-n_nonzero c = omega (arith, (load_bounds c.args.n c.args.m c.requires.loadable).some_identifiers)

pub put_returns-requires-clause-n_bound : goal.put_returns-requires-clause-n_bound
put_returns-requires-clause-n_bound c = omega (arith, sheet_room c.args.seed c.args.n c.args.m c.requires.loadable)

pub put_blocks-requires-clause-n_nonzero : goal.put_blocks-requires-clause-n_nonzero
put_blocks-requires-clause-n_nonzero c =
    let b = load_bounds c.args.n c.args.m c.requires.loadable in
    (omega (arith, b.some_identifiers), b.effects)

pub put_blocks-requires-clause-m_bound : goal.put_blocks-requires-clause-m_bound
put_blocks-requires-clause-m_bound c = omega (arith, sheet_room c.args.seed c.args.n c.args.m c.requires.loadable)

pub returns : goal.returns
returns c =
    writes_as (writes_then c.put_flags.ensures (writes_then c.put_identifiers.ensures (writes_then c.put_params.ensures (writes_then c.put_returns.ensures c.put_blocks.ensures)))) (sheet_parts c.args.seed c.args.n c.args.m)
