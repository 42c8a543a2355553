use Rattle.std.proofs.Common.{rules}
use Rattle.writing.proofs.Ending.{rest_filled}
use Rattle.load.proofs.Calling.{called_outside, called_short, called_filled}
use Rattle.load.proofs.class_load.Goals as goal

pub returns-then-not-loadable : goal.returns-then-not-loadable
returns-then-not-loadable c = called_outside _ _ _ c.loadable.ensures c.if-not-loadable.true c.refuse.ensures

pub returns-then-sheet-length : goal.returns-then-sheet-length
returns-then-sheet-length c =
    called_short _ _ _ c.loadable.ensures c.if-not-loadable.false c.new-out.ensures.at_start c.new-out.ensures.items c.put_sheet.ensures (search rules) c.if-sheet-length.true c.refuse-then-sheet-length.ensures

pub returns : goal.returns
returns c =
    called_filled _ _ _ c.loadable.ensures c.if-not-loadable.false c.new-out.ensures.at_start c.new-out.ensures.items c.put_sheet.ensures (search rules) c.if-sheet-length.false (rest_filled _ _ c.if-sheet-length.false (c.fill.ensures.after (λ y e. e)))
