use mathlib.Core.Path.{refl, sym, ◌∙◌}
use Rattle.std.proofs.Common.{rules}
use Rattle.workspace.proofs.Clearing.{cleared_all}
use Rattle.writing.proofs.Ending.{rest_filled}
use Rattle.dot.proofs.Calling.{draw-indexed, draw_refused, draw_nine, draw_accepted}
use Rattle.dot.proofs.draw.Goals as goal

pub returns-in-Err : goal.returns-in-Err
returns-in-Err c = draw_refused _ _ _ _ c.prepare.ensures c.in-Err.is c.refuse.ensures

pub put_graph-requires : goal.put_graph-requires
put_graph-requires c = record { indexed = draw-indexed c.prepare.ensures c.in_default.is; at_start = c.new-out.ensures.at_start }

pub returns-then-text-length : goal.returns-then-text-length
returns-then-text-length c =
    draw_nine _ _ _ _ c.prepare.ensures c.in_default.is c.new-out.ensures.at_start c.new-out.ensures.items c.put_graph.ensures (search rules) c.if-text-length.true c.refuse-then-text-length.ensures

pub returns : goal.returns
returns c =
    draw_accepted _ _ _ _ c.prepare.ensures c.in_default.is c.new-out.ensures.at_start c.new-out.ensures.items c.put_graph.ensures (search rules) c.if-text-length.false refl
    (c.fill.ensures.after (λ y e. e) ∙ sym (cleared_all _)) (rest_filled _ _ c.if-text-length.false (c.fill-2.ensures.after (λ y e. e)))
