use Rattle.building.proofs.Pushes.{render_pushed}
use Rattle.building.proofs.pending.push_render.Goals as goal

pub returns : goal.returns
returns c = render_pushed _ _ _ _ c.requires.in_bounds.0 c.requires.in_bounds.1 c.requires.identifier_lt_most_identifiers.0
