use Rattle.building.proofs.Pushes.{mutation_pushed}
use Rattle.building.proofs.pending.push_mutation.Goals as goal

pub returns : goal.returns
returns c = mutation_pushed _ _ c.requires.in_bounds.0 c.requires.in_bounds.1 _ _ _ _ _ _ _ _ c.requires.identifier_lt_most_identifiers.0 c.mutation_word.ensures
