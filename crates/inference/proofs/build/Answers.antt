use mathlib.Core.Path.{◌∙◌}
use Rattle.dataflow.proofs.Accepted.{accepted}
use Rattle.inference.proofs.Making.{blocks_can, over_refused, prepares}
use Rattle.inference.proofs.build.Goals as goal

pub read_function-requires : goal.read_function-requires
read_function-requires c =
    record { accepted = accepted c.args.sheet.now c.requires.sheet.1; in_bounds = c.requires.in_bounds }

pub build_blocks-requires : goal.build_blocks-requires
build_blocks-requires c =
    let both = blocks_can c.requires.sheet c.read_function.ensures in
    record { place_below = both.0; ready = both.1 }

pub returns-then-building-gt-MOST_RELATIONS : goal.returns-then-building-gt-MOST_RELATIONS
returns-then-building-gt-MOST_RELATIONS c =
    over_refused c.requires.sheet c.read_function.ensures c.build_blocks.ensures c.if-building-gt-MOST_RELATIONS.true

pub keep-requires : goal.keep-requires
keep-requires c =
    (c.lay_out.ensures.indexed.size, c.read_function.ensures.limited.n)

pub shape_of-ws : goal.shape_of-ws
shape_of-ws c =
    c.keep.ensures.same ∙ c.lay_out.ensures.same ∙ c.build_blocks.ensures.spends.same ∙ c.read_function.ensures.same

pub returns : goal.returns
returns c =
    prepares c.requires.sheet c.read_function.ensures c.build_blocks.ensures c.requires.none_unless c.requires.applies_is c.requires.in_bounds c.if-building-gt-MOST_RELATIONS.false c.lay_out.ensures c.keep.ensures
