use native.Mathlib.Omega.{arith}
use mathlib.Core.Path.{◌∙◌}
use Rattle.copies.proofs.Passing.{other_past, return_past, throw_past}
use Rattle.copies.proofs.past.past_terminal.Goals as goal

pub past_places-requires : goal.past_places-requires
past_places-requires c =
    omega (arith, other_past c.args.sheet.now c.args.from c.terminal_at.ensures c.in-Other.is, c.requires)

pub past_effects-requires : goal.past_effects-requires
past_effects-requires c =
    omega (arith, return_past c.args.sheet.now c.args.from c.terminal_at.ensures c.in-Return.is, c.requires)

pub past_effects-requires-in-MaybeThrow : goal.past_effects-requires-in-MaybeThrow
past_effects-requires-in-MaybeThrow c =
    omega (arith, throw_past c.args.sheet.now c.args.from c.terminal_at.ensures c.in-MaybeThrow.is, c.requires)

pub returns-in-Other : goal.returns-in-Other
returns-in-Other c =
    c.past_places.ensures ∙ other_past c.args.sheet.now c.args.from c.terminal_at.ensures c.in-Other.is

pub returns-in-Return : goal.returns-in-Return
returns-in-Return c =
    c.past_effects.ensures ∙ return_past c.args.sheet.now c.args.from c.terminal_at.ensures c.in-Return.is

pub returns-in-MaybeThrow : goal.returns-in-MaybeThrow
returns-in-MaybeThrow c =
    c.past_effects-in-MaybeThrow.ensures ∙ throw_past c.args.sheet.now c.args.from c.terminal_at.ensures c.in-MaybeThrow.is
