use borrow.Enum.Refused.{opened}
use Rattle.instructions.proofs.Spending.{spends_none}
use Rattle.instructions.proofs.Effect.{terminal-effect_of, is_alias_lem, alias_places, alias_fits, one_of, other_kinds, not_alias}
use Rattle.instructions.proofs.terminals.build_terminal_effect.Goals as goal

pub assign-requires-clause-self_bound : goal.assign-requires-clause-self_bound
assign-requires-clause-self_bound c =
    let p = c.requires in
    (alias_fits c.args.e (is_alias_lem c.in-Alias.is) p.fits, (p.range.first, p.range.second (alias_places c.in-Alias.is)))

pub returns-in-Alias : goal.returns-in-Alias
returns-in-Alias c =
    terminal-effect_of c.args.e (is_alias_lem c.in-Alias.is) c.assign.ensures

pub returns-in_default : goal.returns-in_default
returns-in_default c =
    terminal-effect_of c.args.e (not_alias c.args.e.kind (one_of other_kinds _ (opened c.in_default.in_default-own.keys2))) (spends_none c.requires.sound)
