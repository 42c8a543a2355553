use mathlib.Core.Path.{refl}
use Rattle.model.specs.Effects.{row_of}
use Rattle.model.specs.Building.{instruction_effect}
use Rattle.instructions.specs.Cost.{kind_cost}
use Rattle.instructions.proofs.Effect.{effect_of, relation_can, mutation_can, render_can, function-below, one_of, idle_kinds, idle}
use Rattle.instructions.proofs.build_effect.Goals as goal

pub push_mutation-requires-clause-self_bound : goal.push_mutation-requires-clause-self_bound
unfolding row_of
push_mutation-requires-clause-self_bound c = mutation_can c.args.e c.in-Mutate.is refl c.requires

pub push_mutation-requires-in-MutateConditionally-clause-self_bound : goal.push_mutation-requires-in-MutateConditionally-clause-self_bound
unfolding row_of
push_mutation-requires-in-MutateConditionally-clause-self_bound c = mutation_can c.args.e c.in-MutateConditionally.is refl c.requires

pub push_mutation-requires-in-MutateTransitive-clause-self_bound : goal.push_mutation-requires-in-MutateTransitive-clause-self_bound
unfolding row_of
push_mutation-requires-in-MutateTransitive-clause-self_bound c = mutation_can c.args.e c.in-MutateTransitive.is refl c.requires

pub push_mutation-requires-in-MutateTransitiveConditionally-clause-self_bound : goal.push_mutation-requires-in-MutateTransitiveConditionally-clause-self_bound
unfolding row_of
push_mutation-requires-in-MutateTransitiveConditionally-clause-self_bound c = mutation_can c.args.e c.in-MutateTransitiveConditionally.is refl c.requires

pub capture-requires-clause-self_bound : goal.capture-requires-clause-self_bound
unfolding row_of
capture-requires-clause-self_bound c = relation_can c.args.e c.in-Capture.is refl c.requires

pub assign-requires-clause-self_bound : goal.assign-requires-clause-self_bound
unfolding row_of
assign-requires-clause-self_bound c = relation_can c.args.e c.in-Alias.is refl c.requires

pub maybe_alias-requires-clause-self_bound : goal.maybe_alias-requires-clause-self_bound
unfolding row_of
maybe_alias-requires-clause-self_bound c = relation_can c.args.e c.in-MaybeAlias.is refl c.requires

pub assign_effect-requires-clause-self_bound : goal.assign_effect-requires-clause-self_bound
unfolding row_of
assign_effect-requires-clause-self_bound c = relation_can c.args.e c.in-Assign.is refl c.requires

pub create_from-requires-clause-self_bound : goal.create_from-requires-clause-self_bound
unfolding row_of
create_from-requires-clause-self_bound c = relation_can c.args.e c.in-CreateFrom.is refl c.requires

pub create-requires-in-CreateFunction-clause-place_lt_most_identifiers : goal.create-requires-in-CreateFunction-clause-place_lt_most_identifiers
create-requires-in-CreateFunction-clause-place_lt_most_identifiers c =
    (c.requires.range.first, function-below c.args.e c.in-CreateFunction.is c.requires.range)

pub push_render-requires-clause-self_bound : goal.push_render-requires-clause-self_bound
unfolding row_of
push_render-requires-clause-self_bound c = render_can c.args.e c.in-Render.is refl c.requires

pub returns-in-Mutate : goal.returns-in-Mutate
unfolding instruction_effect kind_cost row_of
returns-in-Mutate c = effect_of c.args.e c.in-Mutate.is c.args.order.0 (rw c.reason_of.ensures at c.push_mutation.ensures)

pub returns-in-MutateConditionally : goal.returns-in-MutateConditionally
unfolding instruction_effect kind_cost row_of
returns-in-MutateConditionally c = effect_of c.args.e c.in-MutateConditionally.is c.args.order.0 c.push_mutation-in-MutateConditionally.ensures

pub returns-in-MutateTransitive : goal.returns-in-MutateTransitive
unfolding instruction_effect kind_cost row_of
returns-in-MutateTransitive c = effect_of c.args.e c.in-MutateTransitive.is c.args.order.0 c.push_mutation-in-MutateTransitive.ensures

pub returns-in-MutateTransitiveConditionally : goal.returns-in-MutateTransitiveConditionally
unfolding instruction_effect kind_cost row_of
returns-in-MutateTransitiveConditionally c = effect_of c.args.e c.in-MutateTransitiveConditionally.is c.args.order.0 c.push_mutation-in-MutateTransitiveConditionally.ensures

pub returns-in-Capture : goal.returns-in-Capture
unfolding instruction_effect kind_cost row_of
returns-in-Capture c = effect_of c.args.e c.in-Capture.is c.args.order.0 c.capture.ensures

pub returns-in-Alias : goal.returns-in-Alias
unfolding instruction_effect kind_cost row_of
returns-in-Alias c = effect_of c.args.e c.in-Alias.is c.args.order.0 c.assign.ensures

pub returns-in-MaybeAlias : goal.returns-in-MaybeAlias
unfolding instruction_effect kind_cost row_of
returns-in-MaybeAlias c = effect_of c.args.e c.in-MaybeAlias.is c.args.order.0 c.maybe_alias.ensures

pub returns-in-Assign : goal.returns-in-Assign
unfolding instruction_effect kind_cost row_of
returns-in-Assign c = effect_of c.args.e c.in-Assign.is c.args.order.0 c.assign_effect.ensures

pub returns-in-Create : goal.returns-in-Create
unfolding instruction_effect kind_cost row_of
returns-in-Create c = effect_of c.args.e c.in-Create.is c.args.order.0 c.create.ensures

pub returns-in-CreateFrom : goal.returns-in-CreateFrom
unfolding instruction_effect kind_cost row_of
returns-in-CreateFrom c = effect_of c.args.e c.in-CreateFrom.is c.args.order.0 c.create_from.ensures

pub returns-in-CreateFunction : goal.returns-in-CreateFunction
unfolding instruction_effect kind_cost row_of
returns-in-CreateFunction c = effect_of c.args.e c.in-CreateFunction.is c.args.order.0 c.create-in-CreateFunction.ensures

pub returns-in-Render : goal.returns-in-Render
unfolding instruction_effect kind_cost row_of
returns-in-Render c = effect_of c.args.e c.in-Render.is c.args.order.0 c.push_render.ensures

pub returns-in_default : goal.returns-in_default
returns-in_default c =
    idle c.args.e.kind (one_of idle_kinds _ c.in_default.in_default-own.keys13) c.args.order.0 _ c.requires.sound
