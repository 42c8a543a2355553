-- What the parts of a sheet spend of the limits: indexes (relation effects, mutations, renders), mutations and renders by document 01, refusal 8, and blocks.
use Rattle.std.specs.Prelude.{ℕ, ◌+◌, ◌≤◌, List}
use Rattle.model.specs.Limits.{most_mutations, most_renders, most_blocks, most_index}
use Rattle.model.specs.Lists.{tally, one_if}
use Rattle.model.specs.Sheet.{EffectKind, Effect, Instruction, list_of, Terminal}
use Rattle.model.specs.Effects.{row_of, is_alias, is_relation, is_mutation, is_render}
use Rattle.model.specs.Totals.{terminal_relations}
use Rattle.building.specs.declared.Building.{Building}
use Rattle.building.specs.Built.{index_of}

-- how many of each
pub record Cost : Type 0 where
  pub relations : ℕ
  pub mutations : ℕ
  pub renders : ℕ
  pub blocks : ℕ

-- relation effects alone
abbrev pub relations_only : ℕ → Cost
relations_only n = record { relations = n; mutations = 0; renders = 0; blocks = 0 }

-- both
abbrev pub sum : Cost → Cost → Cost
sum j k = record {
  relations = j.relations + k.relations;
  mutations = j.mutations + k.mutations;
  renders = j.renders + k.renders;
  blocks = j.blocks + k.blocks;
}

-- all of a list
abbrev pub costs : {A : Type 0} → (A → Cost) → List A → Cost
costs {A} f l = record {
  relations = tally (λ (a : A). (f a).relations) l;
  mutations = tally (λ (a : A). (f a).mutations) l;
  renders = tally (λ (a : A). (f a).renders) l;
  blocks = tally (λ (a : A). (f a).blocks) l;
}

-- an effect of an instruction, by its kind's role
unfoldable pub kind_cost : EffectKind → Cost
kind_cost k = record {
  relations = one_if (is_relation (row_of k).role);
  mutations = one_if (is_mutation (row_of k).role);
  renders = one_if (is_render (row_of k).role);
  blocks = 0;
}

-- the same of the effect
abbrev pub effect_cost : Effect → Cost
effect_cost e = kind_cost e.kind

-- an instruction: its effects
unfoldable pub instruction_cost : Instruction → Cost
instruction_cost i = costs effect_cost (list_of i)

-- an effect of a terminal: "kind 6 in terminals"
unfoldable pub terminal_effect_cost : Effect → Cost
terminal_effect_cost e = relations_only (one_if (is_alias e.kind))

-- a terminal
unfoldable pub terminal_cost : Terminal → Cost
terminal_cost t = relations_only (terminal_relations t)

-- there is room for so much
pub record Fits (k : Cost) (b : Building) : Type 0 where
  pub indexes : index_of b + (k.relations + k.mutations + k.renders) ≤ most_index
  pub mutations : b.mutations + k.mutations ≤ most_mutations
  pub renders : b.renders + k.renders ≤ most_renders
  pub blocks : b.come + k.blocks ≤ most_blocks
