-- What a phi and a block spend of the limits.
use Rattle.std.specs.Prelude.{length}
use Rattle.model.specs.Effects.{is_mutation, is_render}
use Rattle.model.specs.Sheet.{Phi, Block}
use Rattle.model.specs.Totals.{with_role, block_relations}
use Rattle.instructions.specs.Cost.{Cost, relations_only}

-- a phi: "phi operands (into the phi)" are relation effects
unfoldable pub phi_cost : Phi → Cost
phi_cost p = relations_only (length p.operands)

-- a block: what refusal 8 counts in it, and itself
unfoldable pub block_cost : Block → Cost
block_cost k = record {
  relations = block_relations k;
  mutations = with_role is_mutation k.instructions;
  renders = with_role is_render k.instructions;
  blocks = 1;
}
