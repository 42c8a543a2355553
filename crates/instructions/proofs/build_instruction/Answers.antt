use Rattle.instructions.proofs.Instruction.{effects_ready, instruction_builds}
use Rattle.instructions.proofs.build_instruction.Goals as goal

pub build_effects-requires : goal.build_effects-requires
build_effects-requires c = effects_ready c.instruction_at-i.ensures c.requires

pub returns : goal.returns
returns c = instruction_builds c.instruction_at-i.ensures c.build_effects.ensures
