use Rattle.operands.proofs.WholePass.{blocks_passable, section_rises, section_put}
use Rattle.operands.proofs.put_section.Goals as goal

pub blocks-requires : goal.blocks-requires
blocks-requires c = blocks_passable c.requires.passing.1 c.begin.ensures c.requires.most_section_bound c.put.ensures

pub overflow_sub-out : goal.overflow_sub-out
overflow_sub-out c = section_rises c.begin.ensures c.put.ensures c.blocks-2.ensures c.requires.passing.1

pub returns : goal.returns
returns c = section_put c.begin.ensures c.put.ensures c.blocks-2.ensures c.requires.passing c.patch.ensures
