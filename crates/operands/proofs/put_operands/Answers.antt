use Rattle.operands.proofs.WholePass.{after_one, after_two, after-three, operands_put}
use Rattle.operands.proofs.put_operands.Goals as goal

pub put_section-requires-2-clause-passing : goal.put_section-requires-2-clause-passing
put_section-requires-2-clause-passing c = after_one c.put_section.ensures c.requires.passing

pub put_section-requires-3-clause-passing : goal.put_section-requires-3-clause-passing
put_section-requires-3-clause-passing c =
    after_two c.put_section.ensures c.put_section-2.ensures c.requires.passing

pub put_inner-requires-clause-known : goal.put_inner-requires-clause-known
put_inner-requires-clause-known c =
    after-three c.put_section.ensures c.put_section-2.ensures c.put_section-3.ensures c.requires.passing

pub returns : goal.returns
returns c = operands_put c.put_section.ensures c.put_section-2.ensures c.put_section-3.ensures c.put_inner.ensures
