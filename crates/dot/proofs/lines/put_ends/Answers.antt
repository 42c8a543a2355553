use native.Mathlib.Omega.{arith}
use Rattle.model.proofs.Digits.{digits_ten}
use Rattle.writing.proofs.Writing.{writes_then}
use Rattle.dot.specs.Lines.{ends_text}
use Rattle.dot.proofs.lines.put_ends.Goals as goal

pub put_bytes-requires-2 : goal.put_bytes-requires-2
put_bytes-requires-2 c = omega (arith, digits_ten c.args.from (omega arith))

pub put_digits-requires-2 : goal.put_digits-requires-2
put_digits-requires-2 c = omega (arith, digits_ten c.args.from (omega arith))

pub returns : goal.returns
unfolding ends_text
returns c = writes_then c.put_bytes.ensures (writes_then c.put_digits.ensures (writes_then c.put_bytes-2.ensures c.put_digits-2.ensures))
