use Prim.Native.Nat.{ℕ}
use native.Mathlib.Omega.{arith}
use Rattle.dot.proofs.Lengths.{Leading, leading_more, leading_none, leading_room, leading_last}
use Rattle.dot.proofs.text.+put_digits.Goals as goal
use Rattle.dot.proofs.text.+put_digits.Goals.{Joined-n-ge10, then-n-ge10, else-n-ge10}

-- the digits before the last
leading : (t : ℕ) (c : Joined-n-ge10 t) → Leading c.args.n c.args.text.now c.if-n-ge10.text
leading t c = elim c.if-n-ge10.branch [
  | then-n-ge10 w ↦ leading_more _ w.if-n-ge10.true w.put_digits.ensures w.text-is
  | else-n-ge10 w ↦ leading_none _ w.if-n-ge10.false w.text-is
]

pub put-requires : goal.put-requires
put-requires t c = let l = leading_room (leading t (goal.at.put-requires t c).Joined-n-ge10) (omega arith) in omega arith

pub returns : goal.returns
returns t c = leading_last (leading t (goal.at.returns t c).Joined-n-ge10) c.put.ensures
