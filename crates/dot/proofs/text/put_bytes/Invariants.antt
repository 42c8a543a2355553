use lib.ListN.{drop}
use Rattle.copies.proofs.Loops.{Leaves}
use Rattle.dot.proofs.text.put_bytes.Given as goal

abbrev pub invariant-loop-byte : goal.invariant-loop-byte
invariant-loop-byte l = Leaves l.bytes (drop l.byte-index l.bytes) l.initial.text l.text
