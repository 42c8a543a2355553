use mathlib.Core.Path.{refl}
use borrow.Author.Tests.{lt-ltb, le-ltb}
use Rattle.writing.proofs.Writing.{wrote_none}
use Rattle.aliasing.specs.Accepts.{function_w}
use Rattle.aliasing.proofs.hand_over_function.Goals as goal

pub returns-then-v-lt-FUNCTION : goal.returns-then-v-lt-FUNCTION
unfolding function_w
returns-then-v-lt-FUNCTION c = simp (lt-ltb _ 3 c.if-v-lt-FUNCTION.true) (wrote_none _ _)

pub returns : goal.returns
unfolding function_w
returns c = simp (le-ltb _ 3 c.if-v-lt-FUNCTION.false) (record { words = refl; next = refl })
