use native.Mathlib.Omega.{arith}
use mathlib.Core.Path.{◌≡◌, refl}
use lib.ListN.{length-set}
use Rattle.model.proofs.FileWords.{file_length}
use Rattle.io.proofs.Counting.{prefix_len_of_le}
use Rattle.files.proofs.Loading.{load_one}
use Rattle.files.proofs.load_words.Goals as goal

pub loop-i-init : goal.loop-i-init
loop-i-init c = (omega arith, refl, refl)

pub word_at-requires : goal.word_at-requires
word_at-requires c =
    omega (arith, file_length c.args.bytes.now)

pub loop-i-preserved : goal.loop-i-preserved
loop-i-preserved c = (
  omega arith,
  simp length-set (omega arith),
  load_one _ _ _ _ _ (omega arith) (omega arith) c.loop-i.invariant.2 c.word_at.ensures,
)

pub returns : goal.returns
returns c =
    let e : c.loop-i.i ≡ c.min-count.result = omega arith
    in record { prefix_len = prefix_len_of_le _ _ (omega arith); loads = record { count = omega arith; loaded = rw e at c.loop-i.invariant.2 } }
