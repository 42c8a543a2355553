use native.Mathlib.Omega.{arith}
use Rattle.model.proofs.FileWords.{file_length}
use Rattle.files.proofs.words_in.Goals as goal

pub returns : goal.returns
returns c = omega (arith, file_length c.args.bytes.now)
