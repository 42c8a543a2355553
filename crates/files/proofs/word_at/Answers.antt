use Rattle.model.proofs.FileWords.{file_word_lem}
use Rattle.files.proofs.word_at.Goals as goal

pub returns : goal.returns
returns c =
    cc (file_word_lem c.args.bytes.now c.args.i)
