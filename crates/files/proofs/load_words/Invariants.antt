use Prim.Native.Nat.{◌≤◌}
use mathlib.Core.Path.{◌≡◌}
use mathlib.Core.List.{◌++◌}
use lib.ListN.{length, take, drop}
use Rattle.model.specs.Files.{file_words}
use Rattle.files.proofs.load_words.Given as goal

abbrev pub invariant-loop-i : goal.invariant-loop-i
invariant-loop-i l = (l.i ≤ l.count) × (length l.words ≡ length l.initial.words) × (l.words ≡ take l.i (file_words l.bytes) ++ drop l.i l.initial.words)
