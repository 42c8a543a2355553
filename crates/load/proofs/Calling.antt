-- What a class load comes to: 5, then 9, then the sheet.
use Prim.Native.Nat.{ℕ, ◌≤◌, ◌<◌}
use mathlib.Core.Path.{◌≡◌, sym, ap, ◌∙◌}
use mathlib.Core.Bool.{Bool, true, false}
use mathlib.Core.List.{List}
use lib.ListN.{length}
use Rattle.std.specs.Prelude.{Result, Ok}
use Rattle.model.specs.Encoder.{sheet_words}
use Rattle.model.specs.Call.{refusal, fits}
use Rattle.model.specs.Load.{class_load, loadable, load}
use Rattle.workspace.specs.Sort.{cleared_from}
use Rattle.hir.specs.declared.refusal.Refusal.{Refusal}
use Rattle.writing.specs.declared.Writer.{Writer}
use Rattle.writing.specs.Wrote.{Writes}
use Rattle.writing.specs.Outcome.{Filled}
use Rattle.writing.proofs.Ending.{filled_as, filled_long, room, too_long, filled_fitting}

outside : (seed n m size : ℕ) → loadable n m ≡ false → refusal 5 ≡ load seed n m size
unfolding load
outside seed n m size h = sym (rw h)

inside : (seed n m size : ℕ) → loadable n m ≡ true → fits size (sheet_words (class_load seed n m)) ≡ load seed n m size
unfolding load
inside seed n m size h = sym (rw h)

-- by the test of the arguments
pub called_loadable : (n m : ℕ) {test : Bool} → test ≡ loadable n m → test ≡ true → loadable n m ≡ true
called_loadable n m tested h = sym tested ∙ h

module _ (seed n m : ℕ) {test : Bool} (tested : test ≡ loadable n m) where
  module _ {a : List ℕ} {r : Result ℕ Refusal} {a' : List ℕ} where
    pub called_outside : test ≡ false → Filled (refusal 5) a r a' → Filled (load seed n m (length a)) a r a'
    called_outside h f = filled_as (outside seed n m (length a) (sym tested ∙ h)) f

  -- the sheet was written from the beginning of the output, as far as there is room
  module _ (h : test ≡ true) {a b : List ℕ} {o o' : Writer ℕ} (start : o.at ≡ 0) (items : o.buffer.now ≡ a) (w : Writes (sheet_words (class_load seed n m)) o o') (left : b ≡ o'.buffer.now) where
    asked : fits (length o.buffer.now) (sheet_words (class_load seed n m)) ≡ load seed n m (length a)
    asked = inside seed n m (length o.buffer.now) (called_loadable n m tested h) ∙ ap (λ (l : List ℕ). load seed n m (length l)) items

    same_length : length b ≡ length a
    same_length = ap length left ∙ room w start ∙ ap length items

    pub called_short : {r : Result ℕ Refusal} {a' : List ℕ} → length b < o'.at → Filled (refusal 9) b r a' → Filled (load seed n m (length a)) a r a'
    called_short s f = filled_as (too_long w start (rw (sym left) s) ∙ asked) (filled_long same_length f)

    pub called_filled : {a' : List ℕ} → o'.at ≤ length b → a' ≡ cleared_from o'.at b → Filled (load seed n m (length a)) a (Ok o'.at) a'
    called_filled s e =
        filled_as asked (filled_long (ap length items) (filled_fitting w start (rw (sym left) s) (e ∙ ap (cleared_from o'.at) left)))
