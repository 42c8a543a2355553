-- The loop that copies the words from `from` up to `till` to words behind them.
use Prim.Native.Nat.{ℕ, suc, ◌+◌, ◌≤◌, ◌<◌}
use native.Mathlib.Omega.{arith}
use native.Mathlib.Nat.{add-zero}
use mathlib.Core.Path.{◌≡◌, refl, sym, ap, ◌∙◌}
use mathlib.Core.List.{List, ◌∷◌}
use lib.ListN.{length, get_or, set, take, length-set}
use lib.Seq.{sets, slice, take-set-le}
use Rattle.workspace.proofs.Parts.{take-word}
use Rattle.copies.proofs.Loops.{slice_next, slice_none}

module _ (from till to : ℕ) (ws₀ : List ℕ) where
  -- what is left to copy from word x on makes what was to be copied
  pub record WordsLeft (ws : List ℕ) (x : ℕ) : Type 0 where
    pub words : sets ws (to + x) (slice (from + x) till ws₀) ≡ sets ws₀ to (slice from till ws₀)
    pub low : take till ws ≡ take till ws₀
    pub same : length ws ≡ length ws₀

  pub words-start : WordsLeft ws₀ 0
  words-start = record {
    words = ap (λ (i : ℕ). sets ws₀ i (slice (from + 0) till ws₀)) (add-zero to) ∙ ap (λ (i : ℕ). sets ws₀ to (slice i till ws₀)) (add-zero from);
    low = refl;
    same = refl;
  }

  module _ {ws : List ℕ} {x : ℕ} (v : WordsLeft ws x) where
    pub words_turn : till ≤ to → till ≤ length ws₀ → from + x < till → WordsLeft (set ws (to + x) (get_or ws (from + x) 0)) (x + 1)
    words_turn b l h =
        let w : ℕ = get_or ws (from + x) 0 in
        let p : to + (x + 1) ≡ suc (to + x) = omega arith in
        let q : from + (x + 1) ≡ from + x + 1 = omega arith in
        record {
          words =
              ap (λ (i : ℕ). sets (set ws (to + x) w) i (slice (from + (x + 1)) till ws₀)) p
              ∙ ap (λ (i : ℕ). sets ws (to + x) (w ∷ slice i till ws₀)) q
              ∙ ap (λ (u : ℕ). sets ws (to + x) (u ∷ slice (from + x + 1) till ws₀)) (take-word till (from + x) ws₀ ws h v.low)
              ∙ ap (sets ws (to + x)) (sym (slice_next (from + x) till ws₀ h l)) ∙ v.words;
          low = take-set-le till ws (to + x) w (omega (arith, b)) ∙ v.low;
          same = length-set ws (to + x) w ∙ v.same;
        }

    pub words_end : till ≤ from + x → ws ≡ sets ws₀ to (slice from till ws₀)
    words_end h = ap (sets ws (to + x)) (sym (slice_none (from + x) till ws₀ h)) ∙ v.words
