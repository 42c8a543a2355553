-- The sheet of a class load from its parts, and the room for each.
use Prim.Native.Nat.{ℕ, ◌+◌, ◌≤◌}
use native.Mathlib.Omega.{arith}
use mathlib.Core.Path.{◌≡◌, refl, sym, ap}
use mathlib.Core.Bool.{true}
use mathlib.Core.List.{List, [], ◌∷◌, ◌++◌, append-nil}
use lib.ListN.{length, replicate, length-append}
use Rattle.model.specs.Sheet.{Other}
use Rattle.model.specs.Answer.{section}
use Rattle.model.specs.Encoder.{flags_words, identifier_words, instruction_words, terminal_words, block_words, sheet_words}
use Rattle.model.specs.Load.{load_flags, load_identifier, load_instructions, load_block, class_load, loadable}
use Rattle.model.proofs.LoadAccepted.{load_bounds, load-length}
use Rattle.writing.specs.Wrote.{farthest}
use Rattle.load.specs.Parts.{params_words, returns_words}

-- ---- the block
module _ (seed n m : ℕ) where
  abbrev instructions : List ℕ
  instructions = section instruction_words (load_instructions n 1 m seed)

  abbrev terminal : List ℕ
  terminal = terminal_words (Other (m + 1) [])

  -- one block, number 0, no phis
  pub blocks_parts : 1 ∷ 0 ∷ 0 ∷ (instructions ++ terminal) ≡ section block_words (load_block seed n m ∷ [])
  blocks_parts = ap (λ (l : List ℕ). 1 ∷ 0 ∷ 0 ∷ l) (sym (append-nil (instructions ++ terminal)))

-- ---- the sheet
module _ (seed n m : ℕ) where
  abbrev identifiers : List ℕ
  identifiers = section identifier_words (replicate n load_identifier)

  abbrev blocks : List ℕ
  blocks = section block_words (load_block seed n m ∷ [])

  pub sheet_parts : flags_words load_flags ++ (identifiers ++ (params_words ++ (returns_words n ++ blocks))) ≡ sheet_words (class_load seed n m)
  unfolding sheet_words class_load
  sheet_parts = refl

  pub sheet_room : loadable n m ≡ true → length (flags_words load_flags) + (length identifiers + (length params_words + (length (returns_words n) + length blocks))) ≤ farthest
  sheet_room h =
      let b = load_bounds n m h in
      omega (
        arith,
        load-length seed n m b,
        b.identifiers,
        b.effects,
        ap (λ (l : List ℕ). length l) sheet_parts,
        length-append identifiers (params_words ++ (returns_words n ++ blocks)),
      )
