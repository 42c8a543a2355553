-- A loop that writes: what is left to write from here makes what was to be written from the start.
use Prim.Native.Nat.{ℕ, ◌+◌, ◌≤◌, ◌<◌}
use native.Mathlib.Omega.{arith}
use native.Mathlib.Numerals.{add-one}
use mathlib.Core.Path.{◌≡◌, refl, sym, ap, ◌∙◌}
use mathlib.Core.List.{List, [], ◌∷◌, ◌++◌}
use lib.ListN.{length, get_or, take, drop, length-append, length-take, drop_of_length-le}
use lib.Seq.{sets, slice, slice-cons}
use Rattle.model.specs.Lists.{gather}
use Rattle.workspace.specs.Graph.{tab}
use Rattle.workspace.proofs.Parts.{sets_append}
use Rattle.workspace.proofs.Tables.{tab-drop, tab_end}
use Rattle.writing.specs.declared.Writer.{Writer}
use Rattle.writing.specs.Wrote.{Writes}

-- `rest` is left of `whole`
pub record Leaves (whole rest : List ℕ) (o₀ o : Writer ℕ) : Type 0 where
  pub words : sets o.buffer.now o.at rest ≡ sets o₀.buffer.now o₀.at whole
  pub next : o.at + length rest ≡ o₀.at + length whole
  pub same : o.buffer.ghost_name ≡ o₀.buffer.ghost_name

-- nothing was written yet
pub leaves_all : (whole : List ℕ) (o : Writer ℕ) → Leaves whole whole o o
leaves_all whole o = record { words = refl; next = refl; same = refl }

-- us were written
pub leaves_then : {whole rest us rest' : List ℕ} {o₀ o o' : Writer ℕ} → Leaves whole rest o₀ o → Writes us o o' → rest ≡ us ++ rest' → Leaves whole rest' o₀ o'
leaves_then {whole} {rest} {us} {rest'} {o₀} {o} {o'} h k e = record {
  words = ap (λ (l : List ℕ). sets l o'.at rest') k.wrote.words ∙ ap (λ (i : ℕ). sets (sets o.buffer.now o.at us) i rest') k.wrote.next
      ∙ sets_append us rest' o.buffer.now o.at ∙ ap (sets o.buffer.now o.at) (sym e) ∙ h.words;
  next = omega (arith, h.next, k.wrote.next, ap (λ (l : List ℕ). length l) e, length-append us rest');
  same = k.same ∙ h.same;
}

-- all were written
pub leaves_none : {whole rest : List ℕ} {o₀ o : Writer ℕ} → Leaves whole rest o₀ o → rest ≡ [] → Writes whole o₀ o
leaves_none {whole} {rest} {o₀} {o} h e = record {
  wrote = record {
    words = sym (ap (sets o.buffer.now o.at) e) ∙ h.words;
    next = omega (arith, h.next, ap (λ (l : List ℕ). length l) e);
  };
  same = h.same;
}

-- the elements of a table, one after another
module _ {A : Type 0} (w : A → List ℕ) (n : ℕ) (f : ℕ → A) where
  pub table_turn : {whole : List ℕ} {o₀ o o' : Writer ℕ} (i : ℕ) → Leaves whole (gather w (drop i (tab n f))) o₀ o → i < n
      → Writes (w (f i)) o o' → Leaves whole (gather w (drop (i + 1) (tab n f))) o₀ o'
  table_turn i h k v = leaves_then h v (ap (gather w) (tab-drop n f i k))

  pub table_end : {whole : List ℕ} {o₀ o : Writer ℕ} (i : ℕ) → Leaves whole (gather w (drop i (tab n f))) o₀ o → n ≤ i → Writes whole o₀ o
  table_end i h k = leaves_none h (ap (gather w) (tab_end n f i k))

-- ---- the words of a slice, one after another
pub slice_next : (i t : ℕ) (ws : List ℕ) → i < t → t ≤ length ws → slice i t ws ≡ get_or ws i 0 ∷ slice (i + 1) t ws
slice_next i t ws h k = slice-cons i t ws 0 h k ∙ ap (λ (j : ℕ). get_or ws i 0 ∷ slice j t ws) (sym (add-one i))

pub slice_none : (i t : ℕ) (ws : List ℕ) → t ≤ i → slice i t ws ≡ []
slice_none i t ws h = let n : length (take t ws) ≤ i = omega (arith, h, length-take t ws) in drop_of_length-le (take t ws) {i = i} n
