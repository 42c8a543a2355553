-- A loop that writes parts, each of so many bytes at most.
use Prim.Native.Nat.{ℕ, ◌+◌, ◌*◌, ◌≤◌, ◌<◌}
use native.Mathlib.Omega.{arith}
use native.Mathlib.Nat.{add-mul, mul-le-mul_right}
use native.Mathlib.Numerals.{add-one}
use mathlib.Core.Path.{◌≡◌, sym, ap, ◌∙◌}
use mathlib.Core.List.{List, [], ◌∷◌, ◌++◌}
use lib.ListN.{length, get_or, drop, drop_of_length-le}
use lib.Seq.{drop-cons}
use Rattle.model.specs.Limits.{most_relations}
use Rattle.model.specs.Dot.{edge_line}
use Rattle.workspace.specs.Graph.{edge_row}
use Rattle.writing.specs.declared.Writer.{Writer}
use Rattle.copies.proofs.Loops.{Leaves, leaves_then, leaves_none}
use Rattle.dot.specs.Lines.{most_line, most_row, row_text, Put}
use Rattle.dot.proofs.Lengths.{put_as}

-- after k parts
pub record Listing (most : ℕ) (whole rest : List ℕ) (o₀ : Writer ℕ) (k : ℕ) (o : Writer ℕ) : Type 0 where
  pub leaves : Leaves whole rest o₀ o
  pub few : o.at ≤ o₀.at + k * most

module _ {most : ℕ} {whole rest : List ℕ} {o₀ : Writer ℕ} {k : ℕ} {o : Writer ℕ} (l : Listing most whole rest o₀ k o) where
  -- one part more
  pub listing_turn : {us rest' : List ℕ} {o' : Writer ℕ} → Put us most o o' → rest ≡ us ++ rest' → Listing most whole rest' o₀ (k + 1) o'
  listing_turn p e = record { leaves = leaves_then l.leaves p.wrote e; few = omega (arith, l.few, p.few, add-mul k 1 most) }

  -- all n
  pub listing_end : (n : ℕ) → k ≤ n → rest ≡ [] → Put whole (n * most) o₀ o
  listing_end n h e = record { wrote = leaves_none l.leaves e; few = omega (arith, l.few, mul-le-mul_right {m = k} {n = n} most h) }

-- ---- the edges of a row: those from i on are left
drop_next : (l : List ℕ) (i : ℕ) → i < length l → drop i l ≡ get_or l i 0 ∷ drop (i + 1) l
drop_next l i h = drop-cons l i 0 h ∙ ap (λ (j : ℕ). get_or l i 0 ∷ drop j l) (sym (add-one i))

row_next : (x i : ℕ) (ws : List ℕ) → i < length ws → row_text x (drop i ws) ≡ edge_line x (edge_row (get_or ws i 0)) ++ row_text x (drop (i + 1) ws)
unfolding row_text
row_next x i ws h = ap (row_text x) (drop_next ws i h)

row_none : (x i : ℕ) (ws : List ℕ) → length ws ≤ i → row_text x (drop i ws) ≡ []
unfolding row_text
row_none x i ws h = ap (row_text x) (drop_of_length-le ws {i = i} h)

abbrev pub Rowing : ℕ → List ℕ → Writer ℕ → ℕ → Writer ℕ → Type 0
Rowing x ws o₀ i o = Listing most_line (row_text x ws) (row_text x (drop i ws)) o₀ i o

module _ (x : ℕ) (ws : List ℕ) {o₀ : Writer ℕ} (i : ℕ) {o : Writer ℕ} (r : Rowing x ws o₀ i o) (few : length ws ≤ most_relations) where
  pub row_turn : {o' : Writer ℕ} → i < length ws → Put (edge_line x (edge_row (get_or ws i 0))) most_line o o' → Rowing x ws o₀ (i + 1) o'
  row_turn h p = listing_turn r p (row_next x i ws h)

  pub row_end : length ws ≤ i → i ≤ length ws → Put (row_text x ws) most_row o₀ o
  row_end h k = listing_end r most_relations (omega (arith, k, few)) (row_none x i ws h)

-- ---- identifier by identifier: what is said of those from x on is left
module _ {most : ℕ} (from : ℕ → List ℕ) {o₀ : Writer ℕ} {x : ℕ} {o : Writer ℕ} (s : Listing most (from 0) (from x) o₀ x o) where
  pub say_turn : {us : List ℕ} {o' : Writer ℕ} → Put us most o o' → from x ≡ us ++ from (x + 1) → Listing most (from 0) (from (x + 1)) o₀ (x + 1) o'
  say_turn p e = listing_turn s p e

  pub say_end : {whole : List ℕ} (n : ℕ) → x ≤ n → from x ≡ [] → from 0 ≡ whole → Put whole (n * most) o₀ o
  say_end n h e w = put_as (listing_end s n h e) w
