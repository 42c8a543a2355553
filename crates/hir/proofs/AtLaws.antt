-- The parts that the second reading gives, put together.
use Prim.Native.Nat.{ℕ, ◌+◌}
use native.Mathlib.Omega.{arith}
use mathlib.Core.Path.{◌≡◌, refl, sym, ap, subst, ◌∙◌}
use mathlib.Core.List.{List}
use Rattle.model.specs.Sheet.{BlockId, Place, Operand}
use Rattle.model.specs.Effects.{kind_of}
use Rattle.model.specs.Reading.{Position}
use Rattle.hir.specs.Table.{TableRow, table_row, OwnRow}
use Rattle.hir.specs.Words.{word_at, place_of, place_at, operand_at}

-- a place whose words stand at j, k and l
place-words : (ws : List ℕ) (i j k : Position) → i + 1 ≡ j → i + 2 ≡ k → place_at ws i ≡ place_of (word_at ws i) (word_at ws j) (word_at ws k)
place-words ws i j k a b = ap (λ (x : ℕ). place_of (word_at ws i) (word_at ws x) (word_at ws (i + 2))) a ∙ ap (λ (x : ℕ). place_of (word_at ws i) (word_at ws j) (word_at ws x)) b

-- the kind of the table's row
pub row_kind : (k : ℕ) {r : TableRow} → r ≡ table_row k → r.kind ≡ kind_of k
unfolding table_row
row_kind k e = ap (λ (r : TableRow). r.kind) e

-- and the row is its kind's own
pub own_row : (k : ℕ) {r : TableRow} → r ≡ table_row k → OwnRow r
unfolding table_row
own_row k e = subst OwnRow (sym e) (record { places = refl; instance = refl; extra = refl })

abbrev operand_by : BlockId → Place → Operand
operand_by b p = record { predecessor = b; place = p }

-- an operand by its place
pub operand_made : (ws : List ℕ) (c : Position) {p : Place} → p ≡ place_at ws (c + 1) → operand_by (word_at ws c) p ≡ operand_at ws c
operand_made ws c a = ap (λ (z : Place). operand_by (word_at ws c) z) (a ∙ place-words ws (c + 1) (c + 2) (c + 3) (omega arith) (omega arith))
