-- A loop that writes what each of `count` elements gives, by facts that the words hold and the code does not see.
use Prim.Native.Nat.{ℕ, suc, ◌+◌, ◌-◌, ◌*◌, ◌≤◌, ◌<◌}
use native.Mathlib.Omega.{arith}
use native.Mathlib.Nat.{mul-suc}
use mathlib.Core.Path.{◌≡◌, ap}
use mathlib.Core.List.{List}
use lib.ListN.{drop}
use Rattle.model.specs.Lists.{gather}
use Rattle.workspace.specs.Graph.{tab}
use Rattle.writing.specs.declared.Writer.{Writer}
use Rattle.writing.specs.Wrote.{Writes}
use Rattle.copies.proofs.Loops.{Leaves, table_turn, table_end}

-- for each t of which P holds, what is left from element i on; an element gives at most `most` words
module _ {T A : Type 0} (P : T → Type 0) (w : T → A → List ℕ) (most count : ℕ) (f : ℕ → A) where
  pub record Telling (o₀ : Writer ℕ) (i : ℕ) (o : Writer ℕ) : Type 0 where
    pub leaves : (t : T) → P t → Leaves (gather (w t) (tab count f)) (gather (w t) (drop i (tab count f))) o₀ o
    pub few : o.at + most * (count - i) ≤ o₀.at + most * count

  module _ {o₀ : Writer ℕ} {i : ℕ} {o : Writer ℕ} (v : Telling o₀ i o) where
    pub telling_turn : {o' : Writer ℕ} → i < count → ((t : T) → P t → Writes (w t (f i)) o o') → o'.at ≤ o.at + most → Telling o₀ (i + 1) o'
    telling_turn z c b =
        let n : count - i ≡ suc (count - (i + 1)) = omega (arith, z) in
        let e : most * (count - i) ≡ most * suc (count - (i + 1)) = ap (λ (k : ℕ). most * k) n in
        record {
          leaves = λ t h. table_turn (w t) count f i (v.leaves t h) z (c t h);
          few = omega (arith, v.few, b, e, mul-suc most (count - (i + 1)));
        }

    pub telling_end : count ≤ i → (t : T) → P t → Writes (gather (w t) (tab count f)) o₀ o
    telling_end z t h = table_end (w t) count f i (v.leaves t h) z
