-- What is pushed is no more than the rows hold.
use Prim.Native.Nat.{ℕ, suc, ◌+◌, ◌-◌, ◌*◌, ◌/◌, ◌%◌, ◌≤◌, ◌<◌}
use native.Mathlib.Omega.{arith}
use mathlib.Core.Bool.{Bool, true, false}
use mathlib.Core.List.{List, [], ◌∷◌, ◌++◌}
use mathlib.Core.Path.{◌≡◌, ap, ◌∙◌}
use lib.ListN.{length, length-append}
use lib.Seq.{length-slice}
use lib.Dec.{ltb, eqb}
use Rattle.model.specs.Limits.{most_identifiers}
use Rattle.model.specs.Lists.{pick}
use Rattle.workspace.specs.Layout.{VALUE, QUEUE}
use Rattle.workspace.specs.Rows.{fedges, bentries, most_lists, value, fb, bb, row_f, row_b, Good}
use Rattle.aliasing.specs.Pushes.{forward_w, entries_w, forward_e, entry_w, words_f, words_b, deg, aliases_w, captures_w, pushed_w, blocked_w}

pub forward_le : (index transitive kind : ℕ) (row : List ℕ) → length (forward_w index transitive kind row) ≤ length row
unfolding forward_w
forward_le index transitive kind [] = omega arith
forward_le index transitive kind (w ∷ row) = go (ltb (w / 2048) index) (forward_le index transitive kind row)
  where
    go : (b : Bool) → length (forward_w index transitive kind row) ≤ length row → length (pick b (forward_e transitive kind w ∷ forward_w index transitive kind row) []) ≤ suc (length row)
    go true h = omega arith
    go false h = omega arith

pub entries_le : (index transitive kind : ℕ) (row : List ℕ) → length (entries_w index transitive kind row) ≤ length row
unfolding entries_w
entries_le index transitive kind [] = omega arith
entries_le index transitive kind (w ∷ row) = go (ltb (w / 2048) index) (entries_le index transitive kind row)
  where
    go : (b : Bool) → length (entries_w index transitive kind row) ≤ length row → length (pick b (entry_w (w % 512) transitive 0 kind ∷ entries_w index transitive kind row) (entries_w index transitive kind row)) ≤ suc (length row)
    go true h = omega arith
    go false h = omega arith

pick_le : {A : Type 0} (b : Bool) (xs ys : List A) (n : ℕ) → length xs ≤ n → length ys ≤ n → length (pick b xs ys) ≤ n
pick_le true xs ys n h k = h
pick_le false xs ys n h k = k

-- what x can push, rule by rule
pub deg_is : (g : List ℕ) (x : ℕ) → Good g → x < most_identifiers → deg g x ≡ (words_f g x + words_b g (4 * x)) + ((words_b g (4 * x + 1) + words_b g (4 * x + 2)) + words_b g (4 * x + 3))
deg_is g x good h =
    let up₀ = good.b_up (4 * x) (omega arith) in
    let up₁ = good.b_up (4 * x + 1) (omega arith) in
    let up₂ = good.b_up (4 * x + 2) (omega arith) in
    let up₃ = good.b_up (4 * x + 3) (omega arith) in
    let e₁ : bb g (4 * x + 1 + 1) ≡ bb g (4 * x + 2) = ap (bb g) (omega arith) in
    let e₂ : bb g (4 * x + 2 + 1) ≡ bb g (4 * x + 3) = ap (bb g) (omega arith) in
    let e₃ : bb g (4 * x + 3 + 1) ≡ bb g (4 * x + 4) = ap (bb g) (omega arith) in
    omega arith

module _ (g : List ℕ) (size : length g ≡ QUEUE - VALUE) (good : Good g) where
  pub row_f-length : (x : ℕ) → x < most_identifiers → length (row_f g x) ≡ fb g (x + 1) - fb g x
  unfolding row_f
  row_f-length x h = length-slice (fedges + fb g x) (fedges + fb g (x + 1)) g (omega (arith, good.f_top (x + 1) (omega arith))) ∙ omega arith

  pub row_b-length : (k : ℕ) → k < most_lists → length (row_b g k) ≡ bb g (k + 1) - bb g k
  unfolding row_b
  row_b-length k h = length-slice (bentries + bb g k) (bentries + bb g (k + 1)) g (omega (arith, good.b_top (k + 1) (omega arith))) ∙ omega arith

  pub list_le : (index transitive kind k : ℕ) → k < most_lists → length (entries_w index transitive kind (row_b g k)) ≤ bb g (k + 1) - bb g k
  list_le index transitive kind k h = omega (arith, entries_le index transitive kind (row_b g k), row_b-length k h)

  pub aliases_le : (x direction index transitive kind : ℕ) → x < most_identifiers → length (aliases_w g x direction index transitive kind) ≤ (bb g (4 * x + 1 + 1) - bb g (4 * x + 1)) + (bb g (4 * x + 2 + 1) - bb g (4 * x + 2))
  unfolding aliases_w
  aliases_le x direction index transitive kind h =
      pick_le (blocked_w (value g x) direction) [] _ _ (omega arith)
      (omega (
        arith,
        length-append (entries_w index transitive kind (row_b g (4 * x + 1))) (entries_w index transitive 0 (row_b g (4 * x + 2))),
        list_le index transitive kind (4 * x + 1) (omega arith),
        list_le index transitive 0 (4 * x + 2) (omega arith),
      ))

  pub captures_le : (x index transitive kind : ℕ) → x < most_identifiers → length (captures_w g x index transitive kind) ≤ bb g (4 * x + 3 + 1) - bb g (4 * x + 3)
  unfolding captures_w
  captures_le x index transitive kind h = pick_le (eqb transitive 1) _ [] _ (list_le index transitive kind (4 * x + 3) (omega arith)) (omega arith)

  pub pushed_le : (x direction index transitive kind : ℕ) → x < most_identifiers → length (pushed_w g x direction index transitive kind) ≤ deg g x
  unfolding pushed_w
  pushed_le x direction index transitive kind h =
      let F : List ℕ = forward_w index transitive kind (row_f g x) in
      let C : List ℕ = entries_w index 1 kind (row_b g (4 * x)) in
      let A : List ℕ = aliases_w g x direction index transitive kind in
      let K : List ℕ = captures_w g x index transitive kind in
      omega (
        arith,
        deg_is g x good h,
        length-append F (C ++ (A ++ K)),
        length-append C (A ++ K),
        length-append A K,
        forward_le index transitive kind (row_f g x),
        row_f-length x h,
        list_le index 1 kind (4 * x) (omega arith),
        aliases_le x direction index transitive kind h,
        captures_le x index transitive kind h,
      )
