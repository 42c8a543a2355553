-- The potential of a walk falls where a node is accepted, by as much as the node can push.
use Prim.Native.Nat.{ℕ, zero, suc, ◌+◌, ◌*◌, ◌≤◌, ◌<◌}
use native.Mathlib.Omega.{arith}
use native.Mathlib.Decide.{dec_lt}
use mathlib.Core.List.{List}
use mathlib.Core.Path.{◌≡◌, refl, ap, ◌∙◌}
use lib.ListN.{length, get_or, set}
use lib.Seq.{get_or-set_same, get_or-set_other}
use Rattle.model.specs.Limits.{most_identifiers}
use Rattle.workspace.specs.Rows.{fb, bb, Good}
use Rattle.aliasing.specs.Pushes.{deg}
use Rattle.aliasing.specs.Potential.{left, phi}

left_falls : (s k d : ℕ) → s < k → k ≤ 2 → left k d + d ≤ left s d
left_falls zero zero d h q = omega arith
left_falls zero (suc zero) d h q = omega arith
left_falls zero (suc (suc k)) d h q = omega arith
left_falls (suc s) zero d h q = absurd (omega arith)
left_falls (suc s) (suc zero) d h q = absurd (omega arith)
left_falls (suc zero) (suc (suc k)) d h q = omega arith
left_falls (suc (suc s)) (suc (suc k)) d h q = absurd (omega arith)

left_top : (s d : ℕ) → left s d ≤ d + d
left_top zero d = omega arith
left_top (suc zero) d = omega arith
left_top (suc (suc s)) d = omega arith

-- a write at x does not change what stands below n, for n at most x
pub phi-other : (seen g : List ℕ) (x k n : ℕ) → n ≤ x → phi (set seen x k) g n ≡ phi seen g n
unfolding phi
phi-other seen g x k zero h = refl
phi-other seen g x k (suc n) h =
    ap (λ (w : ℕ). left w (deg g n) + phi (set seen x k) g n) (get_or-set_other seen x n k 0 (omega arith))
    ∙ ap (λ (w : ℕ). left (get_or seen n 0) (deg g n) + w) (phi-other seen g x k n (omega arith))

pub phi_falls : (seen g : List ℕ) (x k n : ℕ) → x < n → x < length seen → get_or seen x 0 < k → k ≤ 2 → phi (set seen x k) g n + deg g x ≤ phi seen g n
unfolding phi
phi_falls seen g x k zero h l s q = absurd (omega arith)
phi_falls seen g x k (suc n) h l s q = go (dec_lt x n) (λ d. phi_falls seen g x k n d l s q)
  where
    here : n ≡ x → left (get_or (set seen x k) n 0) (deg g n) + phi (set seen x k) g n + deg g x ≤ left (get_or seen n 0) (deg g n) + phi seen g n
    here e =
        let a : left (get_or (set seen x k) n 0) (deg g n) ≡ left k (deg g x) =
        ap (λ (w : ℕ). left (get_or (set seen x k) w 0) (deg g w)) e ∙ ap (λ (w : ℕ). left w (deg g x)) (get_or-set_same seen x k 0 l) in
        let b : left (get_or seen n 0) (deg g n) ≡ left (get_or seen x 0) (deg g x) = ap (λ (w : ℕ). left (get_or seen w 0) (deg g w)) e in
        omega (arith, left_falls (get_or seen x 0) k (deg g x) s q, phi-other seen g x k n (omega arith))

    go : Dec (x < n) → (x < n → phi (set seen x k) g n + deg g x ≤ phi seen g n) → left (get_or (set seen x k) n 0) (deg g n) + phi (set seen x k) g n + deg g x ≤ left (get_or seen n 0) (deg g n) + phi seen g n
    go (yes d) ih = omega (arith, ih d, ap (λ (w : ℕ). left w (deg g n)) (get_or-set_other seen x n k 0 (omega arith)))
    go (no d) ih = here (omega arith)

-- ---- the potential at the start: at most twice the relations
pub phi_top : (seen g : List ℕ) → Good g → (n : ℕ) → n ≤ most_identifiers → phi seen g n ≤ 2 * (fb g n + bb g (4 * n))
unfolding phi
phi_top seen g good zero h = omega arith
phi_top seen g good (suc n) h =
    let up₀ = good.b_up (4 * n) (omega arith) in
    let up₁ = good.b_up (4 * n + 1) (omega arith) in
    let up₂ = good.b_up (4 * n + 2) (omega arith) in
    let up₃ = good.b_up (4 * n + 3) (omega arith) in
    let e₁ : bb g (4 * n + 1 + 1) ≡ bb g (4 * n + 2) = ap (bb g) (omega arith) in
    let e₂ : bb g (4 * n + 2 + 1) ≡ bb g (4 * n + 3) = ap (bb g) (omega arith) in
    let e₃ : bb g (4 * n + 3 + 1) ≡ bb g (4 * n + 4) = ap (bb g) (omega arith) in
    let e₄ : bb g (4 * suc n) ≡ bb g (4 * n + 4) = ap (bb g) (omega arith) in
    let e₅ : fb g (suc n) ≡ fb g (n + 1) = ap (fb g) (omega arith) in
    omega (arith, left_top (get_or seen n 0) (deg g n), good.f_up n (omega arith), phi_top seen g good n (omega arith))

pub phi_bound : (seen g : List ℕ) → Good g → phi seen g most_identifiers ≤ 4096
phi_bound seen g good = omega (arith, phi_top seen g good most_identifiers (omega arith), good.f_top most_identifiers (omega arith), good.b_top (4 * most_identifiers) (omega arith))
