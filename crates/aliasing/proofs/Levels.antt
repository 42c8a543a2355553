-- The levels of a walk by the marks: those of earlier walks are none.
use Prim.Native.Nat.{ℕ, ◌+◌, ◌-◌, ◌≤◌, ◌<◌}
use native.Mathlib.Omega.{arith}
use native.Mathlib.Decide.{ℕ_discrete}
use mathlib.Core.List.{List}
use mathlib.Core.Path.{◌≡◌, sym, ap, ◌∙◌}
use lib.ListN.{length, get_or, set, replicate, length-replicate, get_or-replicate}
use lib.Seq.{get_or-set_same, get_or-set_other, ext_get_or}
use Rattle.model.specs.Limits.{most_identifiers}
use Rattle.workspace.specs.Layout.{LEAST, SEEN}
use Rattle.workspace.proofs.Tables.{tab-length, tab_at, tab-set}
use Rattle.aliasing.specs.State.{seen_of, levels, NoneAbove}
use Rattle.aliasing.proofs.Parts.{mark_seen, seen_length}

pub levels-length : (base : ℕ) (seen : List ℕ) → length (levels base seen) ≡ most_identifiers
unfolding levels
levels-length base seen = tab-length most_identifiers (λ (x : ℕ). get_or seen x 0 - base)

pub levels_at : (base : ℕ) (seen : List ℕ) (x : ℕ) → x < most_identifiers → get_or (levels base seen) x 0 ≡ get_or seen x 0 - base
unfolding levels
levels_at base seen x h = tab_at most_identifiers (λ (y : ℕ). get_or seen y 0 - base) x 0 h

-- a mark k above the base is level k
pub levels-set : (base : ℕ) (seen : List ℕ) (x v k : ℕ) → x < length seen → v ≡ base + k → levels base (set seen x v) ≡ set (levels base seen) x k
unfolding levels
levels-set base seen x v k h is =
    tab-set most_identifiers x (λ (y : ℕ). get_or seen y 0 - base) (λ (y : ℕ). get_or (set seen x v) y 0 - base) k (omega (arith, get_or-set_same seen x v 0 h, is))
    (λ y q other. ap (λ (w : ℕ). w - base) (get_or-set_other seen x y v 0 other))

-- marks no higher than the base are none
pub levels_none : (base : ℕ) (ws : List ℕ) → NoneAbove base ws → levels base (seen_of ws) ≡ replicate most_identifiers 0
levels_none base ws m =
    let l : List ℕ = levels base (seen_of ws) in
    let one : length l ≡ most_identifiers = levels-length base (seen_of ws) in
    ext_get_or 0 l (replicate most_identifiers 0) (one ∙ sym (length-replicate {A = ℕ} most_identifiers 0))
    (λ i h. let j : i < most_identifiers = omega (arith, h, one) in
    levels_at base (seen_of ws) i j ∙ omega (arith, m.marks i j) ∙ sym (get_or-replicate {A = ℕ} most_identifiers i 0 0 j))

-- the same marks, and a bound that is no lower
pub above_as : {most more : ℕ} {ws ws' : List ℕ} → seen_of ws' ≡ seen_of ws → most ≤ more → NoneAbove most ws → NoneAbove more ws'
above_as e q m = record { marks = λ x h. omega (arith, m.marks x h, ap (λ (l : List ℕ). get_or l x 0) e) }

pub above_set : {most more : ℕ} (ws : List ℕ) (x v : ℕ) → LEAST ≤ length ws → x < most_identifiers → v ≤ more → most ≤ more → NoneAbove most ws → NoneAbove more (set ws (SEEN + x) v)
above_set {most} {more} ws x v size h q up m = record { marks = λ y l. omega (arith, ap (λ (s : List ℕ). get_or s y 0) (mark_seen ws x v h), here y l (ℕ_discrete y x)) }
  where
    here : (y : ℕ) → y < most_identifiers → Dec (y ≡ x) → get_or (set (seen_of ws) x v) y 0 ≤ more
    here y l (yes e) = omega (arith, ap (λ (k : ℕ). get_or (set (seen_of ws) x v) k 0) e, get_or-set_same (seen_of ws) x v 0 (omega (arith, seen_length ws size)))
    here y l (no e) = omega (arith, get_or-set_other (seen_of ws) x y v 0 e, m.marks y l)
