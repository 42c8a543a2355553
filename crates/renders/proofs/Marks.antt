-- The marks of a render walk, whom it passes by, and the room for the functions handed over.
use Prim.Native.Nat.{ℕ, zero, suc, ◌+◌, ◌-◌, ◌%◌, ◌≤◌, ◌<◌}
use native.Mathlib.Omega.{arith}
use mathlib.Core.Bool.{Bool, true, false, not, true≢false}
use mathlib.Core.List.{List, [], ◌∷◌, map}
use mathlib.Core.Logic.{◌⊎◌, inl, inr}
use mathlib.Core.Path.{◌≡◌, refl, ap, ◌∙◌}
use lib.ListN.{length, get_or, set, replicate, get_or-map}
use lib.Dec.{eqb, ltb}
use borrow.Author.Tests.{eq-eqb, ne_eqb}
use Rattle.model.specs.Limits.{most_identifiers}
use Rattle.model.specs.Lists.{pick, one_if}
use Rattle.model.specs.State.{no_record, has_record}
use Rattle.workspace.specs.Graph.{FUNCTION}
use Rattle.workspace.specs.Layout.{RECORD, LSPAN, TSPAN}
use Rattle.workspace.proofs.Tables.{tab_at}
use Rattle.aliasing.specs.State.{record_at, records_of}
use Rattle.aliasing.specs.Accepts.{function_w}
use Rattle.aliasing.proofs.Packed.{has_word}
use Rattle.renders.specs.Renders.{passes_w, taken, unseen}

-- ---- marks as truth values
pub mark_at : (l : List ℕ) (x : ℕ) → get_or (map taken l) x false ≡ taken (get_or l x 0)
mark_at l x = get_or-map taken l x 0

pub mark_set : (l : List ℕ) (x : ℕ) → map taken (set l x 1) ≡ set (map taken l) x true
mark_set [] x = refl
mark_set (w ∷ l) zero = refl
mark_set (w ∷ l) (suc x) = ap (λ (m : List Bool). taken w ∷ m) (mark_set l x)

pub mark_none : (n : ℕ) → map taken (replicate n 0) ≡ replicate n false
mark_none zero = refl
mark_none (suc n) = ap (λ (m : List Bool). false ∷ m) (mark_none n)

pub is_taken : (w : ℕ) → 0 < w → taken w ≡ true
is_taken w h = rw (ne_eqb w 0 (λ e. omega (arith, e)))

pub not_taken : (w : ℕ) → w ≤ 0 → taken w ≡ false
not_taken w h = let e : w ≡ 0 = omega arith in rw e

-- ---- whom it passes by
pub passes_true : (v w : ℕ) → passes_w v w ≡ true → (v ≡ 0) ⊎ (not (eqb (w % 16) 0) ≡ true)
passes_true zero w h = inl refl
passes_true (suc v) w h = inr (rw (ne_eqb (suc v) 0 (λ e. omega (arith, e))) at h)

pub passes_false : (v w : ℕ) → passes_w v w ≡ false → (v ≡ 0 → ⊥) × (not (eqb (w % 16) 0) ≡ false)
passes_false zero w h = absurd (true≢false h)
passes_false (suc v) w h = (λ e. omega (arith, e), rw (ne_eqb (suc v) 0 (λ e. omega (arith, e))) at h)

pub has_record_lem : (ns : List ℕ) (x : ℕ) → x < most_identifiers → has_record (get_or (records_of ns) x no_record) ≡ not (eqb (get_or ns (RECORD + x) 0 % 16) 0)
unfolding records_of record_at
has_record_lem ns x h = ap has_record (tab_at most_identifiers (record_at ns) x no_record h) ∙ has_word (get_or ns (RECORD + x) 0) (get_or ns (TSPAN + x) 0) (get_or ns (LSPAN + x) 0)

-- ---- room
pub unseen_top : (l : List ℕ) → unseen l ≤ length l
unfolding unseen
unseen_top [] = omega arith
unseen_top (w ∷ l) = go (eqb w 0) (unseen_top l)
  where
    go : (b : Bool) → unseen l ≤ length l → one_if b + unseen l ≤ suc (length l)
    go true h = omega arith
    go false h = omega arith

pub unseen_falls : (l : List ℕ) (x : ℕ) → x < length l → get_or l x 0 ≡ 0 → unseen (set l x 1) + 1 ≤ unseen l
unfolding unseen
unseen_falls [] x h e = absurd (omega arith)
unseen_falls (w ∷ l) zero h e = rw (eq-eqb w 0 e) (omega arith)
unseen_falls (w ∷ l) (suc x) h e = omega (arith, unseen_falls l x (omega arith) e)

pub function-one : (v : ℕ) → length (function_w v) ≤ 1
unfolding function_w
function-one v = go (ltb v FUNCTION)
  where
    go : (b : Bool) → length (pick b [] ((v - FUNCTION) ∷ [])) ≤ 1
    go true = omega arith
    go false = omega arith
