-- What a verdict says of the sheet: an accepted one is a sheet of which this is told, from which a second pass starts.
use Prim.Native.Nat.{ℕ}
use mathlib.Core.Path.{◌≡◌, ◌∙◌, refl, sym, ap}
use mathlib.Core.Bool.{Bool, true, false, false≢true}
use mathlib.Core.List.{List}
use Rattle.model.specs.Sheet.{Sheet}
use Rattle.model.specs.Reading.{Result, got, refused}
use Rattle.model.specs.Call.{read, IsSheet}
use Rattle.reading.specs.Judging.{Told}
use Rattle.reading.specs.Whole.{told, Judgement, refusal, acceptance, judgement_of}

abbrev is_acceptance : Judgement → Bool
is_acceptance (refusal k) = false
is_acceptance (acceptance t) = true

abbrev or_told : Told → Judgement → Told
or_told t (refusal k) = t
or_told t (acceptance u) = u

abbrev or_number : ℕ → Judgement → ℕ
or_number k (refusal n) = n
or_number k (acceptance t) = k

-- the sheet behind an acceptance
pub record AcceptedSheet (ws : List ℕ) (t : Told) : Type 0 where
  pub sheet : Sheet
  pub is : IsSheet ws sheet
  pub told : told sheet ≡ t

pub accepted_sheet : (ws : List ℕ) (t : Told) → judgement_of (read ws) ≡ acceptance t → AcceptedSheet ws t
accepted_sheet ws t q = go (read ws) refl q
  where
    go : (x : Result Sheet) → read ws ≡ x → judgement_of x ≡ acceptance t → AcceptedSheet ws t
    go (got s c) e y = record { sheet = s; is = (c, e); told = ap (or_told t) y }
    go (refused k) e y = absurd (false≢true (ap is_acceptance y))

-- what is told of it
pub accepted_told : (ws : List ℕ) (t : Told) → judgement_of (read ws) ≡ acceptance t → (s : Sheet) → IsSheet ws s → told s ≡ t
accepted_told ws t q s is = ap (or_told t) (ap judgement_of (sym is.1) ∙ q)

pub refused_sheet : (ws : List ℕ) (k : ℕ) → judgement_of (read ws) ≡ refusal k → read ws ≡ refused k
refused_sheet ws k q = go (read ws) refl q
  where
    go : (x : Result Sheet) → read ws ≡ x → judgement_of x ≡ refusal k → read ws ≡ refused k
    go (got s c) e y = absurd (false≢true (ap is_acceptance (sym y)))
    go (refused n) e y = let z : n ≡ k = ap (or_number k) y in rw z at e
