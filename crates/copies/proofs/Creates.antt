-- Create for returns.
use Prim.Native.Nat.{ℕ, ◌+◌, ◌*◌, ◌≤◌, ◌<◌}
use native.Mathlib.Omega.{arith}
use mathlib.Core.Path.{◌≡◌, sym, ap, ◌∙◌}
use mathlib.Core.List.{List}
use lib.ListN.{length, get_or}
use Rattle.model.specs.Sheet.{Identifier, IdentifierType, Place, no_place, Create, Sheet}
use Rattle.model.specs.Reading.{Position}
use Rattle.model.specs.Summary.{no_identifier, value_kind, create_returns}
use Rattle.hir.specs.Words.{wide, identifier_at, several}
use Rattle.model.specs.Limits.{identifier_width}
use Rattle.hir.proofs.Widths.{several_wide, wide_rises}
use Rattle.hir.proofs.Several.{several_at, several_within}
use Rattle.copies.specs.Returns.{identifier_from, create_of}

-- by the reason x and the value y
pub created : (p : Place) (x y v : ℕ) {t u : IdentifierType} → x ≡ 0 → y ≡ v → v ≡ value_kind t → t ≡ u → record { kind = Create; first = p; second = no_place; extra = 6 * x + y } ≡ create_of p u
created p x y v {t} {u} ex ey ev et =
    let e : 6 * x + y ≡ 6 * 0 + value_kind u = omega (arith, ex, ey, ev, ap value_kind et) in
    ap (λ (z : ℕ). record { kind = Create; first = p; second = no_place; extra = z }) e

-- identifier i of n that stand from c on
module _ (n : ℕ) (sheet : List ℕ) (c : Position) (i : ℕ) (b : i < n) where
  stands : (several i (wide identifier_width identifier_at) sheet c).next ≡ identifier_from c i
  stands = omega (arith, several_wide identifier_width i identifier_at sheet c)

  identifier_is_lem : get_or (several n (wide identifier_width identifier_at) sheet c).what i no_identifier ≡ identifier_at sheet (identifier_from c i)
  identifier_is_lem = several_at (wide identifier_width identifier_at) sheet n i c no_identifier b ∙ ap (identifier_at sheet) stands

  pub identifier_inside : (several n (wide identifier_width identifier_at) sheet c).next ≤ length sheet → identifier_from c i + identifier_width ≤ length sheet
  identifier_inside h = omega (arith, stands, several_within (wide identifier_width identifier_at) sheet (wide_rises identifier_width identifier_at) n i c b, h)

-- of a sheet whose identifiers stand from c on
pub returns_created : (s : Sheet) (sheet : List ℕ) (c : Position) (n : ℕ) → (several n (wide identifier_width identifier_at) sheet c).what ≡ s.identifiers → s.returns.identifier < n
    → create_of s.returns (identifier_at sheet (identifier_from c s.returns.identifier)).type ≡ create_returns s
unfolding create_returns
returns_created s sheet c n h z =
    ap (λ (i : Identifier). create_of s.returns i.type) (sym (identifier_is_lem n sheet c s.returns.identifier z) ∙ ap (λ (l : List Identifier). get_or l s.returns.identifier no_identifier) h)
