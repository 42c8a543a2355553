-- The places of phis: those of one phi as they are given, and those of a block's phis with their marks.
use Prim.Native.Nat.{ℕ, ◌+◌, ◌*◌, ◌≤◌}
use native.Mathlib.Omega.{arith}
use mathlib.Core.Path.{◌≡◌, refl, sym, ap, ◌∙◌}
use mathlib.Core.List.{List, ◌++◌, map}
use lib.ListN.{length, length-map}
use Rattle.model.specs.Limits.{place_width, operand_width}
use Rattle.model.specs.Lists.{gather}
use Rattle.model.specs.Sheet.{Place, Operand}
use Rattle.model.specs.Reading.{Position}
use Rattle.model.specs.Answer.{place_words}
use Rattle.hir.specs.Says.{place_is}
use Rattle.hir.specs.Words.{Part, word_at, wide, place_at, operand_at, several, listed, phi_from}
use Rattle.hir.specs.Parts.{PhiAt}
use Rattle.hir.specs.declared.Place.{Place as HirPlace}
use Rattle.hir.specs.declared.at.Phi.{Phi as Hir}
use Rattle.hir.proofs.AtLaws.{operand_made}
use Rattle.hir.proofs.Several.{several-length, list_is}
use Rattle.hir.proofs.Widths.{several_wide, phi_rises}
use Rattle.writing.specs.declared.Writer.{Writer}
use Rattle.writing.specs.Wrote.{Writes, farthest}
use Rattle.writing.proofs.Writing.{writes_then, writes_as}
use Rattle.copies.proofs.Passing.{phi_past}
use Rattle.std.specs.Prelude.{Option}
use Rattle.hir.specs.declared.Effect.{Effect}
use Rattle.operands.specs.Given.{given_to, last_place, last_places, given_phi}
use Rattle.operands.specs.Phis.{PlacesPut}
use Rattle.operands.proofs.Putting.{places_length, last_places_lem}

-- an operand's place as it is given
abbrev operand_given : Option Effect → Operand → Place
operand_given g o = given_to g o.place

-- ---- one phi
module _ (ws : List ℕ) (c : Position) where
  module _ {p : Hir} (h : PhiAt ws c p) where
    operands_are : several p.operands.count (wide operand_width operand_at) ws p.operands.first ≡ listed (wide operand_width operand_at) ws (c + place_width)
    operands_are = sym (list_is (wide operand_width operand_at) ws (c + place_width) h.operands)

    pub operands_inside : (phi_from ws c).next ≤ length ws → (last_places operand_width ws p.operands).next ≤ length ws
    operands_inside i = omega (arith, several_wide operand_width p.operands.count (last_place operand_width) ws p.operands.first, phi_past ws c h.operands, i)

    -- an operand ends with its place
    operand_places : (g : Option Effect) → map (given_to g) (last_places operand_width ws p.operands).what ≡ map (operand_given g) (several p.operands.count (wide operand_width operand_at) ws p.operands.first).what
    operand_places g = last_places_lem operand_width operand_at (operand_given g) (given_to g) ws (λ d. ap (operand_given g) (operand_made ws d refl)) p.operands.count p.operands.first

    pub operands_room : (at to : ℕ) → (phi_from ws c).next ≤ length ws → at + length ws ≤ farthest + c → to ≡ at + place_width → to + place_width * p.operands.count ≤ farthest
    operands_room at to i r e = omega (arith, phi_past ws c h.operands, h.operands.first, i, r, e)

    pub phi_written : (g k : Option Effect) (q : HirPlace) → place_is q ≡ given_to g (place_is p.place) → {o₁ o₂ o₃ : Writer ℕ} → Writes (place_words (place_is q)) o₁ o₂
        → Writes (gather place_words (map (given_to k) (last_places operand_width ws p.operands).what)) o₂ o₃
        → Writes (gather place_words (given_phi g k (phi_from ws c).what)) o₁ o₃
    unfolding phi_from
    phi_written g k q e w v =
        writes_as (writes_then w (writes_as v (ap (gather place_words) (operand_places k))))
        (ap (λ (x : Place). place_words x ++ gather place_words (map (operand_given k) (several p.operands.count (wide operand_width operand_at) ws p.operands.first).what)) (e ∙ ap (given_to g) h.place)
        ∙ ap (λ (l : Part (List Operand)). place_words (given_to g (place_at ws c)) ++ gather place_words (map (operand_given k) l.what)) operands_are)

  pub phi_room : (at : ℕ) → (phi_from ws c).next ≤ length ws → at + length ws ≤ farthest + c → at + place_width ≤ farthest
  phi_room at i r = omega (arith, phi_rises ws c, i, r)

  -- no more words than were read
  pub phi_put : (g k : Option Effect) {o₁ o₂ : Writer ℕ} → Writes (gather place_words (given_phi g k (phi_from ws c).what)) o₁ o₂ → PlacesPut (given_phi g k (phi_from ws c).what) c (phi_from ws c).next o₁ o₂
  unfolding phi_from listed
  phi_put g k w =
      let os : List Operand = (several (word_at ws (c + place_width)) (wide operand_width operand_at) ws (c + place_width + 1)).what in
      record {
        wrote = w;
        few = omega (
          arith,
          w.wrote.next,
          places_length (given_phi g k (phi_from ws c).what),
          length-map os (operand_given k),
          several-length (wide operand_width operand_at) ws (word_at ws (c + place_width)) (c + place_width + 1),
          several_wide operand_width (word_at ws (c + place_width)) operand_at ws (c + place_width + 1),
        );
      }
