-- A terminal's places: its operands, or Return's value.
use Prim.Native.Nat.{ℕ, zero, suc, ◌+◌, ◌-◌, ◌*◌, ◌≤◌}
use native.Mathlib.Omega.{arith}
use mathlib.Core.Bool.{Bool}
use mathlib.Core.Path.{◌≡◌, refl, sym, ap, subst, ◌∙◌}
use mathlib.Core.List.{List, [], ◌∷◌, map}
use lib.ListN.{length, length-map}
use Rattle.model.specs.Limits.{place_width}
use Rattle.model.specs.Lists.{pick, gather}
use Rattle.model.specs.Sheet.{Place}
use Rattle.model.specs.Traits.{read_effect, freeze_effect}
use Rattle.model.specs.Reading.{Position}
use Rattle.model.specs.Answer.{place_words}
use Rattle.model.specs.Marks.{with_effect}
use Rattle.model.specs.Operands.{terminal_places}
use Rattle.hir.specs.Numbers.{effect_number}
use Rattle.hir.specs.Says.{place_is}
use Rattle.hir.specs.Words.{Part, word_at, wide, place_at, terminal_of, terminal_from}
use Rattle.hir.specs.Parts.{TerminalAt}
use Rattle.hir.specs.declared.Effect.{Effect}
use Rattle.hir.specs.declared.Effect.TheVariants.{Read}
use Rattle.hir.specs.declared.Place.{Place as Hir}
use Rattle.hir.specs.declared.at.List.{List as Listed}
use Rattle.hir.specs.declared.at.Terminal.{Terminal}
use Rattle.hir.specs.declared.at.Terminal.TheVariants.{Other, Return, MaybeThrow}
use Rattle.hir.proofs.Widths.{several_wide, terminal_rises, return_rises}
use Rattle.hir.proofs.Several.{list_is, several-length}
use Rattle.writing.specs.declared.Writer.{Writer}
use Rattle.writing.specs.Wrote.{Writes, farthest}
use Rattle.writing.proofs.Writing.{writes_none, writes_as}
use Rattle.copies.proofs.Passing.{other_past}
use Rattle.std.specs.Prelude.{Some}
use Rattle.operands.specs.Given.{given_to, last_place, last_places}
use Rattle.operands.specs.Phis.{PlacesPut}
use Rattle.operands.proofs.Putting.{places_length, last_places_lem}

module _ (ws : List ℕ) (c : Position) {t : Terminal} (h : TerminalAt ws c t) where
  -- ---- its operands
  module _ {l : Listed} (e : t ≡ Other l) where
    is_other : TerminalAt ws c (Other l)
    is_other = subst (TerminalAt ws c) e h

    pub other_inside : (terminal_from ws c).next ≤ length ws → (last_places place_width ws l).next ≤ length ws
    other_inside i = omega (arith, several_wide place_width l.count (last_place place_width) ws l.first, other_past ws c h e, i)

    pub other_room : (at : ℕ) → (terminal_from ws c).next ≤ length ws → at + length ws ≤ farthest + c → at + place_width * l.count ≤ farthest
    other_room at i r = omega (arith, other_past ws c h e, is_other.1.first, i, r)

    other_places : (fe : Bool) → map (given_to (Some Read)) (last_places place_width ws l).what ≡ terminal_places fe (terminal_from ws c).what
    unfolding terminal_from terminal_of terminal_places
    other_places fe =
        let first : (d : Position) → with_effect read_effect (last_place place_width ws d) ≡ with_effect read_effect (place_at ws d) =
        λ d. let z : d + (place_width - place_width) ≡ d = omega arith in ap (λ (x : Position). with_effect read_effect (place_at ws x)) z in
        rw is_other.0 (last_places_lem place_width place_at (with_effect read_effect) (with_effect read_effect) ws first l.count l.first
        ∙ ap (λ (p : Part (List Place)). map (with_effect read_effect) p.what) (sym (list_is (wide place_width place_at) ws (c + 2) is_other.1)))

    pub other_put : (fe : Bool) {o o' : Writer ℕ} → Writes (gather place_words (map (given_to (Some Read)) (last_places place_width ws l).what)) o o'
        → PlacesPut (terminal_places fe (terminal_from ws c).what) c (terminal_from ws c).next o o'
    other_put fe w = record {
      wrote = writes_as w (ap (gather place_words) (other_places fe));
      few = omega (
        arith,
        w.wrote.next,
        places_length (map (given_to (Some Read)) (last_places place_width ws l).what),
        length-map (last_places place_width ws l).what (given_to (Some Read)),
        several-length (wide place_width (last_place place_width)) ws l.count l.first,
        other_past ws c h e,
        is_other.1.first,
      );
    }

  -- ---- Return's value
  module _ {v : Hir} {l : Listed} (e : t ≡ Return v l) where
    is_return : TerminalAt ws c (Return v l)
    is_return = subst (TerminalAt ws c) e h

    pub return_room : (at : ℕ) → (terminal_from ws c).next ≤ length ws → at + length ws ≤ farthest + c → at + place_width ≤ farthest
    return_room at i r = omega (arith, return_rises ws c is_return.0, i, r)

    value_places : (fe : Bool) (m : Effect) (p : Hir) → effect_number m ≡ pick fe read_effect freeze_effect → place_is p ≡ with_effect (effect_number m) (place_is v)
        → (place_is p ∷ []) ≡ terminal_places fe (terminal_from ws c).what
    unfolding terminal_from terminal_of terminal_places
    value_places fe m p f g =
        rw is_return.0 (ap (λ (q : Place). q ∷ []) (g ∙ ap (λ (k : ℕ). with_effect k (place_is v)) f ∙ ap (with_effect (pick fe read_effect freeze_effect)) is_return.1.0))

    pub return_put : (fe : Bool) (m : Effect) (p : Hir) → effect_number m ≡ pick fe read_effect freeze_effect → place_is p ≡ with_effect (effect_number m) (place_is v)
        → {o o' : Writer ℕ} → Writes (place_words (place_is p)) o o' → PlacesPut (terminal_places fe (terminal_from ws c).what) c (terminal_from ws c).next o o'
    return_put fe m p f g w = record {
      wrote = writes_as w (ap (gather place_words) (value_places fe m p f g));
      few = omega (arith, w.wrote.next, return_rises ws c is_return.0);
    }

  -- ---- neither
  module _ {l : Listed} (e : t ≡ MaybeThrow l) where
    no_places : (fe : Bool) → [] ≡ terminal_places fe (terminal_from ws c).what
    unfolding terminal_from terminal_of terminal_places
    no_places fe = let k : TerminalAt ws c (MaybeThrow l) = subst (TerminalAt ws c) e h in go (word_at ws c) k.0
      where
        go : (k : ℕ) → 2 ≤ k → [] ≡ terminal_places fe (terminal_of k (word_at ws (c + 1)) ws (c + 2)).what
        go zero i = absurd (omega (arith, i))
        go (suc zero) i = absurd (omega (arith, i))
        go (suc (suc k)) i = refl

    pub throw_put : (fe : Bool) (o : Writer ℕ) → PlacesPut (terminal_places fe (terminal_from ws c).what) c (terminal_from ws c).next o o
    throw_put fe o = record {
      wrote = writes_as (writes_none o) (ap (gather place_words) (no_places fe));
      few = omega (arith, terminal_rises ws c);
    }
