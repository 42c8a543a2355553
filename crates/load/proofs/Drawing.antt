-- The draws of the code are those of the definition.
use Prim.Native.Nat.{ℕ, zero, suc, ◌<◌}
use native.Mathlib.Nat.{le_of_suc-le-suc, not-suc-le-zero}
use mathlib.Core.Path.{◌≡◌, refl, sym, ap, subst, ◌∙◌}
use mathlib.Core.Bool.{Bool, true, false}
use mathlib.Core.List.{List, [], ◌∷◌, map}
use lib.ListN.{length, get_or}
use lib.Dec.{leb}
use Rattle.model.specs.Sheet.{EffectKind as ModelKind, Mutate, Place as ModelPlace, plain_place, no_place}
use Rattle.model.specs.Effects.{row_of}
use Rattle.model.specs.Load.{Draw as ModelDraw, draw_below, load_kinds, load_kind, DrawnEffect as ModelDrawn, load_effect, draw_second, draw_places, draw_effect}
use Rattle.model.proofs.Drawn.{draw-below}
use Rattle.hir.specs.Numbers.{kind_says, kind_number}
use Rattle.hir.specs.Table.{TableRow, table_row}
use Rattle.hir.specs.declared.EffectKind.{EffectKind as Kind}
use Rattle.hir.specs.declared.EffectKind.TheVariants.{Freeze as KindFreeze, Mutate as KindMutate, MutateConditionally as KindMutateConditionally, MutateTransitive as KindMutateTransitive, MutateTransitiveConditionally as KindMutateTransitiveConditionally, Capture as KindCapture, Alias as KindAlias, MaybeAlias as KindMaybeAlias, Assign as KindAssign, CreateFrom as KindCreateFrom}
use Rattle.hir.proofs.EffectKinds.{kind_of_number}

-- ---- the kinds
-- those of the code
abbrev kinds : List Kind
kinds = KindMutate ∷ KindMutateConditionally ∷ KindMutateTransitive ∷ KindMutateTransitiveConditionally ∷ KindCapture ∷ KindAlias ∷ KindMaybeAlias ∷ KindAssign ∷ KindCreateFrom ∷ []

image_at : {A B : Type 0} (f : A → B) (l : List A) (d : A) (e : B) (k : ℕ) → k < length l → f (get_or l k d) ≡ get_or (map f l) k e
image_at f [] d e k h = absurd (not-suc-le-zero h)
image_at f (a ∷ l) d e zero h = refl
image_at f (a ∷ l) d e (suc k) h = image_at f l d e k (le_of_suc-le-suc h)

pub kind_drawn : (k : ℕ) → k < length load_kinds → kind_says (get_or kinds k KindFreeze) ≡ load_kind k
unfolding load_kind
kind_drawn k h = image_at kind_says kinds KindFreeze Mutate k h

-- how many places it has, by the row of its number
places_of : (k : Kind) {r : TableRow} {n : ℕ} → n ≡ kind_number k → r ≡ table_row n → r.places ≡ (row_of (kind_says k)).places
unfolding table_row
places_of k e h = ap (λ (x : TableRow). x.places) h ∙ ap (λ (i : ℕ). (table_row i).places) e ∙ ap (λ (x : ModelKind). (row_of x).places) (kind_of_number k)

-- ---- the effects
module _ (n : ℕ) (k : ModelKind) (state : ℕ) where
  -- of two places
  pub second_drawn : (p q : ModelPlace) {two : Bool} {d : ModelDraw} → two ≡ true → d ≡ draw_below n state → q ≡ plain_place d.number → record { effect = load_effect k p q; state = d.state } ≡ draw_second two n k p state
  unfolding draw_second
  second_drawn p q {two} {d} t e i =
      ap (λ (x : ModelPlace). record { effect = load_effect k p x; state = d.state }) i
      ∙ ap (λ (x : ModelDraw). record { effect = load_effect k p (plain_place x.number); state = x.state }) e
      ∙ ap (λ (b : Bool). draw_second b n k p state) (sym t)

  -- of one
  pub second_none : (p : ModelPlace) {two : Bool} → two ≡ false → record { effect = load_effect k p no_place; state = state } ≡ draw_second two n k p state
  unfolding draw_second
  second_none p e = ap (λ (b : Bool). draw_second b n k p state) (sym e)

-- by the first place, and by whether there is a second
module _ (n : ℕ) (kind : Kind) (state : ℕ) where
  abbrev k : ModelKind
  k = kind_says kind

  pub places_drawn : {p : ModelPlace} {d : ModelDraw} {x : ModelDrawn} {r : TableRow} {i : ℕ} → d ≡ draw_below n state → p ≡ plain_place d.number
      → i ≡ kind_number kind → r ≡ table_row i → x ≡ draw_second (leb 2 r.places) n k p d.state → x ≡ draw_places n k state
  unfolding draw_places
  places_drawn {p} {d} {r = r} e q h t f =
      f
      ∙ ap (λ (y : ModelPlace). draw_second (leb 2 r.places) n k y d.state) q
      ∙ ap (λ (y : ModelDraw). draw_second (leb 2 r.places) n k (plain_place y.number) y.state) e
      ∙ ap (λ (j : ℕ). draw_second (leb 2 j) n k (plain_place (draw_below n state).number) (draw_below n state).state) (places_of kind h t)

-- the number of a draw is below its bound
pub below-drawn : (k state : ℕ) {d : ModelDraw} → 0 < k → d ≡ draw_below k state → d.number < k
below-drawn k state h e = subst (λ (x : ModelDraw). x.number < k) (sym e) (draw-below k state h)

-- the kind, then the places
pub effect-drawn : (n state : ℕ) {d : ModelDraw} {k : ModelKind} {x : ModelDrawn} → d ≡ draw_below (length load_kinds) state → k ≡ load_kind d.number → x ≡ draw_places n k d.state → x ≡ draw_effect n state
unfolding draw_effect
effect-drawn n state {d} e h f =
    f
    ∙ ap (λ (y : ModelKind). draw_places n y d.state) h
    ∙ ap (λ (y : ModelDraw). draw_places n (load_kind y.number) y.state) e
