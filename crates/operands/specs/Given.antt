-- What the pass gives a place: nothing, or a mark, which replaces the effect only.
use Rattle.std.specs.Prelude.{ℕ, ◌+◌, ◌-◌, List, ◌∷◌, map, eqb, Option, None, Some}
use Rattle.model.specs.Limits.{place_width}
use Rattle.model.specs.Lists.{pick}
use Rattle.model.specs.Sheet.{Place, Operand, Phi}
use Rattle.model.specs.Reading.{Position}
use Rattle.model.specs.Traits.{effect_of}
use Rattle.model.specs.Marks.{with_effect}
use Rattle.hir.specs.Numbers.{effect_number}
use Rattle.hir.specs.Words.{Part, wide, place_at, several}
use Rattle.hir.specs.declared.at.List.{List as Listed}
use Rattle.hir.specs.declared.Effect.{Effect}

-- the place with what is given
abbrev pub given_to : Option Effect → Place → Place
given_to None p = p
given_to (Some e) p = with_effect (effect_number e) p

-- the place with what a word says: 0 nothing, else one above the effect's position
unfoldable pub word_gives : ℕ → Place → Place
word_gives w p = pick (eqb w 0) p (with_effect (effect_of (w - 1)) p)

-- the place that ends a part of this width
abbrev pub last_place : ℕ → List ℕ → Position → Place
last_place width sheet c = place_at sheet (c + (width - place_width))

-- those of a list of such parts
abbrev pub last_places : ℕ → List ℕ → Listed → Part (List Place)
last_places width sheet l = several l.count (wide width (last_place width)) sheet l.first

-- a phi's places, its own and its operands'
abbrev pub given_phi : Option Effect → Option Effect → Phi → List Place
given_phi g h p = given_to g p.place ∷ map (λ (o : Operand). given_to h o.place) p.operands
