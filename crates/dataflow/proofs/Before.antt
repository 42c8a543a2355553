-- The sections before the blocks of an accepted sheet: each call finds what it asks for.
use Prim.Native.Nat.{ℕ, ◌+◌, ◌≤◌, ◌<◌}
use native.Mathlib.Omega.{arith}
use mathlib.Core.Path.{◌≡◌, sym, ap, subst, ◌∙◌}
use mathlib.Core.Bool.{Bool, ◌&&◌, not}
use mathlib.Core.List.{List, [], ◌∷◌, ◌++◌, map}
use lib.ListN.{length}
use lib.Seq.{sets, length-sets}
use Rattle.model.specs.Limits.{most_identifiers, most_functions, most_sheet, place_width, identifier_width, flags_width}
use Rattle.model.specs.Lists.{Every}
use Rattle.model.specs.Sheet.{Flags, Identifier, Place, Sheet}
use Rattle.model.specs.Ranges.{PlaceBelow}
use Rattle.model.specs.Reading.{Position}
use Rattle.model.specs.Graph.{object, create}
use Rattle.model.specs.Built.{changed}
use Rattle.model.proofs.Everywhere.{every_mem}
use Rattle.hir.specs.declared.at.List.{List as Listed}
use Rattle.hir.specs.declared.Flags.{Flags as HirFlags}
use Rattle.hir.specs.declared.Place.{Place as HirPlace}
use Rattle.hir.specs.Says.{place_is, flags_are}
use Rattle.hir.specs.Words.{Part, wide, place_at, identifier_at, flags_at, several, placed, function_from, places_from, Sections}
use Rattle.hir.specs.Parts.{ListAt}
use Rattle.hir.proofs.Standing.{part}
use Rattle.hir.proofs.Widths.{Follow, sections_follow}
use Rattle.hir.proofs.Several.{several-length, placed_next}
use Rattle.workspace.specs.Layout.{LEAST, END, FUNCTIONS}
use Rattle.workspace.specs.Tracked.{most_tracked, Tracks}
use Rattle.building.specs.declared.Building.{Building}
use Rattle.building.specs.Built.{Sound, Steps}
use Rattle.dataflow.specs.Accepted.{sections_of, sheet_of, Accepted}
use Rattle.dataflow.specs.Read.{end_of, stands_at, Stores, TopRead}
use Rattle.dataflow.specs.Places.{Places, PlacesReady, PlacesRead, TrackedRead}
use Rattle.dataflow.proofs.Accepted.{flags_are_lem, identifiers_are, functions_are, params_are, context_are, returns_is, list_part, list_what, list_next, list_count}
use Rattle.dataflow.proofs.Tracking.{one_place, places_then, places_one}

module _ {sheet : List ℕ} (a : Accepted sheet) where
  abbrev at : Sections
  at = sections_of sheet

  abbrev s : Sheet
  s = sheet_of sheet

  behind : Follow 0 at
  behind = sections_follow sheet 0

  -- ---- up to the inner functions
  pub flags_inside : 0 + flags_width ≤ length sheet
  flags_inside = omega (arith, a.inside, behind)

  pub identifiers_begin : flags_width + 1 ≤ length sheet
  identifiers_begin = omega (arith, a.inside, behind)

  module _ {l : Listed} (h : ListAt sheet flags_width l) where
    identifiers_at : ListAt sheet at.identifiers l
    identifiers_at = subst (λ (c : Position). ListAt sheet c l) (sym behind.identifiers) h

    pub ends_ready : ((several l.count (wide identifier_width identifier_at) sheet l.first).next ≤ length sheet) × (l.count ≤ most_identifiers)
    ends_ready = (
      omega (arith, list_next (wide identifier_width identifier_at) (identifiers_are sheet) identifiers_at, a.inside, behind),
      omega (arith, list_count (wide identifier_width identifier_at) (identifiers_are sheet) identifiers_at, a.below.identifiers),
    )

    module _ {ws ws₁ : List ℕ} {r : Position} (ends : Stores (wide identifier_width identifier_at) end_of l END sheet ws ws₁ r) where
      after : r ≡ at.functions
      after = ends.next ∙ list_next (wide identifier_width identifier_at) (identifiers_are sheet) identifiers_at

      pub functions_begin : r + 1 ≤ length sheet
      functions_begin = omega (arith, after, a.inside, behind)

      module _ {m : Listed} (g : ListAt sheet r m) where
        functions_at : ListAt sheet at.functions m
        functions_at = subst (λ (c : Position). ListAt sheet c m) after g

        pub functions_ready : LEAST ≤ length ws
            → ((several m.count function_from sheet m.first).next ≤ length sheet) × ((m.count ≤ most_functions) × ((LEAST ≤ length ws₁) × (length sheet ≤ most_sheet)))
        functions_ready size = (
          omega (arith, list_next function_from (functions_are sheet) functions_at, a.inside, behind),
          (
            omega (arith, list_count function_from (functions_are sheet) functions_at, a.below.function_count),
            (omega (arith, size, ap (λ (x : List ℕ). length x) ends.words, length-sets ws END (map end_of (several l.count (wide identifier_width identifier_at) sheet l.first).what)), a.short),
          ),
        )

        pub top_read : {f : HirFlags} → flags_are f ≡ flags_at sheet 0 → {e : Bool} → e ≡ f.validations && not f.function_expression
            → {ws₂ : List ℕ} {next : Position} → Stores (placed function_from) stands_at m FUNCTIONS sheet ws₁ ws₂ next
            → TopRead sheet ws ws₂ (record { errors = e; function_expression = f.function_expression; identifiers = l; functions = m; next = next })
        top_read hf he stored = record {
          errors = he ∙ ap (λ (v : Flags). v.validations && not v.function_expression) (hf ∙ flags_are_lem sheet);
          function_expression = ap (λ (v : Flags). v.function_expression) (hf ∙ flags_are_lem sheet);
          identifiers = identifiers_at;
          functions = functions_at;
          next = stored.next ∙ placed_next function_from sheet m.count m.first ∙ list_next function_from (functions_are sheet) functions_at;
          words = stored.words ∙ ap (λ (x : List ℕ). sets x FUNCTIONS (map stands_at (several m.count (placed function_from) sheet m.first).what))
              (ends.words ∙ ap (λ (ids : List Identifier). sets ws END (map end_of ids)) (list_what (wide identifier_width identifier_at) (identifiers_are sheet) identifiers_at));
        }

  -- ---- from the parameters up to the blocks
  known : (l : List Place) → Every (PlaceBelow (length s.identifiers)) l → Every (PlaceBelow most_identifiers) l
  known l h = every_mem (PlaceBelow (length s.identifiers)) (PlaceBelow most_identifiers) l (λ p m k. omega (arith, k, a.below.identifiers)) h

  module _ {c : Position} (e : c ≡ at.params) where
    pub params_begin : c + 1 ≤ length sheet
    params_begin = omega (arith, e, a.inside, behind)

    module _ {l : Listed} (h : ListAt sheet c l) {ws : List ℕ} {b : Building} (sound : Sound ws b) where
      params_is : places_from sheet c ≡ part s.params at.context
      params_is = ap (places_from sheet) e ∙ params_are sheet

      pub params_ready : PlacesReady (several l.count one_place sheet l.first) 0 sheet ws b
      params_ready = subst (λ (q : Part (List Place)). PlacesReady q 0 sheet ws b) (sym (list_part one_place params_is h)) (record {
        sound = sound;
        inside = omega (arith, a.inside, behind);
        below = known s.params a.below.params;
        room = omega (arith, a.below.param_count);
      })

      module _ {ws₁ : List ℕ} {b₁ : Building} {d₁ : Position} (p : PlacesRead (several l.count one_place sheet l.first) 0 ws b ws₁ b₁ d₁) where
        params_end : d₁ ≡ at.context
        params_end = p.next ∙ list_next one_place params_is h

        pub context_begin : d₁ + 1 ≤ length sheet
        context_begin = omega (arith, params_end, a.inside, behind)

        module _ {m : Listed} (g : ListAt sheet d₁ m) where
          context_is : places_from sheet d₁ ≡ part s.context at.returns
          context_is = ap (places_from sheet) params_end ∙ context_are sheet

          counts : (l.count ≡ length s.params) × (m.count ≡ length s.context)
          counts = (list_count one_place params_is h, list_count one_place context_is g)

          pub context_ready : PlacesReady (several m.count one_place sheet m.first) l.count sheet ws₁ b₁
          context_ready = subst (λ (q : Part (List Place)). PlacesReady q l.count sheet ws₁ b₁) (sym (list_part one_place context_is g)) (record {
            sound = p.places.sound;
            inside = omega (arith, a.inside, behind);
            below = known s.context a.below.context;
            room = omega (arith, a.below.param_count, a.below.context_count, counts.0);
          })

          pub few_places : l.count + m.count < most_tracked
          few_places = omega (arith, a.below.param_count, a.below.context_count, counts)

          module _ {ws₂ : List ℕ} {b₂ : Building} {d₂ : Position} (q : PlacesRead (several m.count one_place sheet m.first) l.count ws₁ b₁ ws₂ b₂ d₂) where
            context_end : d₂ ≡ at.returns
            context_end = q.next ∙ list_next one_place context_is g

            pub blocks_begin : d₂ + 1 + place_width + 1 ≤ length sheet
            blocks_begin = omega (arith, context_end, a.inside, behind)

            returns_are : {x : Place} → x ≡ place_at sheet (d₂ + 1) → x ≡ s.returns
            returns_are k = k ∙ ap (λ (c : Position). place_at sheet (c + 1)) context_end ∙ returns_is sheet

            pub returns_below : {x : Place} → x ≡ place_at sheet (d₂ + 1) → x.identifier < most_identifiers
            returns_below k = omega (arith, ap (λ (z : Place). z.identifier) (returns_are k), a.below.returns, a.below.identifiers)

            pub tracked-read : (x : HirPlace) → place_is x ≡ place_at sheet (d₂ + 1) → {ws₃ : List ℕ} → Tracks ws₂ (l.count + m.count) (place_is x) ws₃
                → {ws₄ : List ℕ} {r : Building} → Steps (changed (create x.identifier.0 object)) 0 0 0 0 ws₃ b₂ ws₄ r
                → {n : Listed} → ListAt sheet (d₂ + 1 + place_width) n → TrackedRead sheet ws b ws₄ r (record { params = l.count; context = m.count; returns = x; blocks = n })
            tracked-read x k t {ws₄} {r} u {n} i =
                let third = places_one q.places.sound t u in
                let ps = list_what one_place params_is h in
                let cs = list_what one_place context_is g in
                let second : l.count + m.count ≡ l.count + length (several m.count one_place sheet m.first).what = omega (arith, several-length one_place sheet m.count m.first) in
                let first : l.count ≡ 0 + length (several l.count one_place sheet l.first).what = omega (arith, several-length one_place sheet l.count l.first) in
                record {
                  places = subst (λ (z : List Place). Places z 0 ws b ws₄ r) (firsts ps cs (returns_are k)) (places_then p.places first (places_then q.places second third));
                  params = counts.0;
                  context = counts.1;
                  returns = returns_are k;
                  blocks = subst (λ (d : Position). ListAt sheet d n) (omega (arith, context_end, behind)) i;
                }
              where
                firsts : {ps qs cs ds : List Place} {x y : Place} → ps ≡ qs → cs ≡ ds → x ≡ y → ps ++ (cs ++ (x ∷ [])) ≡ qs ++ (ds ++ (y ∷ []))
                firsts {ps} {qs} {cs} {ds} {x} {y} e f g = ap (λ (l : List Place). l ++ (cs ++ (x ∷ []))) e ∙ ap (λ (l : List Place). qs ++ (l ++ (x ∷ []))) f ∙ ap (λ (z : Place). qs ++ (ds ++ (z ∷ []))) g
