-- Places that are tracked and get nodes, one after another; and the loop that reads them.
use Prim.Native.Nat.{ℕ, ◌+◌, ◌-◌, ◌*◌, ◌≤◌, ◌<◌}
use native.Mathlib.Omega.{arith}
use native.Mathlib.Nat.{add-zero}
use mathlib.Core.Path.{◌≡◌, refl, sym, ap, subst, ◌∙◌}
use mathlib.Core.List.{List, [], ◌∷◌, ◌++◌, append-nil, append_assoc}
use lib.ListN.{length, take, length-append}
use Rattle.model.specs.Lists.{each}
use Rattle.model.specs.Sheet.{Place}
use Rattle.model.specs.Limits.{most_identifiers, place_width}
use Rattle.model.specs.Ranges.{PlaceBelow}
use Rattle.model.specs.Reading.{Position}
use Rattle.model.specs.Graph.{object, create}
use Rattle.model.specs.Built.{Built, changed}
use Rattle.hir.specs.Words.{Part, Standing, wide, place_at, several}
use Rattle.hir.proofs.Standing.{part}
use Rattle.hir.proofs.Widths.{wide_rises}
use Rattle.hir.proofs.Several.{several_next, first_inside, several_none}
use Rattle.workspace.specs.Layout.{SEEN, FUNCTIONS, TRACKED}
use Rattle.workspace.proofs.Parts.{take_less, drop_more, slice_take, slice_drop}
use Rattle.building.specs.declared.Building.{Building}
use Rattle.building.specs.Built.{built_of, Sound, Steps}
use Rattle.building.proofs.Operands.{each_append}
use Rattle.building.proofs.Stages.{steps_within}
use Rattle.dataflow.specs.Whole.{created_for}
use Rattle.workspace.specs.Tracked.{tracked_of, Tracks}
use Rattle.workspace.proofs.Places.{tracked_kept}
use Rattle.dataflow.specs.Places.{Places, PlacesReady, PlacesRead}
use Rattle.dataflow.proofs.Staying.{built_stays, holding_stays, sound_stays}

-- a place
abbrev pub one_place : Standing Place
one_place = wide place_width place_at

-- none
pub places_none : (first : ℕ) (ws : List ℕ) (b : Building) → Sound ws b → Places [] first ws b ws b
places_none first ws b sound = record {
  built = λ s a. refl;
  holding = λ s x. x;
  sound = sound;
  relations = refl;
  mutations = refl;
  renders = refl;
  come = refl;
  tracked = ap (tracked_of ws) (add-zero first) ∙ sym (append-nil (tracked_of ws first));
  low = refl;
  between = refl;
  same = refl;
}

-- no less is held after them
created_rise : (ps : List Place) (b : Built) → b.held ≤ (each created_for ps b).held
created_rise [] b = omega arith
created_rise (p ∷ ps) b = omega (arith, created_rise ps (created_for p b))

-- some, then some more
pub places_then : {ps qs : List Place} {first second : ℕ} {ws : List ℕ} {b : Building} {ws₁ : List ℕ} {b₁ : Building} {ws₂ : List ℕ} {b₂ : Building}
    → Places ps first ws b ws₁ b₁ → second ≡ first + length ps → Places qs second ws₁ b₁ ws₂ b₂ → Places (ps ++ qs) first ws b ws₂ b₂
places_then {ps} {qs} {first} {second} {ws} {b} {ws₁} {b₁} {ws₂} {b₂} p e q =
    let n : first + length (ps ++ qs) ≡ second + length qs = omega (arith, e, length-append ps qs) in
    record {
      built = λ s a.
          let all = each_append created_for ps qs (built_of s ws b) in
          let k = ap (λ (t : Built). t.held) all in
          let one = p.built s (omega (arith, a, k, created_rise qs (each created_for ps (built_of s ws b)))) in
          q.built s (omega (arith, a, k, ap (λ (t : Built). (each created_for qs t).held) one)) ∙ ap (each created_for qs) one ∙ sym all;
      holding = λ s x. q.holding s (p.holding s x);
      sound = q.sound;
      relations = q.relations ∙ p.relations;
      mutations = q.mutations ∙ p.mutations;
      renders = q.renders ∙ p.renders;
      come = q.come ∙ p.come;
      tracked = ap (tracked_of ws₂) n ∙ q.tracked ∙ ap (λ (k : ℕ). tracked_of ws₁ k ++ qs) e ∙ ap (λ (l : List Place). l ++ qs) p.tracked ∙ append_assoc (tracked_of ws first) ps qs;
      low = q.low ∙ p.low;
      between = q.between ∙ p.between;
      same = q.same ∙ p.same;
    }

-- one, where it is stored first: that leaves the building alone
module _ {ws : List ℕ} {b : Building} (sound : Sound ws b) {i : ℕ} {p : Place} {ws₁ : List ℕ} (t : Tracks ws i p ws₁) where
  tracks_low : take TRACKED ws₁ ≡ take TRACKED ws
  tracks_low = take_less TRACKED (TRACKED + 2 * i) ws₁ ws (omega arith) t.kept.low

  below-functions : take FUNCTIONS ws₁ ≡ take FUNCTIONS ws
  below-functions = take_less FUNCTIONS TRACKED ws₁ ws (omega arith) tracks_low

  pub tracks_sound : Sound ws₁ b
  tracks_sound = sound_stays ws ws₁ b sound below-functions t.kept.same

  pub places_one : {ws₂ : List ℕ} {r : Building} → Steps (changed (create p.identifier object)) 0 0 0 0 ws₁ b ws₂ r → Places (p ∷ []) i ws b ws₂ r
  places_one {ws₂} x = record {
    built = λ s a.
        let e = ap (created_for p) (built_stays ws ws₁ b sound below-functions s) in
        steps_within (x s) (omega (arith, a, ap (λ (t : Built). t.held) e)) ∙ e;
    holding = λ s h. (x s).holding (holding_stays ws ws₁ b sound below-functions s h);
    sound = (x []).sound;
    relations = (x []).relations ∙ add-zero b.relations;
    mutations = (x []).mutations ∙ add-zero b.mutations;
    renders = (x []).renders ∙ add-zero b.renders;
    come = (x []).come ∙ add-zero b.come;
    tracked = tracked_kept ws₁ ws₂ (i + 1) (drop_more FUNCTIONS TRACKED ws₂ ws₁ (omega arith) (x []).high) ∙ t.more;
    low = (x []).low ∙ take_less SEEN TRACKED ws₁ ws (omega arith) tracks_low;
    between = slice_drop FUNCTIONS FUNCTIONS TRACKED ws₂ ws₁ (omega arith) (omega arith) (x []).high ∙ slice_take TRACKED FUNCTIONS TRACKED ws₁ ws (omega arith) tracks_low;
    same = (x []).same ∙ t.kept.same;
  }

-- ---- the places of a list: whatever reads those that are left, `left` of them at c, has read the whole
module _ (sheet : List ℕ) (whole : Part (List Place)) (first₀ : ℕ) (ws₀ : List ℕ) (b₀ : Building) where
  pub record Placing (left : ℕ) (c : Position) (first : ℕ) (ws : List ℕ) (b : Building) : Type 0 where
    pub same : length ws ≡ length ws₀
    pub ready : PlacesReady (several left one_place sheet c) first sheet ws b
    pub rest : (ws' : List ℕ) (r : Building) (d : Position) → PlacesRead (several left one_place sheet c) first ws b ws' r d → PlacesRead whole first₀ ws₀ b₀ ws' r d

pub placing_start : {sheet : List ℕ} {left : ℕ} {c : Position} {first : ℕ} {ws : List ℕ} {b : Building} → PlacesReady (several left one_place sheet c) first sheet ws b
    → {k : ℕ} → k ≡ left → Placing sheet (several left one_place sheet c) first ws b k c first ws b
placing_start {sheet} {left} {c} {first} {ws} {b} w e =
    subst (λ (k : ℕ). Placing sheet (several left one_place sheet c) first ws b k c first ws b) (sym e) (record { same = refl; ready = w; rest = λ ws' r d h. h })

module _ {sheet : List ℕ} {whole : Part (List Place)} {first₀ : ℕ} {ws₀ : List ℕ} {b₀ : Building} {left : ℕ} {c : Position} {first : ℕ} {ws : List ℕ} {b : Building}
    (v : Placing sheet whole first₀ ws₀ b₀ left c first ws b) where
  -- nothing is left
  pub placing_done : left ≤ 0 → PlacesRead whole first₀ ws₀ b₀ ws b c
  placing_done h =
      v.rest ws _ _ (subst (λ (q : Part (List Place)). PlacesRead q first ws b ws b c) (sym (several_none one_place sheet left c h)) (record { places = places_none first ws b v.ready.sound; next = refl }))

  module _ (h : 0 < left) where
    abbrev others : Part (List Place)
    others = several (left - 1) one_place sheet (c + place_width)

    here : several left one_place sheet c ≡ part (place_at sheet c ∷ others.what) others.next
    here = several_next one_place sheet left c h

    now_ready : PlacesReady (part (place_at sheet c ∷ others.what) others.next) first sheet ws b
    now_ready = subst (λ (q : Part (List Place)). PlacesReady q first sheet ws b) here v.ready

    -- the next one stands in the sheet
    pub place_inside : c + place_width ≤ length sheet
    place_inside = first_inside one_place sheet left c (wide_rises place_width place_at) h v.ready.inside

    module _ {p : Place} (is : p ≡ place_at sheet c) where
      pub place-below : p.identifier < most_identifiers
      place-below = subst (PlaceBelow most_identifiers) (sym is) now_ready.below.0

      -- it is stored and gets its node: one less is left
      one_less : {ws₁ : List ℕ} → Tracks ws first p ws₁ → {ws₂ : List ℕ} {r : Building} → Steps (changed (create p.identifier object)) 0 0 0 0 ws₁ b ws₂ r
          → Placing sheet whole first₀ ws₀ b₀ (left - 1) (c + place_width) (first + 1) ws₂ r
      one_less t {ws₂} {r} s =
          let one : Places (place_at sheet c ∷ []) first ws b ws₂ r = subst (λ (q : Place). Places (q ∷ []) first ws b ws₂ r) is (places_one v.ready.sound t s) in
          record {
            same = one.same ∙ v.same;
            ready = record { sound = one.sound; inside = now_ready.inside; below = now_ready.below.1; room = omega (arith, now_ready.room) };
            rest = λ ws' r' d' g.
                v.rest ws' r' d' (subst (λ (q : Part (List Place)). PlacesRead q first ws b ws' r' d') (sym here) (record { places = places_then one refl g.places; next = g.next }));
          }

      pub placing_turn : {ws₁ : List ℕ} → Tracks ws first p ws₁ → {ws₂ : List ℕ} {r : Building} → Steps (changed (create p.identifier object)) 0 0 0 0 ws₁ b ws₂ r
          → {k : ℕ} → k ≡ left - 1 → Placing sheet whole first₀ ws₀ b₀ k (c + place_width) (first + 1) ws₂ r
      placing_turn t {ws₂} {r} s e = subst (λ (k : ℕ). Placing sheet whole first₀ ws₀ b₀ k (c + place_width) (first + 1) ws₂ r) (sym e) (one_less t s)
