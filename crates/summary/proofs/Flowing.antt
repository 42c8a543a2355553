-- What flows into the place of a simulated walk.
use Prim.Native.Nat.{ℕ, ◌+◌, ◌/◌, ◌≤◌, ◌<◌}
use native.Mathlib.Omega.{arith}
use mathlib.Core.Path.{◌≡◌, refl, sym, ap, ◌∙◌}
use mathlib.Core.Bool.{Bool, true, false, ◌&&◌, not}
use mathlib.Core.List.{List, [], ◌∷◌, append-nil}
use lib.ListN.{length, get_or}
use lib.Dec.{eqb}
use Rattle.model.specs.Limits.{most_identifiers, effect_width}
use Rattle.model.specs.Lists.{pick, gather}
use Rattle.model.specs.Sheet.{Place, EffectKind, Alias, Capture, Effect}
use Rattle.model.specs.State.{Record, State}
use Rattle.model.specs.Simulated.{flows, flow_effect, flow_effects}
use Rattle.model.specs.Answer.{effect_words}
use Rattle.workspace.specs.Layout.{RECORD}
use Rattle.workspace.specs.Graph.{tab}
use Rattle.workspace.proofs.Places.{is_below}
use Rattle.aliasing.specs.State.{state_of}
use Rattle.writing.specs.declared.Writer.{Writer}
use Rattle.writing.specs.Wrote.{Writes}
use Rattle.writing.proofs.Writing.{writes_as, writes_none, writes_long}
use Rattle.model.proofs.Gathers.{gather_gather}
use Rattle.summary.specs.Records.{Holds}
use Rattle.workspace.specs.Tracked.{tracked_at, tracked_of}
use Rattle.summary.specs.Sections.{Flow, Flows}
use Rattle.summary.proofs.Held.{held, state_words}
use Rattle.summary.proofs.Telling.{Telling, telling_turn, telling_end}

-- the effects of one tracked place
abbrev pub flow_of : Place → ℕ → Place → State → Place → List Effect
flow_of r i into t from = pick (flows r i into t from) (flow_effect r into from ∷ []) []

-- ---- three tests
pub all_hold : {a b c : Bool} → a ≡ true → b ≡ true → c ≡ true → (a && (b && c)) ≡ true
all_hold p q r = rw (p, q, r)

pub first_fails : {a : Bool} → a ≡ false → (b : Bool) → (a && b) ≡ false
first_fails p b = rw p

pub later_fails : (a : Bool) {b : Bool} → b ≡ false → (a && b) ≡ false
later_fails true p = p
later_fails false p = refl

-- a place of an identifier
abbrev some_place : ℕ → Place
some_place x = record { identifier = x; effect = 0; reactive = false; span = 0 }

-- at most one effect
pub pick_most : (x : Bool) (e : Effect) → length (gather effect_words (pick x (e ∷ []) [])) ≤ effect_width
pick_most true e = omega arith
pick_most false e = omega arith

-- ---- one tracked place
module _ (ws : List ℕ) (from into : Place) (index returns : ℕ) (b : from.identifier < most_identifiers) where
  -- the test in words
  flow_test : (r : Place) (t : State) → Holds ws t → r.identifier ≡ returns
      → flows r index into t from ≡ (not (eqb from.identifier into.identifier) && (not (eqb from.identifier returns) && eqb (get_or ws (RECORD + from.identifier) 0 / 32) index))
  flow_test r t h e =
      ap (λ (x : Record). not (eqb from.identifier into.identifier) && (not (eqb from.identifier r.identifier) && eqb x.last index)) (state_words ws t h from.identifier b)
      ∙ ap (λ (x : ℕ). not (eqb from.identifier into.identifier) && (not (eqb from.identifier x) && eqb (get_or ws (RECORD + from.identifier) 0 / 32) index)) e

  -- the walk does not flow
  pub flow_not : (not (eqb from.identifier into.identifier) && (not (eqb from.identifier returns) && eqb (get_or ws (RECORD + from.identifier) 0 / 32) index)) ≡ false → (o : Writer ℕ) → Flow ws from into index returns o o
  flow_not q o r t h e = writes_as (writes_none o) (ap (λ (x : Bool). gather effect_words (pick x (flow_effect r into from ∷ []) [])) (sym (flow_test r t h e ∙ q)))

  -- it does
  pub flow_some : (not (eqb from.identifier into.identifier) && (not (eqb from.identifier returns) && eqb (get_or ws (RECORD + from.identifier) 0 / 32) index)) ≡ true
      → {k : EffectKind} → k ≡ pick (eqb into.identifier returns) Alias Capture → {o o' : Writer ℕ} → Writes (effect_words (record { kind = k; first = from; second = into; extra = 0 })) o o' → Flow ws from into index returns o o'
  flow_some q {k} g w r t h e =
      let j : k ≡ pick (eqb into.identifier r.identifier) Alias Capture = g ∙ ap (λ (x : ℕ). pick (eqb into.identifier x) Alias Capture) (sym e) in
      writes_as w
      (ap (λ (z : EffectKind). effect_words (record { kind = z; first = from; second = into; extra = 0 })) j
      ∙ sym (append-nil (effect_words (flow_effect r into from)))
      ∙ ap (λ (x : Bool). gather effect_words (pick x (flow_effect r into from ∷ []) [])) (sym (flow_test r t h e ∙ q)))

  -- at most eight words, in any case
  pub flow_most : {o o' : Writer ℕ} → Flow ws from into index returns o o' → o'.at ≤ o.at + effect_width
  flow_most {o} {o'} v =
      let r : Place = some_place returns in
      omega (arith, (v r (state_of ws 0) (held ws 0) refl).wrote.next, pick_most (flows r index into (state_of ws 0) from) (flow_effect r into from))

-- ---- all of them
-- the words of what one gives
abbrev pub flow_words : Place → ℕ → Place → State → Place → List ℕ
flow_words r i into t from = gather effect_words (flow_of r i into t from)

module _ (ws : List ℕ) (count : ℕ) (into : Place) (index returns : ℕ) where
  -- a place and a state by which they are told
  abbrev By : Place × State → Type 0
  By x = Holds ws x.1 × (x.0.identifier ≡ returns)

  abbrev told : Place × State → Place → List ℕ
  told x = flow_words x.0 index into x.1

  -- the loop
  abbrev pub Flowing : Writer ℕ → ℕ → Writer ℕ → Type 0
  Flowing = Telling By told effect_width count (tracked_at ws)

  module _ {o₀ : Writer ℕ} {i : ℕ} {o : Writer ℕ} (v : Flowing o₀ i o) where
    pub flowing_turn : {o' : Writer ℕ} {p : Place} → i < count → p ≡ tracked_at ws i → Flow ws p into index returns o o' → Flowing o₀ (i + 1) o'
    flowing_turn {p = p} z q f =
        telling_turn By told effect_width count (tracked_at ws) v z (λ x h. writes_as (f x.0 x.1 h.0 h.1) (ap (told x) q)) (flow_most ws p into index returns (is_below ws i q) f)

    pub flowing_end : count ≤ i → Flows ws count into index returns o₀ o
    unfolding tracked_of flow_effects
    flowing_end z = record {
      wrote = λ s t h e k.
          writes_as (telling_end By told effect_width count (tracked_at ws) v z (s.returns, t) (h, k))
          (sym (gather_gather effect_words (flow_of s.returns index into t) (tab count (tracked_at ws))) ∙ ap (λ (l : List Place). gather effect_words (gather (flow_of s.returns index into t) l)) (sym e));
      same = (v.leaves (some_place returns, state_of ws 0) (held ws 0, refl)).same;
      long = writes_long (telling_end By told effect_width count (tracked_at ws) v z (some_place returns, state_of ws 0) (held ws 0, refl));
    }
