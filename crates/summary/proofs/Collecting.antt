-- The records of a place as effects.
use Prim.Native.Nat.{ℕ, zero, suc, ◌+◌, ◌/◌, ◌%◌, ◌≤◌, ◌<◌, ◌*◌}
use native.Mathlib.Omega.{arith}
use mathlib.Core.Path.{◌≡◌, refl, sym, ap, ◌∙◌}
use mathlib.Core.List.{List, [], ◌∷◌, ◌++◌, append-nil}
use lib.ListN.{length, get_or, length-append}
use Rattle.model.specs.Limits.{most_identifiers, effect_width}
use Rattle.model.specs.Lists.{gather}
use Rattle.model.specs.Sheet.{Place, no_place, EffectKind, Mutate, MutateConditionally, MutateTransitive, MutateTransitiveConditionally, Effect}
use Rattle.model.specs.Mutation.{reason_of}
use Rattle.model.specs.State.{Record, State}
use Rattle.model.specs.Summary.{reason_word, local_effects, transitive_effects, collect_param_effects}
use Rattle.model.specs.Answer.{effect_words}
use Rattle.workspace.specs.Layout.{RECORD, LSPAN, TSPAN}
use Rattle.workspace.specs.Graph.{tab}
use Rattle.workspace.proofs.Places.{is_below}
use Rattle.aliasing.specs.State.{info_of, record_in, state_of}
use Rattle.writing.specs.declared.Writer.{Writer}
use Rattle.writing.specs.Wrote.{Writes}
use Rattle.writing.proofs.Writing.{writes_then, writes_as}
use Rattle.model.proofs.Gathers.{gather_append, gather_gather}
use Rattle.copies.proofs.Sections.{effects-length}
use Rattle.summary.specs.Records.{Holds, level_effects, Collected}
use Rattle.workspace.specs.Tracked.{tracked_at, tracked_from}
use Rattle.summary.proofs.Held.{held, state_words}
use Rattle.summary.proofs.Telling.{Telling, telling_turn, telling_end}

-- the place with another span
abbrev pub with_span : Place → ℕ → Place
with_span p s = record { identifier = p.identifier; effect = p.effect; reactive = p.reactive; span = s }

-- ---- a record by its words
local_words : (k s : ℕ) (p : Place) (r : Record) → local_effects (info_of k s) p r ≡ level_effects k MutateConditionally Mutate (reason_word r.reason) (with_span p s)
unfolding level_effects
local_words zero s p r = refl
local_words (suc zero) s p r = refl
local_words (suc (suc k)) s p r = refl

transitive_words : (k s : ℕ) (p : Place) → transitive_effects (info_of k s) p ≡ level_effects k MutateTransitiveConditionally MutateTransitive 0 (with_span p s)
unfolding level_effects
transitive_words zero s p = refl
transitive_words (suc zero) s p = refl
transitive_words (suc (suc k)) s p = refl

level_most : (k : ℕ) (c d : EffectKind) (x : ℕ) (p : Place) → length (level_effects k c d x p) ≤ 1
unfolding level_effects
level_most zero c d x p = omega arith
level_most (suc zero) c d x p = omega arith
level_most (suc (suc k)) c d x p = omega arith

-- at most eight words
level-length : (k : ℕ) (c d : EffectKind) (x : ℕ) (p : Place) → length (gather effect_words (level_effects k c d x p)) ≤ effect_width
level-length k c d x p = omega (arith, effects-length (level_effects k c d x p), level_most k c d x p)

pub level_wrote : (k : ℕ) (c d : EffectKind) (x : ℕ) (p : Place) {o o' : Writer ℕ} → Writes (gather effect_words (level_effects k c d x p)) o o' → o'.at ≤ o.at + effect_width
level_wrote k c d x p w = omega (arith, w.wrote.next, level-length k c d x p)

-- which of the three cases it is
pub level_none : (k : ℕ) (c d : EffectKind) (x : ℕ) (p : Place) → k ≡ 0 → level_effects k c d x p ≡ []
unfolding level_effects
level_none k c d x p e = ap (λ (n : ℕ). level_effects n c d x p) e

pub level_conditional : (k : ℕ) (c d : EffectKind) (x : ℕ) (p : Place) → k ≡ 1 → level_effects k c d x p ≡ record { kind = c; first = p; second = no_place; extra = 0 } ∷ []
unfolding level_effects
level_conditional k c d x p e = ap (λ (n : ℕ). level_effects n c d x p) e

pub level_definite : (k : ℕ) (c d : EffectKind) (x : ℕ) (p : Place) → 2 ≤ k → level_effects k c d x p ≡ record { kind = d; first = p; second = no_place; extra = x } ∷ []
unfolding level_effects
level_definite zero c d x p h = absurd (omega (arith, h))
level_definite (suc zero) c d x p h = absurd (omega (arith, h))
level_definite (suc (suc k)) c d x p h = refl

-- one effect
pub one-effect : (e : Effect) → effect_words e ≡ gather effect_words (e ∷ [])
one-effect e = sym (append-nil (effect_words e))

-- a reason's bit is its extra word
reason_bit : (k : ℕ) → k < 2 → k ≡ reason_word (reason_of k)
reason_bit zero h = refl
reason_bit (suc zero) h = refl
reason_bit (suc (suc k)) h = absurd (omega (arith, h))

-- ---- both records of a place
module _ (ws : List ℕ) (p : Place) (b : p.identifier < most_identifiers) where
  abbrev x : ℕ
  x = p.identifier

  -- its record's word
  abbrev word : ℕ
  word = get_or ws (RECORD + x) 0

  collect_words : (t : State) → Holds ws t
      → collect_param_effects t p
      ≡ level_effects (word % 4) MutateConditionally Mutate (reason_word (reason_of (word / 16 % 2))) (with_span p (get_or ws (LSPAN + x) 0))
      ++ level_effects (word / 4 % 4) MutateTransitiveConditionally MutateTransitive 0 (with_span p (get_or ws (TSPAN + x) 0))
  unfolding collect_param_effects
  collect_words t h =
      ap (λ (r : Record). local_effects r.local p r ++ transitive_effects r.transitive p) (state_words ws t h x b)
      ∙ ap (λ (l : List Effect). l ++ transitive_effects (info_of (word / 4 % 4) (get_or ws (TSPAN + x) 0)) p)
      (local_words (word % 4) (get_or ws (LSPAN + x) 0) p (record_in word (get_or ws (TSPAN + x) 0) (get_or ws (LSPAN + x) 0)))
      ∙ ap (λ (l : List Effect). level_effects (word % 4) MutateConditionally Mutate (reason_word (reason_of (word / 16 % 2))) (with_span p (get_or ws (LSPAN + x) 0)) ++ l)
      (transitive_words (word / 4 % 4) (get_or ws (TSPAN + x) 0) p)

  -- the local one first, with the reason's bit as its extra word
  pub collected : {o o' o'' : Writer ℕ}
      → Writes (gather effect_words (level_effects (word % 4) MutateConditionally Mutate (word / 16 % 2) (with_span p (get_or ws (LSPAN + x) 0)))) o o'
      → Writes (gather effect_words (level_effects (word / 4 % 4) MutateTransitiveConditionally MutateTransitive 0 (with_span p (get_or ws (TSPAN + x) 0)))) o' o''
      → Collected ws (p ∷ []) o o''
  collected u v t h =
      writes_as (writes_then u v)
      (ap (λ (k : ℕ). gather effect_words (level_effects (word % 4) MutateConditionally Mutate k (with_span p (get_or ws (LSPAN + x) 0)))
      ++ gather effect_words (level_effects (word / 4 % 4) MutateTransitiveConditionally MutateTransitive 0 (with_span p (get_or ws (TSPAN + x) 0)))) (reason_bit (word / 16 % 2) (omega arith))
      ∙ sym (gather_append effect_words (level_effects (word % 4) MutateConditionally Mutate (reason_word (reason_of (word / 16 % 2))) (with_span p (get_or ws (LSPAN + x) 0)))
      (level_effects (word / 4 % 4) MutateTransitiveConditionally MutateTransitive 0 (with_span p (get_or ws (TSPAN + x) 0))))
      ∙ ap (gather effect_words) (sym (collect_words t h) ∙ sym (append-nil (collect_param_effects t p))))

  -- at most sixteen words
  pub collect_length : (t : State) → Holds ws t → length (gather effect_words (collect_param_effects t p)) ≤ 2 * effect_width
  collect_length t h =
      let l : List Effect = level_effects (word % 4) MutateConditionally Mutate (reason_word (reason_of (word / 16 % 2))) (with_span p (get_or ws (LSPAN + x) 0)) in
      let r : List Effect = level_effects (word / 4 % 4) MutateTransitiveConditionally MutateTransitive 0 (with_span p (get_or ws (TSPAN + x) 0)) in
      let e : length (gather effect_words (collect_param_effects t p)) ≡ length (gather effect_words (l ++ r)) = ap (λ (z : List Effect). length (gather effect_words z)) (collect_words t h) in
      omega (
        arith,
        e,
        effects-length (l ++ r),
        length-append l r,
        level_most (word % 4) MutateConditionally Mutate (reason_word (reason_of (word / 16 % 2))) (with_span p (get_or ws (LSPAN + x) 0)),
        level_most (word / 4 % 4) MutateTransitiveConditionally MutateTransitive 0 (with_span p (get_or ws (TSPAN + x) 0)),
      )

  -- the bound on where the next word goes, in any case
  pub collected_most : {o o' : Writer ℕ} → Collected ws (p ∷ []) o o' → o'.at ≤ o.at + 2 * effect_width
  collected_most {o} {o'} v =
      let s : State = state_of ws 0 in
      let e : length (gather effect_words (collect_param_effects s p ++ [])) ≡ length (gather effect_words (collect_param_effects s p)) =
      ap (λ (l : List Effect). length (gather effect_words l)) (append-nil (collect_param_effects s p)) in
      omega (arith, (v s (held ws 0)).wrote.next, collect_length s (held ws 0), e)

-- ---- many places
-- the words of a place's records
abbrev pub record_words : State → Place → List ℕ
record_words t p = gather effect_words (collect_param_effects t p)

module _ (ws : List ℕ) (first count : ℕ) where
  -- the loop
  abbrev pub Collecting : Writer ℕ → ℕ → Writer ℕ → Type 0
  Collecting = Telling (Holds ws) record_words (2 * effect_width) count (λ (j : ℕ). tracked_at ws (first + j))

  module _ {o₀ : Writer ℕ} {i : ℕ} {o : Writer ℕ} (v : Collecting o₀ i o) where
    pub collecting_turn : {o' : Writer ℕ} {p : Place} → i < count → p ≡ tracked_at ws (first + i) → Collected ws (p ∷ []) o o' → Collecting o₀ (i + 1) o'
    collecting_turn {p = p} z e c =
        telling_turn (Holds ws) record_words (2 * effect_width) count (λ (j : ℕ). tracked_at ws (first + j)) v z
        (λ t h. writes_as (c t h) (ap (gather effect_words) (append-nil (collect_param_effects t p)) ∙ ap (record_words t) e)) (collected_most ws p (is_below ws (first + i) e) c)

    pub collecting_end : count ≤ i → Collected ws (tracked_from ws first count) o₀ o
    unfolding tracked_from
    collecting_end z t h =
        writes_as (telling_end (Holds ws) record_words (2 * effect_width) count (λ (j : ℕ). tracked_at ws (first + j)) v z t h)
        (sym (gather_gather effect_words (collect_param_effects t) (tab count (λ (j : ℕ). tracked_at ws (first + j)))))
