-- An effect whose kind is known: what it asks of the building, and its step.
use Prim.Native.Nat.{ℕ, ◌<◌}
use native.Mathlib.Omega.{arith}
use mathlib.Core.Path.{◌≡◌, refl, sym, subst, ap, ◌∙◌}
use mathlib.Core.Bool.{Bool, true, false, ◌||◌, true≢false, false≢true}
use mathlib.Core.List.{List, [], ◌∷◌}
use mathlib.Core.Logic.{inl, inr}
use lib.Dec.{leb, eqb}
use borrow.Author.Tests.{eq-eqb}
use types.Run.{OneOf}
use denote.Enum.Declared.{tag_of}
use Rattle.model.specs.Limits.{most_identifiers, most_functions, most_mutations, most_renders, most_index}
use Rattle.model.specs.Lists.{pick, one_if, among}
use Rattle.model.specs.Sheet.{EvaluationOrder, EffectKind, Freeze, Mutate, MutateConditionally, MutateTransitive, MutateTransitiveConditionally, Capture, Alias, MaybeAlias, Assign, Create, CreateFrom, ImmutableCapture, Apply, CreateFunction, MutateFrozen, MutateGlobal, Impure, Render, Effect}
use Rattle.model.specs.Effects.{row_of, is_alias, is_create_function, is_relation, is_mutation, is_render}
use Rattle.model.specs.Ranges.{PlaceBelow}
use Rattle.model.specs.Graph.{into_aliases, relate}
use Rattle.model.specs.Built.{Built, between}
use Rattle.model.specs.Building.{instruction_effect, terminal_effect}
use Rattle.hir.specs.Numbers.{kind_says}
use Rattle.hir.specs.Says.{place_is, effect_is}
use Rattle.hir.specs.declared.AliasingEffect.{AliasingEffect}
use Rattle.hir.specs.contracts.EffectKind.{the_type}
use Rattle.hir.specs.declared.EffectKind.{EffectKind as Kind}
use Rattle.hir.specs.declared.EffectKind.TheVariants.{Freeze as KindFreeze, Mutate as KindMutate, MutateConditionally as KindMutateConditionally, MutateTransitive as KindMutateTransitive, MutateTransitiveConditionally as KindMutateTransitiveConditionally, Capture as KindCapture, Alias as KindAlias, MaybeAlias as KindMaybeAlias, Assign as KindAssign, Create as KindCreate, CreateFrom as KindCreateFrom, ImmutableCapture as KindImmutableCapture, Apply as KindApply, CreateFunction as KindCreateFunction, MutateFrozen as KindMutateFrozen, MutateGlobal as KindMutateGlobal, Impure as KindImpure, Render as KindRender}
use Rattle.building.specs.declared.Building.{Building}
use Rattle.building.specs.Built.{index_of, Sound}
use Rattle.instructions.specs.Cost.{relations_only, kind_cost, effect_cost, terminal_effect_cost, Fits}
use Rattle.instructions.specs.Ranges.{InRange}
use Rattle.instructions.specs.Builds.{effect_step, Spends, Buildable}
use Rattle.instructions.proofs.Spending.{spends_none}

-- a relation has two places
relation_places : (k : EffectKind) → is_relation (row_of k).role ≡ true → leb 2 (row_of k).places ≡ true
unfolding row_of
relation_places Freeze h = absurd (true≢false (sym h))
relation_places Mutate h = absurd (true≢false (sym h))
relation_places MutateConditionally h = absurd (true≢false (sym h))
relation_places MutateTransitive h = absurd (true≢false (sym h))
relation_places MutateTransitiveConditionally h = absurd (true≢false (sym h))
relation_places Capture h = refl
relation_places Alias h = refl
relation_places MaybeAlias h = refl
relation_places Assign h = refl
relation_places Create h = absurd (true≢false (sym h))
relation_places CreateFrom h = refl
relation_places ImmutableCapture h = absurd (true≢false (sym h))
relation_places Apply h = absurd (true≢false (sym h))
relation_places CreateFunction h = absurd (true≢false (sym h))
relation_places MutateFrozen h = absurd (true≢false (sym h))
relation_places MutateGlobal h = absurd (true≢false (sym h))
relation_places Impure h = absurd (true≢false (sym h))
relation_places Render h = absurd (true≢false (sym h))

-- ---- an effect of an instruction
-- what is asked of the building
abbrev Asked : AliasingEffect → List ℕ → Building → Type 0
Asked e ws b = Buildable (effect_is e) InRange effect_cost ws b

module _ (e : AliasingEffect) {k : Kind} (q : e.kind ≡ k) {ws : List ℕ} {b : Building} where
  -- its step
  pub effect_of : (o : EvaluationOrder) {ws' : List ℕ} {r : Building} → Spends (instruction_effect (kind_says k) o (effect_is e)) (kind_cost (kind_says k)) ws b ws' r → Spends (effect_step o (effect_is e)) (effect_cost (effect_is e)) ws b ws' r
  effect_of o {ws'} {r} h = subst (λ (k : Kind). Spends (instruction_effect (kind_says k) o (effect_is e)) (kind_cost (kind_says k)) ws b ws' r) (sym q) h

  room : Asked e ws b → Fits (kind_cost (kind_says k)) b
  room p = subst (λ (k : Kind). Fits (kind_cost (kind_says k)) b) q p.fits

  pub relation_can : is_relation (row_of (kind_says k)).role ≡ true → Asked e ws b → (index_of b < most_index) × (PlaceBelow most_identifiers (place_is e.first) × PlaceBelow most_identifiers (place_is e.second))
  unfolding kind_cost
  relation_can t p = (omega (arith, (room p).indexes, ap one_if t), (p.range.first, p.range.second (ap (λ (j : Kind). leb 2 (row_of (kind_says j)).places) q ∙ relation_places (kind_says k) t)))

  pub mutation_can : is_mutation (row_of (kind_says k)).role ≡ true → Asked e ws b → (index_of b < most_index) × ((b.mutations < most_mutations) × PlaceBelow most_identifiers (place_is e.first))
  unfolding kind_cost
  mutation_can t p = (omega (arith, (room p).indexes, ap one_if t), (omega (arith, (room p).mutations, ap one_if t), p.range.first))

  pub render_can : is_render (row_of (kind_says k)).role ≡ true → Asked e ws b → (index_of b < most_index) × ((b.renders < most_renders) × PlaceBelow most_identifiers (place_is e.first))
  unfolding kind_cost
  render_can t p = (omega (arith, (room p).indexes, ap one_if t), (omega (arith, (room p).renders, ap one_if t), p.range.first))

-- it is an inner function
pub function-below : (e : AliasingEffect) → e.kind ≡ KindCreateFunction → InRange (effect_is e) → e.extra < most_functions
unfolding row_of
function-below e q h = h.function (ap (λ (k : Kind). is_create_function (kind_says k)) q)

-- ---- the last arm of a match: the kind's number is one of these
or_true : (b : Bool) → b || true ≡ true
or_true true = refl
or_true false = refl

pub one_of : (l : List ℕ) (x : ℕ) → OneOf l x → among x l ≡ true
one_of [] x h = absurd h
one_of (k ∷ []) x h = rw (eq-eqb x k h)
one_of (k ∷ j ∷ l) x h = elim h [ inl a ↦ rw (eq-eqb x k a) | inr b ↦ rw (one_of (j ∷ l) x b) (or_true (eqb x k)) ]

-- the kinds that do nothing
abbrev pub idle_kinds : List ℕ
idle_kinds = 0 ∷ 11 ∷ 12 ∷ 14 ∷ 15 ∷ 16 ∷ []

pub idle : (k : Kind) → among (tag_of the_type k) idle_kinds ≡ true → (o : EvaluationOrder) (e : Effect) {ws : List ℕ} {b : Building} → Sound ws b → Spends (instruction_effect (kind_says k) o e) (kind_cost (kind_says k)) ws b ws b
unfolding instruction_effect kind_cost row_of
idle KindFreeze t o e h = spends_none h
idle KindMutate t o e h = absurd (false≢true t)
idle KindMutateConditionally t o e h = absurd (false≢true t)
idle KindMutateTransitive t o e h = absurd (false≢true t)
idle KindMutateTransitiveConditionally t o e h = absurd (false≢true t)
idle KindCapture t o e h = absurd (false≢true t)
idle KindAlias t o e h = absurd (false≢true t)
idle KindMaybeAlias t o e h = absurd (false≢true t)
idle KindAssign t o e h = absurd (false≢true t)
idle KindCreate t o e h = absurd (false≢true t)
idle KindCreateFrom t o e h = absurd (false≢true t)
idle KindImmutableCapture t o e h = spends_none h
idle KindApply t o e h = spends_none h
idle KindCreateFunction t o e h = absurd (false≢true t)
idle KindMutateFrozen t o e h = spends_none h
idle KindMutateGlobal t o e h = spends_none h
idle KindImpure t o e h = spends_none h
idle KindRender t o e h = absurd (false≢true t)

-- ---- an effect of a terminal: an Alias, or one that does nothing
module _ (e : AliasingEffect) {t : Bool} (q : is_alias (kind_says e.kind) ≡ t) {ws : List ℕ} {b : Building} where
  pub terminal-effect_of : {ws' : List ℕ} {r : Building} → Spends (λ (z : Built). pick t (between (relate into_aliases) (place_is e.first) (place_is e.second) z) z) (relations_only (one_if t)) ws b ws' r
      → Spends (terminal_effect (effect_is e)) (terminal_effect_cost (effect_is e)) ws b ws' r
  unfolding terminal_effect terminal_effect_cost
  terminal-effect_of {ws'} {r} h = subst (λ (t : Bool). Spends (λ (z : Built). pick t (between (relate into_aliases) (place_is e.first) (place_is e.second) z) z) (relations_only (one_if t)) ws b ws' r) (sym q) h

pub is_alias_lem : {k : Kind} → k ≡ KindAlias → is_alias (kind_says k) ≡ true
unfolding row_of
is_alias_lem q = ap (λ (k : Kind). is_alias (kind_says k)) q

-- Alias has two places
pub alias_places : {k : Kind} → k ≡ KindAlias → leb 2 (row_of (kind_says k)).places ≡ true
unfolding row_of
alias_places q = ap (λ (j : Kind). leb 2 (row_of (kind_says j)).places) q

pub alias_fits : (e : AliasingEffect) {b : Building} → is_alias (kind_says e.kind) ≡ true → Fits (terminal_effect_cost (effect_is e)) b → index_of b < most_index
unfolding terminal_effect_cost
alias_fits e t f = omega (arith, f.indexes, ap one_if t)

-- the kinds that are no Alias
abbrev pub other_kinds : List ℕ
other_kinds = 0 ∷ 1 ∷ 2 ∷ 3 ∷ 4 ∷ 5 ∷ 7 ∷ 8 ∷ 9 ∷ 10 ∷ 11 ∷ 12 ∷ 13 ∷ 14 ∷ 15 ∷ 16 ∷ 17 ∷ []

pub not_alias : (k : Kind) → among (tag_of the_type k) other_kinds ≡ true → is_alias (kind_says k) ≡ false
unfolding row_of
not_alias KindFreeze t = refl
not_alias KindMutate t = refl
not_alias KindMutateConditionally t = refl
not_alias KindMutateTransitive t = refl
not_alias KindMutateTransitiveConditionally t = refl
not_alias KindCapture t = refl
not_alias KindAlias t = absurd (false≢true t)
not_alias KindMaybeAlias t = refl
not_alias KindAssign t = refl
not_alias KindCreate t = refl
not_alias KindCreateFrom t = refl
not_alias KindImmutableCapture t = refl
not_alias KindApply t = refl
not_alias KindCreateFunction t = refl
not_alias KindMutateFrozen t = refl
not_alias KindMutateGlobal t = refl
not_alias KindImpure t = refl
not_alias KindRender t = refl
