-- The marks of an instruction's effects: those of an effect more decide before those of the effects before it.
use Prim.Native.Nat.{ℕ, ◌≤◌, ◌<◌}
use mathlib.Core.Path.{◌≡◌, refl, sym, ap, subst, ◌∙◌}
use mathlib.Core.Bool.{Bool, true}
use mathlib.Core.Logic.{◌⊎◌, inl, inr}
use mathlib.Core.List.{List, [], ◌∷◌}
use lib.ListN.{get_or}
use lib.Dec.{leb}
use borrow.Author.Tests.{eq-eqb, ne_eqb, lt-ltb, le-ltb}
use Rattle.model.specs.Lists.{pick, each}
use Rattle.model.specs.Sheet.{IdentifierId, EvaluationOrder, Place, EffectKind, Freeze, Mutate, MutateConditionally, MutateTransitive, MutateTransitiveConditionally, Capture, Alias, MaybeAlias, Assign, Create, CreateFrom, ImmutableCapture, Apply, CreateFunction, MutateFrozen, MutateGlobal, Impure, Render, Effect, EffectList}
use Rattle.model.specs.Traits.{capture_effect, read_effect, store_effect, conditionally_mutate_effect}
use Rattle.model.specs.Effects.{row_of}
use Rattle.model.specs.Marks.{with_effect, Mark, capture_or_read, flow_marks, mark, marks_of, operand_effects, mark_of, with_mark}
use Rattle.hir.specs.Numbers.{kind_says}
use Rattle.hir.specs.Says.{effect_is}
use Rattle.hir.specs.declared.AliasingEffect.{AliasingEffect}
use Rattle.hir.specs.declared.EffectKind.{EffectKind as Kind}
use Rattle.hir.specs.declared.EffectKind.TheVariants.{Freeze as KindFreeze, Mutate as KindMutate, MutateConditionally as KindMutateConditionally, MutateTransitive as KindMutateTransitive, MutateTransitiveConditionally as KindMutateTransitiveConditionally, Capture as KindCapture, Alias as KindAlias, MaybeAlias as KindMaybeAlias, Assign as KindAssign, Create as KindCreate, CreateFrom as KindCreateFrom, ImmutableCapture as KindImmutableCapture, Apply as KindApply, CreateFunction as KindCreateFunction, MutateFrozen as KindMutateFrozen, MutateGlobal as KindMutateGlobal, Impure as KindImpure, Render as KindRender}

-- ---- Capture or Read
pub is_capture : {end o : EvaluationOrder} → o < end → capture_effect ≡ capture_or_read end o
unfolding capture_or_read
is_capture {end} {o} h = ap (λ (b : Bool). pick b capture_effect read_effect) (sym (lt-ltb o end h))

pub is_read : {end o : EvaluationOrder} → end ≤ o → read_effect ≡ capture_or_read end o
unfolding capture_or_read
is_read {end} {o} h = ap (λ (b : Bool). pick b capture_effect read_effect) (sym (le-ltb o end h))

-- ---- one mark
module _ (m : Mark) (ms : List Mark) (x : IdentifierId) (d : ℕ) where
  pub marked_here : x ≡ m.identifier → mark_of (m ∷ ms) x d ≡ m.effect
  unfolding mark_of
  marked_here e = ap (λ (b : Bool). pick b m.effect (mark_of ms x d)) (eq-eqb x m.identifier e)

  pub marked_before : ¬ (x ≡ m.identifier) → mark_of (m ∷ ms) x d ≡ mark_of ms x d
  unfolding mark_of
  marked_before h = ap (λ (b : Bool). pick b m.effect (mark_of ms x d)) (ne_eqb x m.identifier h)

pub no_mark : (x : IdentifierId) (d : ℕ) → mark_of [] x d ≡ d
unfolding mark_of
no_mark x d = refl

-- ---- a mark alone, g on identifier i
module _ (i : IdentifierId) (g : ℕ) (x : IdentifierId) (d : ℕ) where
  pub alone_here : x ≡ i → g ≡ mark_of (record { identifier = i; effect = g } ∷ []) x d
  alone_here e = sym (marked_here (record { identifier = i; effect = g }) [] x d e)

  pub alone_not : ¬ (x ≡ i) → d ≡ mark_of (record { identifier = i; effect = g } ∷ []) x d
  alone_not h = sym (marked_before (record { identifier = i; effect = g }) [] x d h ∙ no_mark x d)

-- ---- a relation's marks
module _ (ends : List EvaluationOrder) (o : EvaluationOrder) (e : Effect) (x : IdentifierId) (d : ℕ) where
  pub flow_into : x ≡ e.second.identifier → store_effect ≡ mark_of (flow_marks ends o e []) x d
  unfolding flow_marks
  flow_into h = sym (marked_here _ _ x d h)

  pub flow_from : ¬ (x ≡ e.second.identifier) → x ≡ e.first.identifier → {n : ℕ} → n ≡ capture_or_read (get_or ends e.second.identifier 0) o → n ≡ mark_of (flow_marks ends o e []) x d
  unfolding flow_marks
  flow_from h k n = n ∙ alone_here e.first.identifier (capture_or_read (get_or ends e.second.identifier 0) o) x d k ∙ sym (marked_before _ _ x d h)

  pub flow_neither : ¬ (x ≡ e.second.identifier) → ¬ (x ≡ e.first.identifier) → d ≡ mark_of (flow_marks ends o e []) x d
  unfolding flow_marks
  flow_neither h k = alone_not e.first.identifier (capture_or_read (get_or ends e.second.identifier 0) o) x d k ∙ sym (marked_before _ _ x d h)

-- ---- an effect more
pub marks_after : (k : EffectKind) (ends : List EvaluationOrder) (o : EvaluationOrder) (e : Effect) (ms : List Mark) (x : IdentifierId) (d : ℕ)
    → mark_of (marks_of k ends o e ms) x d ≡ mark_of (marks_of k ends o e []) x (mark_of ms x d)
unfolding marks_of flow_marks mark_of
marks_after Freeze ends o e ms x d = refl
marks_after Mutate ends o e ms x d = refl
marks_after MutateConditionally ends o e ms x d = refl
marks_after MutateTransitive ends o e ms x d = refl
marks_after MutateTransitiveConditionally ends o e ms x d = refl
marks_after Capture ends o e ms x d = refl
marks_after Alias ends o e ms x d = refl
marks_after MaybeAlias ends o e ms x d = refl
marks_after Assign ends o e ms x d = refl
marks_after Create ends o e ms x d = refl
marks_after CreateFrom ends o e ms x d = refl
marks_after ImmutableCapture ends o e ms x d = refl
marks_after Apply ends o e ms x d = refl
marks_after CreateFunction ends o e ms x d = refl
marks_after MutateFrozen ends o e ms x d = refl
marks_after MutateGlobal ends o e ms x d = refl
marks_after Impure ends o e ms x d = refl
marks_after Render ends o e ms x d = refl

module _ (ends : List EvaluationOrder) (o : EvaluationOrder) (x : IdentifierId) where
  -- the mark of x after one effect more
  abbrev pub mark_by : Effect → ℕ → ℕ
  mark_by e d = mark_of (marks_of e.kind ends o e []) x d

  marks_each : (l : EffectList) (ms : List Mark) (d : ℕ) → mark_of (each (λ (e : Effect). marks_of e.kind ends o e) l ms) x d ≡ each mark_by l (mark_of ms x d)
  marks_each [] ms d = refl
  marks_each (e ∷ l) ms d = marks_each l (marks_of e.kind ends o e ms) d ∙ ap (each mark_by l) (marks_after e.kind ends o e ms x d)

  -- after all of them
  pub marks_all : (l : EffectList) (d : ℕ) → mark_of (operand_effects ends o l) x d ≡ each mark_by l d
  unfolding operand_effects
  marks_all l d = marks_each l [] d ∙ ap (each mark_by l) (no_mark x d)

-- a place with its mark
pub with_mark_lem : (ms : List Mark) (d : ℕ) {n : ℕ} {p q r : Place} → r ≡ with_effect n p → n ≡ mark_of ms p.identifier d → p ≡ q → r ≡ with_mark ms d q
unfolding with_mark
with_mark_lem ms d {p = p} e h k = e ∙ ap (λ (n : ℕ). with_effect n p) h ∙ ap (with_mark ms d) k

-- ---- an effect whose kind is known
-- a relation's marks, and those of an effect that may mutate
module _ {k : Kind} where
  pub flowing : (k ≡ KindCapture) ⊎ ((k ≡ KindAlias) ⊎ ((k ≡ KindMaybeAlias) ⊎ ((k ≡ KindAssign) ⊎ (k ≡ KindCreateFrom))))
      → leb 2 (row_of (kind_says k)).places ≡ true × ((ends : List EvaluationOrder) (o : EvaluationOrder) (e : Effect) (ms : List Mark) → flow_marks ends o e ms ≡ marks_of (kind_says k) ends o e ms)
  unfolding row_of marks_of
  flowing (inl q) = rw q (refl, λ ends o e ms. refl)
  flowing (inr (inl q)) = rw q (refl, λ ends o e ms. refl)
  flowing (inr (inr (inl q))) = rw q (refl, λ ends o e ms. refl)
  flowing (inr (inr (inr (inl q)))) = rw q (refl, λ ends o e ms. refl)
  flowing (inr (inr (inr (inr q)))) = rw q (refl, λ ends o e ms. refl)

  pub conditional : (k ≡ KindMutateConditionally) ⊎ ((k ≡ KindMutateTransitive) ⊎ (k ≡ KindMutateTransitiveConditionally))
      → (ends : List EvaluationOrder) (o : EvaluationOrder) (e : Effect) (ms : List Mark) → mark e.first conditionally_mutate_effect ms ≡ marks_of (kind_says k) ends o e ms
  unfolding marks_of
  conditional (inl q) ends o e ms = rw q refl
  conditional (inr (inl q)) ends o e ms = rw q refl
  conditional (inr (inr q)) ends o e ms = rw q refl

module _ (e : AliasingEffect) {k : Kind} (q : e.kind ≡ k) where
  -- its marks
  pub marked_by : (ends : List EvaluationOrder) (o : EvaluationOrder) (x : IdentifierId) (d : ℕ) {n : ℕ} → n ≡ mark_of (marks_of (kind_says k) ends o (effect_is e) []) x d → n ≡ mark_of (marks_of (effect_is e).kind ends o (effect_is e) []) x d
  marked_by ends o x d {n} h = subst (λ (j : Kind). n ≡ mark_of (marks_of (kind_says j) ends o (effect_is e) []) x d) (sym q) h

-- the kinds that mark nothing
pub silent : (k : Kind) → ¬ (k ≡ KindFreeze) → ¬ (k ≡ KindMutate) → ¬ (k ≡ KindMutateConditionally) → ¬ (k ≡ KindMutateTransitive) → ¬ (k ≡ KindMutateTransitiveConditionally) → ¬ (k ≡ KindCapture)
    → ¬ (k ≡ KindAlias) → ¬ (k ≡ KindMaybeAlias) → ¬ (k ≡ KindAssign) → ¬ (k ≡ KindCreateFrom)
    → (ends : List EvaluationOrder) (o : EvaluationOrder) (e : Effect) (x : IdentifierId) (d : ℕ) → d ≡ mark_of (marks_of (kind_says k) ends o e []) x d
unfolding marks_of mark_of
silent KindFreeze a b c f g h i j l m ends o e x d = absurd (a refl)
silent KindMutate a b c f g h i j l m ends o e x d = absurd (b refl)
silent KindMutateConditionally a b c f g h i j l m ends o e x d = absurd (c refl)
silent KindMutateTransitive a b c f g h i j l m ends o e x d = absurd (f refl)
silent KindMutateTransitiveConditionally a b c f g h i j l m ends o e x d = absurd (g refl)
silent KindCapture a b c f g h i j l m ends o e x d = absurd (h refl)
silent KindAlias a b c f g h i j l m ends o e x d = absurd (i refl)
silent KindMaybeAlias a b c f g h i j l m ends o e x d = absurd (j refl)
silent KindAssign a b c f g h i j l m ends o e x d = absurd (l refl)
silent KindCreate a b c f g h i j l m ends o e x d = refl
silent KindCreateFrom a b c f g h i j l m ends o e x d = absurd (m refl)
silent KindImmutableCapture a b c f g h i j l m ends o e x d = refl
silent KindApply a b c f g h i j l m ends o e x d = refl
silent KindCreateFunction a b c f g h i j l m ends o e x d = refl
silent KindMutateFrozen a b c f g h i j l m ends o e x d = refl
silent KindMutateGlobal a b c f g h i j l m ends o e x d = refl
silent KindImpure a b c f g h i j l m ends o e x d = refl
silent KindRender a b c f g h i j l m ends o e x d = refl
