-- Document 02, order 4: the effect on each operand, as an instruction's effects give it (the Rust's `operand_effects`).
use Rattle.std.specs.Prelude.{ℕ, List, [], ◌∷◌, get_or, eqb, ltb}
use Rattle.model.specs.Lists.{pick, each}
use Rattle.model.specs.Sheet.{IdentifierId, EvaluationOrder, Place, EffectKind, Freeze, Mutate, MutateConditionally, MutateTransitive, MutateTransitiveConditionally, Capture, Alias, MaybeAlias, Assign, Create, CreateFrom, ImmutableCapture, Apply, CreateFunction, MutateFrozen, MutateGlobal, Impure, Render, Effect, EffectList}
use Rattle.model.specs.Traits.{freeze_effect, read_effect, capture_effect, conditionally_mutate_effect, store_effect}

-- a mark replaces the effect only: identifier, reactive bit and span stay
unfoldable pub with_effect : ℕ → Place → Place
with_effect e p = record { identifier = p.identifier; effect = e; reactive = p.reactive; span = p.span }

-- what an effect says of an identifier
pub record Mark : Type 0 where
  pub identifier : IdentifierId
  pub effect : ℕ

-- a place's identifier gets the effect; the newest mark is first
abbrev pub mark : Place → ℕ → List Mark → List Mark
mark p e ms = record { identifier = p.identifier; effect = e } ∷ ms

-- Capture if the end is above the order, else Read
unfoldable pub capture_or_read : EvaluationOrder → EvaluationOrder → ℕ
capture_or_read end o = pick (ltb o end) capture_effect read_effect

-- a relation: "from" by the end of "into", then "into" is Store
unfoldable pub flow_marks : List EvaluationOrder → EvaluationOrder → Effect → List Mark → List Mark
flow_marks ends o e ms = mark e.second store_effect (mark e.first (capture_or_read (get_or ends e.second.identifier 0) o) ms)

-- what an effect of an instruction with this order adds, by its kind
unfoldable pub marks_of : EffectKind → List EvaluationOrder → EvaluationOrder → Effect → List Mark → List Mark
marks_of Freeze ends o e ms = mark e.first freeze_effect ms
marks_of Mutate ends o e ms = mark e.first store_effect ms
marks_of MutateConditionally ends o e ms = mark e.first conditionally_mutate_effect ms
marks_of MutateTransitive ends o e ms = mark e.first conditionally_mutate_effect ms
marks_of MutateTransitiveConditionally ends o e ms = mark e.first conditionally_mutate_effect ms
marks_of Capture ends o e ms = flow_marks ends o e ms
marks_of Alias ends o e ms = flow_marks ends o e ms
marks_of MaybeAlias ends o e ms = flow_marks ends o e ms
marks_of Assign ends o e ms = flow_marks ends o e ms
marks_of Create ends o e ms = ms
marks_of CreateFrom ends o e ms = flow_marks ends o e ms
marks_of ImmutableCapture ends o e ms = ms
marks_of Apply ends o e ms = ms
marks_of CreateFunction ends o e ms = ms
marks_of MutateFrozen ends o e ms = ms
marks_of MutateGlobal ends o e ms = ms
marks_of Impure ends o e ms = ms
marks_of Render ends o e ms = ms

-- the marks of a list of effects, those of the last effect first
unfoldable pub operand_effects : List EvaluationOrder → EvaluationOrder → EffectList → List Mark
operand_effects ends o l = each (λ (e : Effect). marks_of e.kind ends o e) l []

-- the newest mark of an identifier, else the given effect
unfoldable pub mark_of : List Mark → IdentifierId → ℕ → ℕ
mark_of [] x d = d
mark_of (m ∷ ms) x d = pick (eqb x m.identifier) m.effect (mark_of ms x d)

-- a place with its mark, else with the given effect
unfoldable pub with_mark : List Mark → ℕ → Place → Place
with_mark ms d p = with_effect (mark_of ms p.identifier d) p
