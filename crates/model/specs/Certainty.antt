-- Document 02, order 8, "How sure a parameter's mutation is": "For an accepted sheet with no phi and with every mutation transitive, show that a parameter is reported by kind 3 exactly if some
-- Definite mutation leads to it by an allowed chain without a maybe-alias step. It is reported by kind 4 exactly if it is reached and no such chain exists."
use Rattle.std.specs.Prelude.{ℕ, ◌≤◌, ◌≡◌, ◌↔◌, ◌⊎◌, Bool, true, false, ◌||◌, ◌&&◌, eqb}
use mathlib.Core.List.{List, ◌++◌, Memᴰ}
use Rattle.model.specs.Lists.{tally, one_if, Every}
use Rattle.model.specs.Sheet.{IdentifierId, Place, EffectKind, Mutate, MutateConditionally, MutateTransitive, MutateTransitiveConditionally, Effect, Instruction, list_of, Sheet}
use Rattle.model.specs.Effects.{row_of}
use Rattle.model.specs.Totals.{instruction_effects}
use Rattle.model.specs.Graph.{maybe, Node, Graph}
use Rattle.model.specs.Mutation.{Kind, conditional, definite, Mutation}
use Rattle.model.specs.Building.{build}
use Rattle.model.specs.Walks.{Item, Walk}
use Rattle.model.specs.Chain.{Step, over_forward, over_created, over_alias, over_maybe, over_capture, Chain, here, then, LeadsTo}
use Rattle.model.specs.Runs.{reached}
use Rattle.model.specs.Summary.{real_walks}
use Rattle.model.specs.Answer.{answer, answer_words}
use Rattle.model.specs.Call.{IsSheet}
use Rattle.model.specs.Demand3.{NoPhis}
use Rattle.model.specs.EndsSet.{instructions_of}

-- no maybe-alias step, in either direction: neither forwards over an edge that a MaybeAlias stored nor back along a maybe-alias
abbrev pub NotMaybe : {i : ℕ} {n : Node} {e f : Item} → Step i n e f → Type 0
NotMaybe (over_forward a h) = ¬ (a.kind ≡ maybe)
NotMaybe (over_created a h b) = Unit {0}
NotMaybe (over_alias a l h b) = Unit {0}
NotMaybe (over_maybe a l h b) = ⊥
NotMaybe (over_capture a t h b) = Unit {0}

-- "an allowed chain without a maybe-alias step"; it may have no step
abbrev pub NoneMaybe : {g : Graph} {m : Mutation} {e : Item} → Chain g m e → Type 0
NoneMaybe (here n h) = Unit {0}
NoneMaybe (then n n' c h s h') = NoneMaybe c × NotMaybe s

-- such a chain of m leads to the identifier x
abbrev pub LeadsWithoutMaybe : Graph → Mutation → IdentifierId → Type 0
LeadsWithoutMaybe g m x = (e : Item) × (e.identifier ≡ x) × (c : Chain g m e) × NoneMaybe c

-- "some Definite mutation leads to it by an allowed chain without a maybe-alias step"
abbrev pub MutatedDefinitely : Sheet → IdentifierId → Type 0
MutatedDefinitely s x = (m : Mutation) × Memᴰ m (build s).mutations × (m.kind ≡ definite) × LeadsWithoutMaybe (build s).graph m x

-- some mutation leads to it by an allowed chain
abbrev pub Mutated : Sheet → IdentifierId → Type 0
Mutated s x = (m : Mutation) × Memᴰ m (build s).mutations × LeadsTo (build s).graph m x

-- "it is reached": by the walk of some mutation, in the call's own run
abbrev pub IsReached : Sheet → IdentifierId → Type 0
IsReached s x = (w : Walk) × Memᴰ w (real_walks s) × (reached w x ≡ true)

-- "reported by kind k": an effect of this kind in the answer has the identifier in its first place
abbrev pub Reported : EffectKind → Sheet → IdentifierId → Type 0
Reported k s x = (e : Effect) × Memᴰ e (answer s).effects × (e.kind ≡ k) × (e.first.identifier ≡ x)

-- whether the effect is such a report
abbrev pub is_report : EffectKind → IdentifierId → Effect → Bool
is_report k x e = eqb (row_of e.kind).number (row_of k).number && eqb x e.first.identifier

-- how many of the answer's effects are
unfoldable pub times_reported : EffectKind → Sheet → IdentifierId → ℕ
times_reported k s x = tally (λ (e : Effect). one_if (is_report k x e)) (answer s).effects

-- how many places of context and parameters have the identifier
unfoldable pub times_listed : Sheet → IdentifierId → ℕ
times_listed s x = tally (λ (p : Place). one_if (eqb x p.identifier)) (s.context ++ s.params)

-- kinds 1 and 2
abbrev pub is_local : EffectKind → Bool
is_local k = eqb (row_of k).number 1 || eqb (row_of k).number 2

-- "every mutation transitive": kinds 1 and 2 do not occur in instructions. Those of terminals are no mutations
abbrev pub AllTransitive : Sheet → Type 0
AllTransitive s = Every (λ (e : Effect). is_local e.kind ≡ false) (instruction_effects s)

-- kinds 1 to 4, by whether the mutation is transitive and how sure it is
abbrev pub mutation_kind : Bool → Kind → EffectKind
mutation_kind false definite = Mutate
mutation_kind false conditional = MutateConditionally
mutation_kind true definite = MutateTransitive
mutation_kind true conditional = MutateTransitiveConditionally

-- kinds 1 to 4 come from context and parameters alone: no more effects of one kind than the identifier has places there
abbrev pub ReportsPlaces : Sheet → Type 0
ReportsPlaces s = (t : Bool) (k : Kind) (x : IdentifierId) → times_reported (mutation_kind t k) s x ≤ times_listed s x

-- the mutation m is that of an effect of an instruction: by kind, order and first place
pub record MutationOf (s : Sheet) (m : Mutation) : Type 0 where
  pub instruction : Instruction
  pub within : Memᴰ instruction (instructions_of s.blocks)
  pub effect : Effect
  pub listed : Memᴰ effect (list_of instruction)
  pub kind : effect.kind ≡ mutation_kind m.transitive m.kind
  pub order : m.order ≡ instruction.order
  pub identifier : m.identifier ≡ effect.first.identifier
  pub span : m.span ≡ effect.first.span

-- what the answer says of the identifier x
pub record Certainty (s : Sheet) (x : IdentifierId) : Type 0 where
  -- "reported by kind 3 exactly if some Definite mutation leads to it by an allowed chain without a maybe-alias step"
  pub definitely : Reported MutateTransitive s x ↔ MutatedDefinitely s x
  -- "reported by kind 4 exactly if it is reached and no such chain exists"
  pub conditionally : Reported MutateTransitiveConditionally s x ↔ (IsReached s x × ¬ MutatedDefinitely s x)
  -- here reached says no more than that an allowed chain leads to it, so that both can be read without walks
  pub chains : IsReached s x ↔ Mutated s x
  -- by one of them if it is reached, never by both, and not by kinds 1 and 2
  pub either : IsReached s x → Reported MutateTransitive s x ⊎ Reported MutateTransitiveConditionally s x
  pub not_both : ¬ (Reported MutateTransitive s x × Reported MutateTransitiveConditionally s x)
  pub local : (k : Kind) → ¬ Reported (mutation_kind false k) s x
  -- as many times as it has places
  pub places : (k : Kind) → Reported (mutation_kind true k) s x → times_reported (mutation_kind true k) s x ≡ times_listed s x
  -- if by kind 3, then it is mutated Definitely, by an effect of the sheet that can be named
  pub named : Reported MutateTransitive s x
      → (m : Mutation) × Memᴰ m (build s).mutations × (o : MutationOf s m) × (o.effect.kind ≡ MutateTransitive) × LeadsWithoutMaybe (build s).graph m x
  -- if by neither, then it is reached by no mutation
  pub neither : ¬ Reported MutateTransitive s x → ¬ Reported MutateTransitiveConditionally s x → (w : Walk) → Memᴰ w (real_walks s) → reached w x ≡ false

-- the claim about an accepted sheet, for each parameter, and for each context place as well
abbrev pub Certain : Sheet → Type 0
Certain s = NoPhis s.blocks → AllTransitive s → (p : Place) → Memᴰ p (s.context ++ s.params) → Certainty s p.identifier

-- the claim about an accepted call: its words are those of the sheet, its answer's words those of the sheet's answer
pub record CallCertain (ws words : List ℕ) : Type 0 where
  pub sheet : Sheet
  pub read : IsSheet ws sheet
  pub answered : answer_words (answer sheet) ≡ words
  pub claim : Certain sheet
