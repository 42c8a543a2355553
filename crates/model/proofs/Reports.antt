-- Which effects of the answer are of kinds 1 to 4: those of the records of context and parameters, one for each place, and no others. Of every sheet.
use Prim.Native.Nat.{ℕ, ◌+◌, ◌≤◌, ◌<◌}
use native.Mathlib.Omega.{arith}
use mathlib.Core.Path.{◌≡◌, refl, sym, ap, ◌∙◌}
use mathlib.Core.Bool.{Bool, true, false, ◌||◌, ◌&&◌, true≢false}
use mathlib.Core.List.{List, [], ◌∷◌, ◌++◌, Memᴰ}
use mathlib.Core.Option.{Option, none, some}
use lib.ListN.{get_or}
use lib.Dec.{eqb}
use borrow.Author.Tests.{eqb-true, eq-eqb}
use Rattle.model.specs.Lists.{pick, gather, tally, one_if, Every}
use Rattle.model.specs.Sheet.{Place, EffectKind, Alias, Capture, Effect, Sheet}
use Rattle.model.specs.Effects.{Role, relation, mutation, render, diagnosis, nothing, kind_of, row_of, is_mutation, is_render, is_diagnosis}
use Rattle.model.specs.Totals.{instruction_effects}
use Rattle.model.specs.Mutation.{Kind, conditional, definite, level}
use Rattle.model.specs.Building.{build}
use Rattle.model.specs.State.{Info, Record, no_record, State, simulated}
use Rattle.model.specs.Walks.{mutate}
use Rattle.model.specs.Summary.{after_renders, copied, record_of, local_effect, transitive_effect, local_effects, transitive_effects, collect_param_effects, create_returns}
use Rattle.model.specs.Simulated.{tracked, simulation, flows, flow_effect, flow_effects, Simulated, simulate}
use Rattle.model.specs.Answer.{summary, answer}
use Rattle.model.specs.Certainty.{Reported, is_report, times_reported, times_listed, mutation_kind, ReportsPlaces}
use Rattle.model.proofs.EncoderParts.{kind_back}
use Rattle.model.proofs.Everywhere.{every_of, every_keep, every_append, every_gather}
use Rattle.model.proofs.Tallies.{tally_each, tally_member, tally_some}
use Rattle.model.proofs.Stored.{tally_append}
use Rattle.model.proofs.BuiltKeeps.{each_keeps}
use Rattle.model.proofs.Simulating.{next}
use Rattle.model.proofs.Levels.{info_level}

and_both : (a b : Bool) → (a && b) ≡ true → (a ≡ true) × (b ≡ true)
and_both true b h = (refl, h)
and_both false b h = absurd (true≢false (sym h))

-- what a report says of its effect, and the other way
report_says : (k : EffectKind) (x : ℕ) (e : Effect) → is_report k x e ≡ true → (e.kind ≡ k) × (e.first.identifier ≡ x)
report_says k x e h =
    let w = and_both (eqb (row_of e.kind).number (row_of k).number) (eqb x e.first.identifier) h in
    (sym (kind_back e.kind) ∙ ap kind_of (eqb-true _ _ w.0) ∙ kind_back k, sym (eqb-true _ _ w.1))

says_report : (k : EffectKind) (x : ℕ) (e : Effect) → e.kind ≡ k → e.first.identifier ≡ x → is_report k x e ≡ true
says_report k x e h y = rw (eq-eqb (row_of e.kind).number (row_of k).number (ap (λ (j : EffectKind). (row_of j).number) h), eq-eqb x e.first.identifier (sym y))

-- the transitive record, or the local one
abbrev info_of : Bool → Record → Option Info
info_of true r = r.transitive
info_of false r = r.local

-- the record of this sort is of kind k
abbrev says : Bool → Kind → Record → Bool
says t k r = eqb (info_level (info_of t r)) (level k)

-- kinds 1 to 4 are mutations, so an effect of another role is no report by them
mutation_role : (t : Bool) (k : Kind) → is_mutation (row_of (mutation_kind t k)).role ≡ true
unfolding row_of
mutation_role false definite = refl
mutation_role false conditional = refl
mutation_role true definite = refl
mutation_role true conditional = refl

-- one for each effect of this kind with this identifier
abbrev counts : Bool → Kind → ℕ → List Effect → ℕ
counts t k x = tally (λ (e : Effect). one_if (is_report (mutation_kind t k) x e))

-- one if the record is of kind k and the place is x's
abbrev one : Kind → ℕ → Place → Option Info → ℕ
one k x p o = one_if (eqb (info_level o) (level k) && eqb x p.identifier)

local_counts : (t : Bool) (k : Kind) (x : ℕ) (p : Place) (r : Record) (o : Option Info) → counts t k x (local_effects o p r) ≡ pick t 0 (one k x p o)
unfolding row_of
local_counts true k x p r none = refl
local_counts false definite x p r none = refl
local_counts false conditional x p r none = refl
local_counts t k x p r (some i) = go i.kind t k
  where
    go : (j : Kind) (t : Bool) (k : Kind) → counts t k x (local_effect j p i r ∷ []) ≡ pick t 0 (one k x p (some (record { kind = j; span = i.span })))
    go definite true definite = refl
    go definite true conditional = refl
    go conditional true definite = refl
    go conditional true conditional = refl
    go definite false definite = omega arith
    go definite false conditional = refl
    go conditional false definite = refl
    go conditional false conditional = omega arith

transitive_counts : (t : Bool) (k : Kind) (x : ℕ) (p : Place) (o : Option Info) → counts t k x (transitive_effects o p) ≡ pick t (one k x p o) 0
unfolding row_of
transitive_counts true definite x p none = refl
transitive_counts true conditional x p none = refl
transitive_counts false k x p none = refl
transitive_counts t k x p (some i) = go i.kind t k
  where
    go : (j : Kind) (t : Bool) (k : Kind) → counts t k x (transitive_effect j p i ∷ []) ≡ pick t (one k x p (some (record { kind = j; span = i.span }))) 0
    go definite true definite = omega arith
    go definite true conditional = refl
    go conditional true definite = refl
    go conditional true conditional = omega arith
    go definite false definite = refl
    go definite false conditional = refl
    go conditional false definite = refl
    go conditional false conditional = refl

-- the effects of a place's records: one if the record of this sort is of this kind
collect_counts : (t : Bool) (k : Kind) (x : ℕ) (u : State) (p : Place) → counts t k x (collect_param_effects u p) ≡ one k x p (info_of t (record_of u p))
unfolding collect_param_effects
collect_counts t k x u p =
    tally_append (λ (e : Effect). one_if (is_report (mutation_kind t k) x e)) (local_effects (record_of u p).local p (record_of u p)) (transitive_effects (record_of u p).transitive p)
    ∙ go t (local_counts t k x p (record_of u p) (record_of u p).local) (transitive_counts t k x p (record_of u p).transitive)
  where
    go : (b : Bool) {m n : ℕ} → m ≡ pick b 0 (one k x p (record_of u p).local) → n ≡ pick b (one k x p (record_of u p).transitive) 0 → m + n ≡ one k x p (info_of b (record_of u p))
    go true f g = omega arith
    go false f g = omega arith

module _ (s : Sheet) (t : Bool) (k : Kind) (x : ℕ) where
  -- one for a report by this kind
  abbrev count : Effect → ℕ
  count e = one_if (is_report (mutation_kind t k) x e)

  other_role : (e : Effect) → is_mutation (row_of e.kind).role ≡ false → count e ≡ 0
  other_role e h = go (is_report (mutation_kind t k) x e) refl
    where
      go : (b : Bool) → is_report (mutation_kind t k) x e ≡ b → one_if b ≡ 0
      go false r = refl
      go true r = absurd (true≢false (sym (ap (λ (j : EffectKind). is_mutation (row_of j).role) (report_says (mutation_kind t k) x e r).0 ∙ mutation_role t k) ∙ h))

  abbrev None : List Effect → Type 0
  None = Every (λ (e : Effect). count e ≡ 0)

  copied_role : (r : Role) → (is_diagnosis r || is_render r) ≡ true → is_mutation r ≡ false
  copied_role relation h = refl
  copied_role mutation h = sym h
  copied_role render h = refl
  copied_role diagnosis h = refl
  copied_role nothing h = refl

  copied_none : None (copied s)
  unfolding copied
  copied_none =
      every_keep (λ (e : Effect). is_diagnosis (row_of e.kind).role || is_render (row_of e.kind).role) (λ (e : Effect). count e ≡ 0)
      (λ e h. other_role e (copied_role (row_of e.kind).role h)) (instruction_effects s)

  returns_none : count (create_returns s) ≡ 0
  unfolding create_returns row_of
  returns_none = other_role (create_returns s) refl

  -- what the simulated walks give is Capture or Alias
  flow_none : (into from : Place) (b : Bool) → None (pick b (flow_effect s.returns into from ∷ []) [])
  unfolding row_of
  flow_none into from false = tt
  flow_none into from true = (other_role (flow_effect s.returns into from) (go (eqb into.identifier s.returns.identifier)), tt)
    where
      go : (b : Bool) → is_mutation (row_of (pick b Alias Capture)).role ≡ false
      go true = refl
      go false = refl

  flows_none : (i : ℕ) (into : Place) (u : State) → None (flow_effects s i into u)
  unfolding flow_effects
  flows_none i into u =
      every_gather (λ (from : Place). pick (flows s.returns i into u from) (flow_effect s.returns into from ∷ []) []) (λ (e : Effect). count e ≡ 0) (tracked s)
      (every_of _ (tracked s) (λ from m. flow_none into from (flows s.returns i into u from)))

  simulated_none : None (simulate s).effects
  unfolding simulate
  simulated_none =
      each_keeps (next s) (λ (a : Simulated). None a.effects) (tracked s) (record { state = after_renders s; index = (build s).index; walks = []; effects = [] })
      (λ into m a h. every_append (λ (e : Effect). count e ≡ 0) a.effects _ h (flows_none a.index into (mutate simulated (simulation a.index into) a.state).state)) tt

  -- so of a list of places: as many as are x's, if x's record says so
  abbrev reports : Place → ℕ
  reports p = one_if (says t k (get_or (after_renders s).records x no_record) && eqb x p.identifier)

  places_counts : (l : List Place) → counts t k x (gather (collect_param_effects (after_renders s)) l) ≡ tally reports l
  places_counts [] = refl
  places_counts (p ∷ l) =
      omega (
        arith,
        tally_append count (collect_param_effects (after_renders s) p) (gather (collect_param_effects (after_renders s)) l),
        collect_counts t k x (after_renders s) p,
        go (eqb x p.identifier) refl,
        places_counts l,
      )
    where
      rs : List Record
      rs = (after_renders s).records

      go : (b : Bool) → eqb x p.identifier ≡ b → one_if (says t k (get_or rs p.identifier no_record) && b) ≡ one_if (says t k (get_or rs x no_record) && b)
      go true e = ap (λ (y : ℕ). one_if (says t k (get_or rs y no_record) && true)) (sym (eqb-true x p.identifier e))
      go false e = ap one_if (neither (says t k (get_or rs p.identifier no_record)) ∙ sym (neither (says t k (get_or rs x no_record))))
        where
          neither : (b : Bool) → (b && false) ≡ false
          neither true = refl
          neither false = refl

  -- all reports by this kind, in the whole answer
  times_reported_lem : times_reported (mutation_kind t k) s x ≡ tally reports (s.context ++ s.params)
  unfolding times_reported answer summary
  times_reported_lem =
      let of_context : List Effect = gather (collect_param_effects (after_renders s)) s.context in
      let of_params : List Effect = gather (collect_param_effects (after_renders s)) s.params in
      let rest : List Effect = create_returns s ∷ (simulate s).effects in
      omega (
        arith,
        tally_append count (copied s) (of_context ++ (of_params ++ rest)),
        tally_append count of_context (of_params ++ rest),
        tally_append count of_params rest,
        tally_each count 0 (copied s) copied_none,
        tally_each count 0 (simulate s).effects simulated_none,
        returns_none,
        places_counts s.context,
        places_counts s.params,
        tally_append reports s.context s.params,
      )

  -- x's record of this sort is of this kind
  abbrev pub Recorded : Type 0
  Recorded = info_level (info_of t (get_or (after_renders s).records x no_record)) ≡ level k

  said_times : (b : Bool) → says t k (get_or (after_renders s).records x no_record) ≡ b → times_reported (mutation_kind t k) s x ≡ pick b (times_listed s x) 0
  unfolding times_listed
  said_times true h = times_reported_lem ∙ ap (λ (b : Bool). tally (λ (p : Place). one_if (b && eqb x p.identifier)) (s.context ++ s.params)) h
  said_times false h =
      times_reported_lem ∙ ap (λ (b : Bool). tally (λ (p : Place). one_if (b && eqb x p.identifier)) (s.context ++ s.params)) h
      ∙ omega (arith, tally_each (λ (p : Place). 0) 0 (s.context ++ s.params) (every_of _ (s.context ++ s.params) (λ p m. refl)))

  -- then each place of x is reported once by this kind
  pub recorded_times : Recorded → times_reported (mutation_kind t k) s x ≡ times_listed s x
  recorded_times h = said_times true (eq-eqb _ _ h)

  -- and else none
  pub reported_recorded : Reported (mutation_kind t k) s x → Recorded
  unfolding times_reported
  reported_recorded w = go (says t k (get_or (after_renders s).records x no_record)) refl
    where
      some_counts : 0 < times_reported (mutation_kind t k) s x
      some_counts = omega (arith, tally_member count w.1, ap one_if (says_report (mutation_kind t k) x w.0 w.2 w.3))

      go : (b : Bool) → says t k (get_or (after_renders s).records x no_record) ≡ b → Recorded
      go true h = eqb-true _ _ h
      go false h = absurd (omega (arith, some_counts, said_times false h))

  pub recorded_reported : (p : Place) → Memᴰ p (s.context ++ s.params) → p.identifier ≡ x → Recorded → Reported (mutation_kind t k) s x
  unfolding times_reported times_listed
  recorded_reported p m y h =
      let listed : 0 < times_listed s x = omega (arith, tally_member (λ (q : Place). one_if (eqb x q.identifier)) m, ap one_if (eq-eqb x p.identifier (sym y))) in
      let w = tally_some count (answer s).effects (omega (arith, listed, recorded_times h)) in
      let r = report_says (mutation_kind t k) x w.0 (counted (is_report (mutation_kind t k) x w.0) w.2) in
      (w.0, w.1, r.0, r.1)
    where
      counted : (b : Bool) → 0 < one_if b → b ≡ true
      counted true z = refl
      counted false z = absurd (omega arith)

-- so kinds 1 to 4 are there for places of context and parameters alone
pub reports_places : (s : Sheet) → ReportsPlaces s
reports_places s t k x = go (says t k (get_or (after_renders s).records x no_record)) refl
  where
    go : (b : Bool) → says t k (get_or (after_renders s).records x no_record) ≡ b → times_reported (mutation_kind t k) s x ≤ times_listed s x
    go true h = omega (arith, said_times s t k x true h)
    go false h = omega (arith, said_times s t k x false h)
