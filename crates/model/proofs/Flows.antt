-- How many simulated walks there are, and how many effects they give: of k parameters and context places at most k × k, since no place flows into its own identifier and none of returns' identifier does.
use Prim.Native.Nat.{ℕ, zero, suc, ◌+◌, ◌*◌, ◌≤◌}
use native.Mathlib.Omega.{arith}
use mathlib.Core.Path.{◌≡◌, refl, sym, ap, ◌∙◌}
use mathlib.Core.Bool.{Bool, true, false, ◌&&◌, not}
use mathlib.Core.List.{List, [], ◌∷◌, ◌++◌, map, append_assoc, Memᴰ}
use lib.ListN.{length, length-append, length-map}
use lib.Dec.{eqb}
use borrow.Author.Tests.{eq-eqb}
use Rattle.model.specs.Lists.{pick, each, tally, one_if, Every}
use Rattle.model.specs.Sheet.{Place, Effect, Sheet}
use Rattle.model.specs.Building.{build}
use Rattle.model.specs.State.{State, simulated}
use Rattle.model.specs.Walks.{mutate}
use Rattle.model.specs.Summary.{record_of, marked, after_renders}
use Rattle.model.specs.Simulated.{tracked, simulation, flows, flow_effect, flow_effects, Simulated, simulate}
use Rattle.model.proofs.Stored.{tally_append}
use Rattle.model.proofs.Simulating.{next}
use Rattle.model.proofs.Everywhere.{every_of}
use Rattle.model.proofs.Tallies.{tally_most, tally_but_one, gather_tally, one_most}

module _ (s : Sheet) where
  -- parameters and context, with their marks
  abbrev sources : List Place
  sources = map (marked (after_renders s)) s.params ++ map (marked (after_renders s)) s.context

  sources_length : length sources ≡ length s.params + length s.context
  sources_length =
      let ps : List Place = map (marked (after_renders s)) s.params in
      let cs : List Place = map (marked (after_renders s)) s.context in
      omega (arith, length-append ps cs, length-map s.params (marked (after_renders s)), length-map s.context (marked (after_renders s)))

  tracked_sources : tracked s ≡ sources ++ (s.returns ∷ [])
  unfolding tracked
  tracked_sources = sym (append_assoc (map (marked (after_renders s)) s.params) (map (marked (after_renders s)) s.context) (s.returns ∷ []))

  pub tracked-length : length (tracked s) ≡ length s.params + length s.context + 1
  tracked-length =
      let r : List Place = s.returns ∷ [] in
      omega (arith, ap (λ (l : List Place). length l) tracked_sources, length-append sources r, sources_length)

  -- ---- the walks
  walks_more : (l : List Place) (a : Simulated) → length (each (next s) l a).walks ≡ length l + length a.walks
  walks_more [] a = omega arith
  walks_more (p ∷ l) a =
      let w = mutate simulated (simulation a.index p) a.state in
      omega (arith, walks_more l (next s p a), length-append a.walks (w ∷ []))

  -- one for each of parameters, context and returns
  pub simulate_walks : length (simulate s).walks ≡ length s.params + length s.context + 1
  unfolding simulate
  simulate_walks = omega (arith, walks_more (tracked s) (record { state = after_renders s; index = (build s).index; walks = []; effects = [] }), tracked-length)

  -- ---- the effects
  -- one if the identifiers allow that `from` flows into `into`
  abbrev may_flow : Place → Place → ℕ
  may_flow into from = one_if (not (eqb from.identifier into.identifier) && not (eqb from.identifier s.returns.identifier))

  flow_most : (x y z : Bool) (e : Effect) → length (pick (x && (y && z)) (e ∷ []) []) ≤ one_if (x && y)
  flow_most false y z e = omega arith
  flow_most true false z e = omega arith
  flow_most true true false e = omega arith
  flow_most true true true e = omega arith

  not_own : (into : Place) → may_flow into into ≡ 0
  not_own into = rw (eq-eqb into.identifier into.identifier refl)

  not_returns : (into : Place) → may_flow into s.returns ≡ 0
  not_returns into = rw (eq-eqb s.returns.identifier s.returns.identifier refl) (go (eqb s.returns.identifier into.identifier))
    where
      go : (b : Bool) → one_if (not b && false) ≡ 0
      go true = refl
      go false = refl

  -- the effects that the walk of `into` gives at most
  abbrev inflow : Place → ℕ
  inflow into = tally (may_flow into) (tracked s)

  flows_most : (i : ℕ) (into : Place) (t : State) → length (flow_effects s i into t) ≤ inflow into
  unfolding flow_effects
  flows_most i into t = omega (arith, gather_tally (λ (from : Place). pick (flows s.returns i into t from) (flow_effect s.returns into from ∷ []) []) (tracked s), go (tracked s))
    where
      go : (l : List Place) → tally (λ (from : Place). length (pick (flows s.returns i into t from) (flow_effect s.returns into from ∷ []) [])) l ≤ tally (may_flow into) l
      go [] = omega arith
      go (p ∷ l) =
          omega (
            arith,
            go l,
            flow_most (not (eqb p.identifier into.identifier)) (not (eqb p.identifier s.returns.identifier)) (eqb (record_of t p).last i) (flow_effect s.returns into p),
          )

  effects_more : (l : List Place) (a : Simulated) → length (each (next s) l a).effects ≤ tally inflow l + length a.effects
  effects_more [] a = omega arith
  effects_more (p ∷ l) a =
      let t : State = (mutate simulated (simulation a.index p) a.state).state in
      omega (arith, effects_more l (next s p a), length-append a.effects (flow_effects s a.index p t), flows_most a.index p t)

  -- nothing flows from returns
  from_sources : (into : Place) → inflow into ≡ tally (may_flow into) sources
  from_sources into =
      let r : List Place = s.returns ∷ [] in
      ap (λ (l : List Place). tally (may_flow into) l) tracked_sources ∙ omega (arith, tally_append (may_flow into) sources r, not_returns into)

  one_each : (into : Place) → Every (λ (from : Place). may_flow into from ≤ 1) sources
  one_each into = every_of (λ (from : Place). may_flow into from ≤ 1) sources (λ from m. one_most (not (eqb from.identifier into.identifier) && not (eqb from.identifier s.returns.identifier)))

  inflow_returns : inflow s.returns ≤ length sources
  inflow_returns = omega (arith, from_sources s.returns, tally_most (may_flow s.returns) 1 sources (one_each s.returns))

  inflow_source : (into : Place) → Memᴰ into sources → suc (inflow into) ≤ length sources
  inflow_source into m = omega (arith, from_sources into, tally_but_one (may_flow into) m (not_own into) (one_each into))

  inflow_split : tally inflow (tracked s) ≡ tally inflow sources + inflow s.returns
  inflow_split = let r : List Place = s.returns ∷ [] in ap (λ (l : List Place). tally inflow l) tracked_sources ∙ omega (arith, tally_append inflow sources r)

  inflow_all : (k : ℕ) → length sources ≡ k → tally inflow (tracked s) ≤ k * k
  inflow_all zero h =
      omega (arith, h, inflow_split, inflow_returns, tally_most inflow 0 sources (every_of (λ (p : Place). inflow p ≤ 0) sources (λ p m. omega (arith, h, inflow_source p m))))
  inflow_all (suc j) h =
      let sum : tally inflow sources ≤ j * length sources = tally_most inflow j sources (every_of (λ (p : Place). inflow p ≤ j) sources (λ p m. omega (arith, h, inflow_source p m))) in
      omega (arith, h, ap (λ (n : ℕ). j * n) h, inflow_split, inflow_returns, sum)

  pub simulate-effects : length (simulate s).effects ≤ (length s.params + length s.context) * (length s.params + length s.context)
  unfolding simulate
  simulate-effects =
      omega (
        arith,
        effects_more (tracked s) (record { state = after_renders s; index = (build s).index; walks = []; effects = [] }),
        inflow_all (length s.params + length s.context) sources_length,
      )
