-- How many words a section, a sheet and an answer have, and how many records each section of a sheet's answer has, or has at most.
use Prim.Native.Nat.{ℕ, ◌+◌, ◌*◌, ◌≤◌}
use native.Mathlib.Omega.{arith}
use mathlib.Core.Path.{◌≡◌, refl}
use mathlib.Core.List.{List, [], ◌∷◌, ◌++◌}
use mathlib.Core.Option.{Option, none, some}
use lib.ListN.{length, length-append, length-map}
use Rattle.model.specs.Limits.{flags_width, returns_count, identifier_width, place_width, diagnostic_width, effect_width}
use Rattle.model.specs.Lists.{gather, Every}
use Rattle.model.specs.Sheet.{Place, Effect, Block, Sheet}
use Rattle.model.specs.Totals.{totals}
use Rattle.model.specs.Mutation.{Mutation}
use Rattle.model.specs.Building.{build}
use Rattle.model.specs.State.{Info, State, Mode, real}
use Rattle.model.specs.Walks.{Walk, mutate}
use Rattle.model.specs.Runs.{walks_of}
use Rattle.model.specs.Summary.{errors, built, real_walks, after_renders, copied, record_of, local_effects, transitive_effects, collect_param_effects, create_returns}
use Rattle.model.specs.Simulated.{simulate}
use Rattle.model.specs.Answer.{Answer, range_words, place_words, diagnostic_words, effect_words, count_words, section, summary, answer, middle_words, operand_words, answer_words}
use Rattle.model.specs.Encoder.{identifier_words, function_words, phi_words, instruction_words, terminal_words, block_words, sheet_words}
use Rattle.model.proofs.Everywhere.{every_of}
use Rattle.model.proofs.Tallies.{tally_each, tally_most, gather_tally}
use Rattle.model.proofs.Counted.{build_mutations}
use Rattle.model.proofs.Flows.{simulate_walks, simulate-effects}

module _ {A : Type 0} (w : A → List ℕ) (k : ℕ) where
  -- records that all have k words
  pub section_each : (l : List A) → Every (λ (a : A). length (w a) ≡ k) l → length (section w l) ≡ 1 + k * length l
  section_each l h = omega (arith, gather_tally w l, tally_each (λ (a : A). length (w a)) k l h)

  -- every record of this form has k words
  pub section-length : ((a : A) → length (w a) ≡ k) → (l : List A) → length (section w l) ≡ 1 + k * length l
  section-length e l = section_each l (every_of (λ (a : A). length (w a) ≡ k) l (λ a m. e a))

-- the words of a sheet by the records of its sections
pub sheet-words : (s : Sheet)
    → length (sheet_words s)
    ≡ flags_width + (1 + identifier_width * length s.identifiers) + length (section function_words s.functions) + (2 + place_width * (length s.params + length s.context)) + (1 + place_width)
    + length (section block_words s.blocks)
unfolding sheet_words
sheet-words s =
    let w₆ : List ℕ = section block_words s.blocks in
    let w₅ : List ℕ = returns_count ∷ (place_words s.returns ++ w₆) in
    let w₄ : List ℕ = section place_words s.context in
    let w₃ : List ℕ = section place_words s.params in
    let w₂ : List ℕ = section function_words s.functions in
    let w₁ : List ℕ = section identifier_words s.identifiers in
    omega (
      arith,
      length-append w₁ (w₂ ++ (w₃ ++ (w₄ ++ w₅))),
      length-append w₂ (w₃ ++ (w₄ ++ w₅)),
      length-append w₃ (w₄ ++ w₅),
      length-append w₄ w₅,
      section-length identifier_words identifier_width (λ i. refl) s.identifiers,
      section-length place_words place_width (λ p. refl) s.params,
      section-length place_words place_width (λ p. refl) s.context,
    )

-- those of a block
pub block_words_lem : (b : Block) → length (block_words b) ≡ 1 + length (section phi_words b.phis) + length (section instruction_words b.instructions) + length (terminal_words b.terminal)
block_words_lem b =
    let p : List ℕ = section phi_words b.phis in
    let i : List ℕ = section instruction_words b.instructions in
    omega (arith, length-append p (i ++ terminal_words b.terminal), length-append i (terminal_words b.terminal))

-- the places of the four sections of the pass
abbrev pub pass_places : Answer → ℕ
pass_places a = length a.phis + length a.instructions + length a.terminals + length a.inner

-- the words of an answer by the records of its sections
pub answer-words : (a : Answer)
    → length (answer_words a)
    ≡ 10 + 2 * length a.ranges + place_width * (length a.params + length a.context) + diagnostic_width * length a.diagnostics + effect_width * length a.effects + length a.walks + place_width * pass_places a
unfolding answer_words middle_words operand_words
answer-words a =
    let w₉ : List ℕ = section place_words a.inner in
    let w₈ : List ℕ = section place_words a.terminals in
    let w₇ : List ℕ = section place_words a.instructions in
    let w₀ : List ℕ = section place_words a.phis in
    let w₆ : List ℕ = section count_words a.walks in
    let w₅ : List ℕ = section effect_words a.effects in
    let w₄ : List ℕ = section diagnostic_words a.diagnostics in
    let w₃ : List ℕ = section place_words a.context in
    let w₂ : List ℕ = section place_words a.params in
    let w₁ : List ℕ = section range_words a.ranges in
    omega (
      arith,
      length-append w₁ ((w₂ ++ (w₃ ++ (w₄ ++ (w₅ ++ w₆)))) ++ (w₀ ++ (w₇ ++ (w₈ ++ w₉)))),
      length-append (w₂ ++ (w₃ ++ (w₄ ++ (w₅ ++ w₆)))) (w₀ ++ (w₇ ++ (w₈ ++ w₉))),
      length-append w₂ (w₃ ++ (w₄ ++ (w₅ ++ w₆))),
      length-append w₃ (w₄ ++ (w₅ ++ w₆)),
      length-append w₄ (w₅ ++ w₆),
      length-append w₅ w₆,
      length-append w₀ (w₇ ++ (w₈ ++ w₉)),
      length-append w₇ (w₈ ++ w₉),
      length-append w₈ w₉,
      section-length range_words 2 (λ r. refl) a.ranges,
      section-length place_words place_width (λ p. refl) a.params,
      section-length place_words place_width (λ p. refl) a.context,
      section-length diagnostic_words diagnostic_width (λ d. refl) a.diagnostics,
      section-length effect_words effect_width (λ e. refl) a.effects,
      section-length count_words 1 (λ k. refl) a.walks,
      section-length place_words place_width (λ p. refl) a.phis,
      section-length place_words place_width (λ p. refl) a.instructions,
      section-length place_words place_width (λ p. refl) a.terminals,
      section-length place_words place_width (λ p. refl) a.inner,
    )

-- at most two effects of a place's record
collected_most : (t : State) (p : Place) → length (collect_param_effects t p) ≤ 2
unfolding collect_param_effects
collected_most t p = go (record_of t p).local (record_of t p).transitive
  where
    go : (l r : Option Info) → length (local_effects l p (record_of t p) ++ transitive_effects r p) ≤ 2
    go none none = omega arith
    go none (some b) = omega arith
    go (some a) none = omega arith
    go (some a) (some b) = omega arith

pub collects_most : (t : State) (l : List Place) → length (gather (collect_param_effects t) l) ≤ 2 * length l
collects_most t l =
    omega (
      arith,
      gather_tally (collect_param_effects t) l,
      tally_most (λ (p : Place). length (collect_param_effects t p)) 2 l (every_of (λ (p : Place). length (collect_param_effects t p) ≤ 2) l (λ p m. collected_most t p)),
    )

walks_length : (t : Mode) (ms : List Mutation) (s : State) → length (walks_of t ms s) ≡ length ms
unfolding walks_of
walks_length t [] s = refl
walks_length t (m ∷ ms) s = omega (arith, walks_length t ms (mutate t m s).state)

module _ (s : Sheet) where
  -- what is copied, two for each parameter and context place, Create, and those of the simulated walks
  pub answer-effects : length (summary s)
      ≤ length (copied s) + 2 * (length s.params + length s.context) + 1 + (length s.params + length s.context) * (length s.params + length s.context)
  unfolding summary
  answer-effects =
      let t : State = after_renders s in
      let c : List Effect = gather (collect_param_effects t) s.context in
      let p : List Effect = gather (collect_param_effects t) s.params in
      let r : List Effect = create_returns s ∷ (simulate s).effects in
      omega (
        arith,
        length-append (copied s) (c ++ (p ++ r)),
        length-append c (p ++ r),
        length-append p r,
        collects_most t s.context,
        collects_most t s.params,
        simulate-effects s,
      )

  -- one for each mutation, and one for each of parameters, context and returns
  pub answer_walks : length (answer s).walks ≡ (totals s).mutations + length s.params + length s.context + 1
  unfolding answer real_walks
  answer_walks =
      let r : List Walk = walks_of (real (errors s)) (build s).mutations (built s) in
      let q : List Walk = (simulate s).walks in
      omega (
        arith,
        length-map (r ++ q) (λ (w : Walk). w.taken),
        length-append r q,
        walks_length (real (errors s)) (build s).mutations (built s),
        build_mutations s,
        simulate_walks s,
      )
