-- Where the next word goes after each section.
use Prim.Native.Nat.{ℕ, zero, suc, ◌+◌, ◌*◌, ◌≤◌}
use native.Mathlib.Omega.{arith}
use native.Mathlib.Nat.{mul-suc}
use mathlib.Core.Path.{◌≡◌, refl, ap, ◌∙◌}
use mathlib.Core.List.{List, [], ◌∷◌, ◌++◌, map, append-nil}
use lib.ListN.{length, length-append}
use Rattle.model.specs.Limits.{place_width, effect_width}
use Rattle.model.specs.Lists.{pick, gather}
use Rattle.model.specs.Sheet.{Place, Effect, Sheet}
use Rattle.model.specs.State.{State}
use Rattle.model.specs.Summary.{marked, collect_param_effects}
use Rattle.model.specs.Simulated.{tracked, flows, flow_effect, flow_effects}
use Rattle.model.specs.Answer.{place_words, effect_words, count_words, section}
use Rattle.workspace.specs.Graph.{tab}
use Rattle.aliasing.specs.State.{state_of}
use Rattle.aliasing.specs.Pending.{taken_of}
use Rattle.writing.specs.declared.Writer.{Writer}
use Rattle.writing.specs.Wrote.{Writes}
use Rattle.copies.proofs.Lengths.{gather_length}
use Rattle.summary.specs.Records.{Holds, Collected}
use Rattle.workspace.specs.Tracked.{tracked_at, tracked_of, tracked_from}
use Rattle.summary.specs.Sections.{Marked, Flows, simulated_of}
use Rattle.summary.proofs.Held.{held}
use Rattle.workspace.proofs.Places.{tracked-below}
use Rattle.summary.proofs.Collecting.{collect_length, record_words}
use Rattle.summary.proofs.Flowing.{pick_most}
use Rattle.summary.proofs.Marking.{marked_length}
use Rattle.summary.proofs.Counts.{taken-length, simulated_length, counts-length}
use Rattle.model.proofs.Gathers.{gather_append, gather_gather}

module _ {o o' : Writer ℕ} where
  pub marked_next : (ws : List ℕ) (first count : ℕ) → Marked ws first count o o' → o'.at ≡ o.at + 1 + place_width * count
  marked_next ws first count v =
      let t : State = state_of ws 0 in
      let l : List Place = map (marked t) (tracked_from ws first count) in
      omega (arith, (v t (held ws 0)).wrote.next, gather_length place_words place_width (λ p. refl) l, marked_length ws first count t)

  pub walks_next : (ws : List ℕ) (real simulated : ℕ) → Writes (section count_words (taken_of ws real ++ simulated_of ws simulated)) o o' → o'.at ≡ o.at + 1 + real + simulated
  walks_next ws real simulated w =
      let l : List ℕ = taken_of ws real in
      let m : List ℕ = simulated_of ws simulated in
      omega (arith, w.wrote.next, counts-length (l ++ m), length-append l m, taken-length ws real, simulated_length ws simulated)

-- ---- effects of places
gather_most : (w : Place → List ℕ) (k : ℕ) (l : List Place) (n : ℕ) (p : Place) → length (gather w l) ≤ k * n → length (w p) ≤ k → length (gather w (l ++ (p ∷ []))) ≤ k * suc n
gather_most w k l n p h b =
    let e : length (gather w (l ++ (p ∷ []))) ≡ length (gather w l) + length (w p) =
    ap (λ (z : List ℕ). length z) (gather_append w l (p ∷ [])) ∙ length-append (gather w l) (w p ++ []) ∙ ap (λ (z : List ℕ). length (gather w l) + length z) (append-nil (w p)) in
    omega (arith, e, h, b, mul-suc k n)

tab_most : (w : Place → List ℕ) (k n : ℕ) (f : ℕ → Place) → ((i : ℕ) → length (w (f i)) ≤ k) → length (gather w (tab n f)) ≤ k * n
unfolding tab
tab_most w k zero f h = omega arith
tab_most w k (suc n) f h = gather_most w k (tab n f) n (f n) (tab_most w k n f h) (h n)

module _ {o o' : Writer ℕ} where
  pub collected_next : (ws : List ℕ) (first count : ℕ) → Collected ws (tracked_from ws first count) o o' → o'.at ≤ o.at + 2 * effect_width * count
  unfolding tracked_from
  collected_next ws first count v =
      let t : State = state_of ws 0 in
      let f : ℕ → Place = λ (i : ℕ). tracked_at ws (first + i) in
      let e : length (gather effect_words (gather (collect_param_effects t) (tab count f))) ≡ length (gather (record_words t) (tab count f)) =
      ap (λ (z : List ℕ). length z) (gather_gather effect_words (collect_param_effects t) (tab count f)) in
      omega (arith, (v t (held ws 0)).wrote.next, e, tab_most (record_words t) (2 * effect_width) count f (λ i. collect_length ws (f i) (tracked-below ws (first + i)) t (held ws 0)))

  pub flows_next : (ws : List ℕ) (count : ℕ) (into : Place) (index returns : ℕ) (s : Sheet) (t : State) → Holds ws t → tracked s ≡ tracked_of ws count → s.returns.identifier ≡ returns
      → Flows ws count into index returns o o' → o'.at ≤ o.at + effect_width * count
  unfolding tracked_of flow_effects
  flows_next ws count into index returns s t h e k v =
      let g : Place → List Effect = λ (from : Place). pick (flows s.returns index into t from) (flow_effect s.returns into from ∷ []) [] in
      let q : length (gather effect_words (gather g (tracked s))) ≡ length (gather (λ (p : Place). gather effect_words (g p)) (tab count (tracked_at ws))) =
      ap (λ (z : List ℕ). length z) (gather_gather effect_words g (tracked s)) ∙ ap (λ (z : List Place). length (gather (λ (p : Place). gather effect_words (g p)) z)) e in
      omega (
        arith,
        (v.wrote s t h e k).wrote.next,
        q,
        tab_most (λ (p : Place). gather effect_words (g p)) effect_width count (tracked_at ws) (λ i. pick_most (flows s.returns index into t (tracked_at ws i)) (flow_effect s.returns into (tracked_at ws i))),
      )
