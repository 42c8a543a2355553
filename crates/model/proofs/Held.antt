-- What building holds: never less than the graph has stored, and never more than the sheet has relation effects.
use Prim.Native.Nat.{ℕ, ◌+◌, ◌≤◌, max}
use native.Mathlib.Omega.{arith}
use mathlib.Core.Path.{◌≡◌, refl}
use mathlib.Core.List.{List, [], ◌∷◌}
use lib.ListN.{length, length-append}
use Rattle.model.specs.Lists.{keep, each}
use Rattle.model.specs.Sheet.{BlockId, Sheet}
use Rattle.model.specs.Graph.{Value, create, into_aliases, relate, assign, create_from}
use Rattle.model.specs.Built.{Waiting, Built, held_in, changed, between}
use Rattle.model.specs.Building.{waiting_for, still_waiting, wake, first_nodes, build}
use Rattle.model.specs.Totals.{totals}
use Rattle.model.specs.Indexes.{edges_by, entries_by, walks_by}
use Rattle.model.proofs.BuiltKeeps.{each_keeps, Keeps, built_keeps, first_built}
use Rattle.model.proofs.Stored.{given, Within, waiting_by, tally_split, relate_grows, within_kept, first_within}
use Rattle.model.proofs.Counted.{tally_one, build_index, build_mutations, build-renders}
use Rattle.model.proofs.Indexes.{given-one, edges-one, entries-one}

-- weighed by 1 each
abbrev one : ℕ → ℕ
one i = 1

-- ---- never less than is stored at the end
abbrev Holds : Built → Type 0
Holds b = held_in b.graph ≤ b.held

larger : (a b : ℕ) → b ≤ max a b
larger a b = omega arith

holds_kept : Keeps (λ (v : Value). Unit {0}) Holds
unfolding wake
holds_kept = record {
  plain = λ k. (tt, tt);
  created = λ x v b o h. larger b.held _;
  relates = λ r from into b h. larger b.held _;
  assigns = λ from into b h. larger b.held _;
  creates_from = λ from into b h. larger b.held _;
  waits = λ p from into b h. h;
  mutates = λ t k r o p b h. h;
  renders = λ p b h. h;
  comes = λ n b h. h;
  wakes = woken;
}
  where
    woken : (n : BlockId) (b : Built) → Holds b → Holds (wake n b)
    woken n b h = each_keeps (λ (w : Waiting). changed (relate into_aliases w.index w.origin w.into)) Holds (keep (waiting_for n) b.waiting) (still_waiting n b) (λ w m c q. larger c.held _) h

none_held : (s : Sheet) → Within one (first_built s) → held_in (first_nodes s) ≤ 0
none_held s w = omega (arith, w.0, w.1, edges-one (first_nodes s), entries-one (first_nodes s), given-one 0)

-- ---- never more than the sheet has relation effects
-- what is left for the walks
abbrev walks : Built → ℕ
walks b = length b.mutations + length b.renders

-- each relation effect, mutation and render has taken an index
abbrev Few : Built → Type 0
Few b = Within one b × (b.held + walks b ≤ b.index)

walks_one : (b : Built) → walks_by one b ≡ walks b
walks_one b = omega (arith, tally_one b.mutations, tally_one b.renders)

stored_few : (c : Built) → Within one c → held_in c.graph + walks c ≤ c.index
stored_few c w = omega (arith, w.0, w.1, walks_one c, edges-one c.graph, entries-one c.graph, given-one c.index)

-- a step that changes the graph and perhaps takes an index
step_few : (held w i : ℕ) (c : Built) → w ≡ walks c → i ≤ c.index → held + w ≤ i → Within one c → c.held ≡ max held (held_in c.graph) → Few c
step_few held w i c e j h k f = (k, omega (arith, e, j, h, f, stored_few c k))

-- those that wake are stored one after another
woken_few : (l : List Waiting) (b : Built)
    → (edges_by one b.graph + waiting_by one b.waiting + walks_by one b + waiting_by one l ≤ given one b.index) × (entries_by one b.graph + waiting_by one b.waiting + walks_by one b + waiting_by one l ≤ given one b.index)
    → b.held + walks b ≤ b.index → Few (each (λ (w : Waiting). changed (relate into_aliases w.index w.origin w.into)) l b)
woken_few [] b h k = ((omega (arith, h.0), omega (arith, h.1)), k)
woken_few (w ∷ l) b h k =
    let c : Built = changed (relate into_aliases w.index w.origin w.into) b in
    let r = relate_grows one into_aliases w.index w.origin w.into b.graph in
    let f = step_few b.held (walks b) b.index c refl (omega arith) k (omega (arith, r.0, h.0), omega (arith, r.1, h.1)) refl in
    woken_few l c (omega (arith, r.0, h.0), omega (arith, r.1, h.1)) f.1

wake_few : (n : BlockId) (b : Built) → Few b → Few (wake n b)
unfolding wake
wake_few n b h =
    let k = tally_split (λ (w : Waiting). one w.index) (waiting_for n) b.waiting in
    woken_few (keep (waiting_for n) b.waiting) (still_waiting n b) (omega (arith, k, h.0.0), omega (arith, k, h.0.1)) h.1

few_kept : Keeps (λ (v : Value). Unit {0}) Few
few_kept = record {
  plain = λ k. (tt, tt);
  created = λ x v b o h. step_few b.held (walks b) b.index (changed (create x v) b) refl (omega arith) h.1 ((within_kept one).created x v b o h.0) refl;
  relates = λ r from into b h. step_few b.held (walks b) b.index (between (relate r) from into b) refl (omega arith) h.1 ((within_kept one).relates r from into b h.0) refl;
  assigns = λ from into b h. step_few b.held (walks b) b.index (between assign from into b) refl (omega arith) h.1 ((within_kept one).assigns from into b h.0) refl;
  creates_from = λ from into b h. step_few b.held (walks b) b.index (between create_from from into b) refl (omega arith) h.1 ((within_kept one).creates_from from into b h.0) refl;
  waits = λ p from into b h. ((within_kept one).waits p from into b h.0, omega (arith, h.1));
  mutates = λ t k r o p b h. ((within_kept one).mutates t k r o p b h.0, omega (arith, h.1, length-append b.mutations (record { index = b.index; order = o; kind = k; transitive = t; identifier = p.identifier; span = p.span; reason = r } ∷ [])));
  renders = λ p b h. ((within_kept one).renders p b h.0, omega (arith, h.1, length-append b.renders (record { index = b.index; identifier = p.identifier } ∷ [])));
  comes = λ n b h. h;
  wakes = wake_few;
}

first_few : (s : Sheet) → Few (first_built s)
first_few s = (first_within one s, omega arith)

module _ (s : Sheet) where
  pub graph_held : held_in (build s).graph ≤ (build s).held
  graph_held = built_keeps (λ (v : Value). Unit {0}) Holds holds_kept s (λ t m f n. tt) (none_held s (first_few s).0)

  pub few_held : (build s).held ≤ (totals s).relations
  few_held =
      let h = (built_keeps (λ (v : Value). Unit {0}) Few few_kept s (λ t m f n. tt) (first_few s)).1 in
      omega (arith, h, build_index s, build_mutations s, build-renders s)
