-- The simulated walks, run one after another: what the loop keeps.
use Prim.Native.Nat.{ℕ, ◌+◌, ◌*◌, ◌≤◌, ◌<◌}
use native.Mathlib.Omega.{arith}
use native.Mathlib.Numerals.{add-one}
use mathlib.Core.Path.{◌≡◌, refl, sym, ap, subst, ◌∙◌}
use mathlib.Core.List.{List, [], ◌∷◌, ◌++◌}
use lib.ListN.{length, get_or, set, drop}
use lib.Seq.{slice, slice_empty, get_or-set_same, get_or-set_other}
use Rattle.model.specs.Limits.{effect_width}
use Rattle.model.specs.Lists.{gather}
use Rattle.model.specs.Sheet.{Place, no_place, Effect, Sheet}
use Rattle.model.specs.Mutation.{Mutation}
use Rattle.model.specs.Building.{build}
use Rattle.model.specs.State.{State, Mode, simulated}
use Rattle.model.specs.Walks.{Walk, mutate}
use Rattle.model.specs.Simulated.{tracked, simulation, flow_effects, Simulated, simulate}
use Rattle.model.specs.Answer.{effect_words}
use Rattle.model.proofs.Handed.{with_handed}
use Rattle.model.proofs.Simulating.{taken_by, After, after-start, after_turn, after_done}
use Rattle.workspace.specs.Layout.{LEAST, HANDED, MUTATIONS, SIMULATED, TRACKED}
use Rattle.workspace.specs.Rows.{rows_of, Good, Indexed, Kept}
use Rattle.workspace.specs.Graph.{tab}
use Rattle.workspace.proofs.Parts.{kept_none, kept_set, drop_more, drop-word, slice_drop}
use Rattle.workspace.proofs.Tables.{tab-length, tab_at, tab-same}
use Rattle.aliasing.specs.declared.mutation.Mutation.{Mutation as CodeMutation}
use Rattle.aliasing.specs.Says.{mode_says, mutation_says}
use Rattle.aliasing.specs.State.{state_of, Handing}
use Rattle.aliasing.specs.Walks.{Unmarked, Mutated}
use Rattle.aliasing.proofs.Parts.{slice_below, nodes_below, rows_below}
use Rattle.aliasing.proofs.Hands.{handing_behind, handing_anew}
use Rattle.aliasing.proofs.Begin.{Remarked, remarked, unmarked_handing}
use Rattle.aliasing.proofs.Entries.{state_same}
use Rattle.writing.specs.declared.Writer.{Writer}
use Rattle.writing.specs.Wrote.{Writes}
use Rattle.writing.proofs.Writing.{writes_none, writes_then, writes_as}
use Rattle.model.proofs.Gathers.{gather_append}
use Rattle.workspace.specs.Tracked.{most_tracked, tracked_at, tracked_of}
use Rattle.summary.specs.Sections.{Flows, simulated_of}
use Rattle.summary.proofs.Held.{holds_state}
use Rattle.workspace.proofs.Places.{tracked_kept}
use Rattle.summary.proofs.Rooms.{flows_next}
use Rattle.summary.specs.Simulates.{Marked, Walkable, Simulates}

-- ---- tables in the words
tracked-length : (ws : List ℕ) (n : ℕ) → length (tracked_of ws n) ≡ n
unfolding tracked_of
tracked-length ws n = tab-length n (tracked_at ws)

tracked_nth : (ws : List ℕ) (n i : ℕ) → i < n → get_or (tracked_of ws n) i no_place ≡ tracked_at ws i
unfolding tracked_of
tracked_nth ws n i h = tab_at n (tracked_at ws) i no_place h

counts_none : (ws : List ℕ) → simulated_of ws 0 ≡ []
unfolding simulated_of tab
counts_none ws = refl

counts_next : (ws ws' : List ℕ) (i c : ℕ) → ((j : ℕ) → j < i → get_or ws' (SIMULATED + j) 0 ≡ get_or ws (SIMULATED + j) 0) → get_or ws' (SIMULATED + i) 0 ≡ c
    → simulated_of ws' (i + 1) ≡ simulated_of ws i ++ (c ∷ [])
unfolding simulated_of tab
counts_next ws ws' i c same is =
    ap (λ (n : ℕ). tab n (λ (j : ℕ). get_or ws' (SIMULATED + j) 0)) (add-one i)
    ∙ ap (λ (l : List ℕ). l ++ (get_or ws' (SIMULATED + i) 0 ∷ [])) (tab-same i (λ (j : ℕ). get_or ws' (SIMULATED + j) 0) (λ (j : ℕ). get_or ws (SIMULATED + j) 0) same)
    ∙ ap (λ (n : ℕ). tab i (λ (j : ℕ). get_or ws (SIMULATED + j) 0) ++ (n ∷ [])) is

-- the next walk begins with nothing handed over
begin_anew : (ws : List ℕ) (hand : ℕ) → with_handed [] (state_of ws hand) ≡ state_of ws HANDED
unfolding state_of
begin_anew ws hand = ap (λ (l : List ℕ). with_handed l (state_of ws hand)) (sym (slice_empty HANDED ws))

after_as : (s : Sheet) {i : ℕ} {t t' : State} {taken taken' : List ℕ} {effects : List Effect} → After s i t taken effects → t ≡ t' → taken ≡ taken' → After s i t' taken' effects
after_as s a p q = record { made = a.made; index = a.index; state = a.state ∙ p; counts = a.counts ∙ q; found = a.found; rest = a.rest }

-- ---- the loop
-- after i walks of s: their effects were written
pub record SoFar (s : Sheet) (o₀ : Writer ℕ) (ws : List ℕ) (i : ℕ) (o : Writer ℕ) : Type 0 where
  pub effects : List Effect
  pub after : After s i (state_of ws HANDED) (simulated_of ws i) effects
  pub wrote : Writes (gather effect_words effects) o₀ o

pub record Turned (ws₀ : List ℕ) (count index returns : ℕ) (o₀ : Writer ℕ) (ws : List ℕ) (i : ℕ) (o : Writer ℕ) : Type 0 where
  pub sofar : (s : Sheet) → Marked s ws₀ count index returns → SoFar s o₀ ws i o
  pub walkable : Walkable ws₀ ws
  pub mid : i ≤ count
  pub places : drop TRACKED ws ≡ drop TRACKED ws₀
  pub kept : slice MUTATIONS SIMULATED ws ≡ slice MUTATIONS SIMULATED ws₀
  pub few : o.at ≤ o₀.at + effect_width * most_tracked * i
  pub same : o.buffer.ghost_name ≡ o₀.buffer.ghost_name

pub turned_start : (ws : List ℕ) (count index returns : ℕ) (o : Writer ℕ) → Indexed ws → Handing ws HANDED → Turned ws count index returns o ws 0 o
turned_start ws count index returns o indexed handing = record {
  sofar = λ s m. record {
    effects = [];
    after = after_as s (after-start s) (sym m.state) (sym (counts_none ws));
    wrote = writes_none o;
  };
  walkable = record { graph = refl; indexed = indexed; handing = handing; same = refl };
  mid = omega arith;
  places = refl;
  kept = refl;
  few = omega arith;
  same = refl;
}

module _ {ws₀ : List ℕ} {count index returns : ℕ} {o₀ : Writer ℕ} {ws : List ℕ} {i : ℕ} {o : Writer ℕ} (p : Turned ws₀ count index returns o₀ ws i o)
    (least : count ≤ most_tracked) (more : i < count) {into : Place} (is : into ≡ tracked_at ws i)
    {m : CodeMutation} (said : (mutation_says m ≡ simulation (index + i) into) × (mode_says m ≡ simulated)) {ws₁ : List ℕ} {c h : ℕ} (w : Mutated m ws HANDED ws₁ c h) where
  -- the count has room
  pub long : SIMULATED + i < length ws₁
  long = omega (arith, w.aside.same, p.walkable.indexed.size)

  abbrev stored : List ℕ
  stored = set ws₁ (SIMULATED + i) c

  stored_kept : Kept SIMULATED TRACKED ws₁ stored
  stored_kept = kept_set (kept_none SIMULATED TRACKED ws₁) (SIMULATED + i) c (omega arith) (omega arith)

  pub stored_size : LEAST ≤ length stored
  stored_size = omega (arith, stored_kept.same, w.aside.same, p.walkable.indexed.size)

  stored_rows : rows_of stored ≡ rows_of ws
  stored_rows = rows_below stored_kept (omega arith) ∙ w.aside.graph

  -- the tracked places are those of the beginning
  stored_places : drop TRACKED stored ≡ drop TRACKED ws₀
  stored_places = stored_kept.high ∙ drop_more MUTATIONS TRACKED ws₁ ws (omega arith) w.aside.behind ∙ p.places

  stored_state : state_of stored h ≡ (mutate (mode_says m) (mutation_says m) (state_of ws HANDED)).state
  stored_state =
      state_same ws₁ stored h h (rows_below stored_kept (omega arith)) (nodes_below stored_kept (omega arith)) (slice_below stored_kept HANDED h (omega (arith, w.handing.room))) ∙ w.state

  stored_slice : slice MUTATIONS SIMULATED stored ≡ slice MUTATIONS SIMULATED ws₀
  stored_slice = slice_below stored_kept MUTATIONS SIMULATED (omega arith) ∙ slice_drop MUTATIONS MUTATIONS SIMULATED ws₁ ws (omega arith) (omega arith) w.aside.behind ∙ p.kept

  -- for a sheet: the walk is that of the next tracked place
  module _ (s : Sheet) (d : Marked s ws₀ count index returns) where
    abbrev walk : Walk
    walk = mutate simulated (simulation ((build s).index + i) (get_or (tracked s) i no_place)) (state_of ws HANDED)

    number_is : index + i ≡ (build s).index + i
    number_is = ap (λ (k : ℕ). k + i) d.first

    place_is_lem : into ≡ get_or (tracked s) i no_place
    place_is_lem =
        is ∙ sym (tracked_nth ws count i more)
        ∙ ap (λ (l : List Place). get_or l i no_place) (tracked_kept ws₀ ws count p.places ∙ sym d.places)

    walk_is : mutate (mode_says m) (mutation_says m) (state_of ws HANDED) ≡ walk
    walk_is =
        ap (λ (k : Mode). mutate k (mutation_says m) (state_of ws HANDED)) said.1
        ∙ ap (λ (n : Mutation). mutate simulated n (state_of ws HANDED)) said.0
        ∙ ap (λ (k : ℕ). mutate simulated (simulation k into) (state_of ws HANDED)) number_is
        ∙ ap (λ (q : Place). mutate simulated (simulation ((build s).index + i) q) (state_of ws HANDED)) place_is_lem

    state_is : state_of stored h ≡ walk.state
    state_is = stored_state ∙ ap (λ (v : Walk). v.state) walk_is

    counts_are : simulated_of stored (i + 1) ≡ simulated_of ws i ++ (walk.taken ∷ [])
    counts_are =
        counts_next ws stored i walk.taken
        (λ j q. get_or-set_other ws₁ (SIMULATED + i) (SIMULATED + j) c 0 (λ e. omega (arith, e, q)) ∙ drop-word MUTATIONS (SIMULATED + j) ws ws₁ (omega arith) w.aside.behind)
        (get_or-set_same ws₁ (SIMULATED + i) c 0 long ∙ w.counts ∙ ap (λ (v : Walk). v.taken) walk_is)

    module _ {o' : Writer ℕ} (f : Flows stored count into (index + i) returns o o') where
      places_are : tracked s ≡ tracked_of stored count
      places_are = d.places ∙ sym (tracked_kept ws₀ stored count stored_places)

      flows_few : o'.at ≤ o.at + effect_width * count
      flows_few = flows_next stored count into (index + i) returns s walk.state (holds_state stored h state_is) places_are d.identifier f

      found : Writes (gather effect_words (flow_effects s ((build s).index + i) (get_or (tracked s) i no_place) walk.state)) o o'
      found =
          writes_as (f.wrote s walk.state (holds_state stored h state_is) places_are d.identifier)
          (ap (λ (k : ℕ). gather effect_words (flow_effects s k into walk.state)) number_is
          ∙ ap (λ (q : Place). gather effect_words (flow_effects s ((build s).index + i) q walk.state)) place_is_lem)

      sofar_next : SoFar s o₀ ws i o → SoFar s o₀ stored (i + 1) o'
      sofar_next a =
          let new : List Effect = flow_effects s ((build s).index + i) (get_or (tracked s) i no_place) walk.state in
          let n : i < length (tracked s) = omega (arith, ap (λ (l : List Place). length l) d.places, tracked-length ws₀ count) in
          record {
            effects = a.effects ++ new;
            after = after_as s (after_turn s n a.after) (ap (with_handed []) (sym state_is) ∙ begin_anew stored h) (sym counts_are);
            wrote = writes_as (writes_then a.wrote found) (sym (gather_append effect_words a.effects new));
          }

  pub turned_turn : (s : Sheet) × Marked s ws₀ count index returns → {o' : Writer ℕ} → Flows stored count into (index + i) returns o o' → Turned ws₀ count index returns o₀ stored (i + 1) o'
  turned_turn sd f = record {
    sofar = λ s d. sofar_next s d f (p.sofar s d);
    walkable = record {
      graph = stored_rows ∙ p.walkable.graph;
      indexed = record { size = stored_size; good = subst Good (sym stored_rows) p.walkable.indexed.good };
      handing = handing_anew (handing_behind h stored_kept (omega arith) w.handing);
      same = stored_kept.same ∙ w.aside.same ∙ p.walkable.same;
    };
    mid = omega arith;
    places = stored_places;
    kept = stored_slice;
    few = omega (arith, p.few, flows_few sd.0 sd.1 f);
    same = f.same ∙ p.same;
  }

pub turned_end : {ws₀ : List ℕ} {count index returns : ℕ} {o₀ : Writer ℕ} {ws : List ℕ} {i : ℕ} {o : Writer ℕ} → Turned ws₀ count index returns o₀ ws i o → count ≤ i → Simulates ws₀ count index returns o₀ ws o
turned_end {ws₀} {count} {index} {returns} {o₀} {ws} {i} {o} p done =
    let e : count ≡ i = omega (arith, p.mid) in
    record {
      wrote = λ s d. writes_as (p.sofar s d).wrote (ap (gather effect_words) (sym (p.sofar s d).after.found ∙ ap (λ (m : Simulated). m.effects) (over s d)));
      left = λ s d.
          let a = (p.sofar s d).after in
          record {
            counts = ap (simulated_of ws) e ∙ sym a.counts ∙ ap (λ (m : Simulated). taken_by m.walks) (over s d);
            state = sym a.state ∙ ap (λ (m : Simulated). with_handed [] m.state) (over s d);
            unused = omega (arith, d.first, e, a.index, ap (λ (m : Simulated). m.index) (over s d));
          };
      walkable = p.walkable;
      kept = p.kept;
      few = omega (arith, p.few, e);
      same = p.same;
    }
  where
    over : (s : Sheet) (d : Marked s ws₀ count index returns) → (p.sofar s d).after.made ≡ simulate s
    over s d = after_done s (omega (arith, ap (λ (l : List Place). length l) d.places, tracked-length ws₀ count)) (p.sofar s d).after

-- from words with the same graph
pub walkable_from : {ws ws₁ ws₂ : List ℕ} → rows_of ws₁ ≡ rows_of ws → length ws₁ ≡ length ws → Walkable ws₁ ws₂ → Walkable ws ws₂
walkable_from g n p = record { graph = p.graph ∙ g; indexed = p.indexed; handing = p.handing; same = p.same ∙ n }

-- ---- the same from the words before the marks were cleared
module _ (ws : List ℕ) (indexed : Indexed ws) (l : List ℕ) (clear : Unmarked ws l) where
  u : Remarked ws l
  u = remarked ws l indexed clear.kept

  pub cleared_start : (count index returns : ℕ) (o : Writer ℕ) → Turned l count index returns o l 0 o
  cleared_start count index returns o = turned_start l count index returns o u.indexed (unmarked_handing ws l clear)

  pub cleared_marked : (s : Sheet) {count index returns : ℕ} → Marked s ws count index returns → Marked s l count index returns
  cleared_marked s {count} d = record {
    places = d.places ∙ sym (tracked_kept ws l count (drop_more MUTATIONS TRACKED l ws (omega arith) u.aside.behind));
    identifier = d.identifier;
    state = u.state HANDED (omega arith) ∙ d.state;
    first = d.first;
  }

  pub cleared_end : {count index returns : ℕ} {o : Writer ℕ} {ws' : List ℕ} {o' : Writer ℕ} → Simulates l count index returns o ws' o' → Simulates ws count index returns o ws' o'
  cleared_end p = record {
    wrote = λ s d. p.wrote s (cleared_marked s d);
    left = λ s d. p.left s (cleared_marked s d);
    walkable = walkable_from u.aside.graph u.aside.same p.walkable;
    kept = p.kept ∙ slice_drop MUTATIONS MUTATIONS SIMULATED l ws (omega arith) (omega arith) u.aside.behind;
    few = p.few;
    same = p.same;
  }
