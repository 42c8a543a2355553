-- The start of building, where no identifier has a node, and its end, where the graph stands in rows.
use Prim.Native.Nat.{ℕ, ◌+◌, ◌≤◌, ◌<◌}
use native.Mathlib.Omega.{arith}
use mathlib.Core.List.{List, []}
use mathlib.Core.Option.{none}
use mathlib.Core.Path.{◌≡◌, refl, sym, ap, subst, ◌∙◌}
use lib.ListN.{length, get_or, replicate, length-replicate, get_or-replicate}
use lib.Seq.{slice, slice_empty, ext_get_or}
use Rattle.model.specs.Limits.{most_sheet, most_identifiers}
use Rattle.model.specs.Lists.{Every}
use Rattle.model.specs.Building.{no_nodes}
use Rattle.workspace.specs.Layout.{LEAST, VALUE, FBOUND, QUEUE, EDGES, ENTRIES, PHIS, MUTATIONS, RENDERS}
use Rattle.workspace.specs.Rows.{Kept}
use Rattle.workspace.specs.Sort.{clear_w, sel}
use Rattle.workspace.specs.Graph.{node_of, tab}
use Rattle.workspace.specs.Pending.{mutations_of, renders_of}
use Rattle.workspace.proofs.Parts.{drop_more, slice_at}
use Rattle.workspace.proofs.Clearing.{kept_clear, clear_at}
use Rattle.workspace.proofs.Tables.{tab-length, tab_at}
use Rattle.workspace.proofs.Graph.{node_none}
use Rattle.workspace.proofs.Pending.{mutations_kept, renders_kept}
use Rattle.building.specs.declared.Held.{Held}
use Rattle.building.specs.declared.Building.{Building}
use Rattle.building.specs.Logs.{graph_of_logs, without, Clean}
use Rattle.building.specs.Held.{values_of, logs_of, graph_of, Laid}
use Rattle.building.specs.Phis.{phis_of, waiting_of, Known}
use Rattle.building.specs.Built.{come_of, built_of, Sound, Holding, nothing, Starts, LaysOut}
use Rattle.building.proofs.Holds.{logs_eq}
use Rattle.building.proofs.Operands.{built_eq}
use Rattle.building.proofs.Counts.{held_edges, held_entries}

-- ---- the start
tab_all : {A : Type 0} (n : ℕ) (f : ℕ → A) (a : A) → ((x : ℕ) → x < n → f x ≡ a) → tab n f ≡ replicate n a
tab_all n f a h =
    ext_get_or a (tab n f) (replicate n a) (tab-length n f ∙ sym (length-replicate n a))
    (λ i k. let q : i < n = omega (arith, tab-length n f) in tab_at n f i a q ∙ h i q ∙ sym (get_or-replicate n i a a q))

abbrev none_held : Held
none_held = record { edges = 0; entries = 0; most = 0 }

abbrev none_built : Building
none_built = record { held = none_held; phis = 0; come = 0; relations = 0; mutations = 0; renders = 0 }

without_nil : (t x : ℕ) → without t x [] ≡ []
unfolding without
without_nil t x = refl

clean_nil : (values : List ℕ) → Clean (record { values = values; edges = []; entries = [] })
clean_nil values = record { edges = λ x h e. without_nil 0 x; entries = λ x h e. without_nil 1 x }

module _ (ws ws' : List ℕ) (size : LEAST ≤ length ws) (is : ws' ≡ clear_w ws VALUE most_identifiers) where
  cleared : Kept VALUE FBOUND ws ws'
  cleared = subst (λ (l : List ℕ). Kept VALUE FBOUND ws l) (sym is) (kept_clear ws VALUE most_identifiers)

  no_logs : logs_of ws' none_held ≡ record { values = values_of ws'; edges = []; entries = [] }
  no_logs = logs_eq refl (slice_empty EDGES ws') (slice_empty ENTRIES ws')

  no_value : (x : ℕ) → x < most_identifiers → get_or (values_of ws') x 0 ≡ 0
  no_value x h = slice_at VALUE FBOUND x ws' (omega arith) ∙ ap (λ (l : List ℕ). get_or l (VALUE + x) 0) is ∙ clear_at ws VALUE most_identifiers x (omega arith) h

  no_graph : graph_of ws' none_held ≡ no_nodes most_identifiers
  unfolding graph_of graph_of_logs
  no_graph =
      tab_all most_identifiers (node_of (values_of ws') (λ x. sel 0 x (slice EDGES EDGES ws')) (λ k. sel 1 k (slice ENTRIES ENTRIES ws'))) none
      (λ x h. node_none (values_of ws') (λ x. sel 0 x (slice EDGES EDGES ws')) (λ k. sel 1 k (slice ENTRIES ENTRIES ws')) x (no_value x h))

  no_operands_lem : (s : List ℕ) → waiting_of s (phis_of ws' 0) (come_of ws' 0) ≡ []
  unfolding waiting_of
  no_operands_lem s = ap (λ (l : List ℕ). waiting_of s l (come_of ws' 0)) (slice_empty PHIS ws')

  none_yet : (s : List ℕ) → built_of s ws' none_built ≡ nothing
  unfolding built_of come_of mutations_of renders_of tab
  none_yet s = built_eq no_graph refl refl refl (no_operands_lem s) refl refl

  none_held_yet : (s : List ℕ) → length s ≤ most_sheet → Holding s ws' none_built
  none_held_yet s h = record { short = h; phis = subst (Every (Known s)) (sym (slice_empty PHIS ws')) tt }

  pub started : Starts ws ws' none_built
  started = record {
    built = none_yet;
    holding = none_held_yet;
    sound = record {
      room = record {
        size = omega (arith, cleared.same);
        edges = omega arith;
        entries = omega arith;
        held = λ a. (omega arith, omega arith);
        clean = subst Clean (sym no_logs) (clean_nil (values_of ws'));
        marked = λ x b z. ap (without 0 x) (slice_empty EDGES ws') ∙ without_nil 0 x ∙ sym (slice_empty EDGES ws');
      };
      phis = omega arith;
      indexes = omega arith;
      mutations = omega arith;
      renders = omega arith;
      come = omega arith;
    };
    relations = refl;
    mutations = refl;
    renders = refl;
    come = refl;
    low = cleared.low;
    high = cleared.high;
    same = cleared.same;
  }

-- ---- the end
module _ (ws : List ℕ) (b : Building) (sound : Sound ws b) (ws' : List ℕ) (s : Laid ws b.held ws') where
  pub laid_out : LaysOut ws b ws'
  laid_out = record {
    indexed = s.indexed;
    graph = s.graph;
    edges = s.edges ∙ sym (held_edges ws b.held sound.room.clean sound.room.size sound.room.edges sound.room.entries);
    entries = s.entries ∙ sym (held_entries ws b.held sound.room.clean sound.room.size sound.room.edges sound.room.entries);
    mutations = mutations_kept ws ws' b.mutations (drop_more QUEUE MUTATIONS ws' ws (omega arith) s.high);
    renders = renders_kept ws ws' b.renders (drop_more QUEUE RENDERS ws' ws (omega arith) s.high);
    low = s.low;
    high = s.high;
    same = s.same;
  }
