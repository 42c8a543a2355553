-- The building so far under the steps that leave the graph's words alone: a mutation or a render more.
use Prim.Native.Nat.{ℕ, suc, ◌+◌, ◌*◌, ◌<◌}
use native.Mathlib.Omega.{arith}
use mathlib.Core.Bool.{Bool}
use mathlib.Core.List.{List, [], ◌∷◌, ◌++◌}
use mathlib.Core.Option.{Option}
use mathlib.Core.Logic.{inl, inr}
use mathlib.Core.Path.{◌≡◌, refl, ap, ◌∙◌}
use lib.ListN.{length, take}
use Rattle.model.specs.Limits.{most_mutations, most_renders, most_index}
use Rattle.model.specs.Mutation.{Kind, Reason}
use Rattle.model.specs.Built.{mutates}
use Rattle.model.specs.Built.{renders as renders_place}
use Rattle.workspace.specs.Layout.{SEEN, PHIS, MUTATIONS, RENDERS, FUNCTIONS}
use Rattle.workspace.specs.Pending.{mutations_of, renders_of}
use Rattle.workspace.proofs.Parts.{drop_more, take_less, slice_take}
use Rattle.workspace.proofs.Pending.{renders_kept, mutations_below}
use Rattle.building.specs.declared.Building.{Building}
use Rattle.building.specs.Held.{graph_of, Room}
use Rattle.building.specs.Phis.{phis_of}
use Rattle.building.specs.Built.{place_at, come_of, index_of, built_of, Sound, Steps, PushesMutation, PushesRender}
use Rattle.building.proofs.Holds.{graph_low, clean_low, by_limit, marked-low}
use Rattle.building.proofs.Pushes.{come_kept}
use Rattle.building.proofs.Operands.{built_eq}
use Rattle.building.proofs.Stages.{waiting_stays, holding_stays}

-- ---- what is held stays
module _ (ws ws' : List ℕ) (b : Building) (sound : Sound ws b) (e : take MUTATIONS ws' ≡ take MUTATIONS ws) (same : length ws' ≡ length ws) where
  below : take PHIS ws' ≡ take PHIS ws
  below = take_less PHIS MUTATIONS ws' ws (omega arith) e

  stay_graph : graph_of ws' b.held ≡ graph_of ws b.held
  stay_graph = graph_low ws ws' b.held sound.room.edges sound.room.entries below

  stay_room : Room ws' b.held
  stay_room = record {
    size = omega (arith, sound.room.size, same);
    edges = sound.room.edges;
    entries = sound.room.entries;
    held = sound.room.held;
    clean = clean_low ws ws' b.held sound.room.edges sound.room.entries below sound.room.clean;
    marked = marked-low ws ws' b.held.edges sound.room.edges below sound.room.marked;
  }

  stay_phis : phis_of ws' b.phis ≡ phis_of ws b.phis
  stay_phis = slice_take MUTATIONS PHIS (PHIS + b.phis) ws' ws (omega (arith, sound.phis, sound.indexes)) e

  stay_come : come_of ws' b.come ≡ come_of ws b.come
  stay_come = come_kept ws ws' MUTATIONS b.come (omega (arith, sound.come)) e

-- ---- a mutation
module _ (t : Bool) (kind : Kind) (reason : Option Reason) (order x span i : ℕ) (ws : List ℕ) (b : Building) (ws' : List ℕ) (sound : Sound ws b) (room : index_of b < most_index) (more : b.mutations < most_mutations) (is : i ≡ index_of b)
    (s : PushesMutation (record { index = i; order = order; kind = kind; transitive = t; identifier = x; span = span; reason = reason }) ws b.mutations ws') where
  mut_low : take MUTATIONS ws' ≡ take MUTATIONS ws
  mut_low = take_less MUTATIONS (MUTATIONS + 3 * b.mutations) ws' ws (omega arith) s.kept.low

  pub mutated : Steps (mutates t kind reason order (place_at x span)) 0 1 0 0 ws b ws' (record { held = b.held; phis = b.phis; come = b.come; relations = b.relations; mutations = b.mutations + 1; renders = b.renders })
  unfolding built_of
  mutated sheet =
      let q : b.relations + (b.mutations + 1) + b.renders ≡ suc (index_of b) = omega arith in
      record {
        built = λ a. built_eq (stay_graph ws ws' b sound mut_low s.kept.same) refl q (stay_come ws ws' b sound mut_low s.kept.same) (waiting_stays sheet ws b ws' (record { held = b.held; phis = b.phis; come = b.come; relations = b.relations; mutations = b.mutations + 1; renders = b.renders }) (stay_phis ws ws' b sound mut_low s.kept.same) (stay_come ws ws' b sound mut_low s.kept.same))
            (s.mutations ∙ ap (λ (j : ℕ). mutations_of ws b.mutations ++ (record { index = j; order = order; kind = kind; transitive = t; identifier = x; span = span; reason = reason } ∷ [])) is)
            (renders_kept ws ws' b.renders (drop_more (MUTATIONS + 3 * b.mutations + 3) RENDERS ws' ws (omega arith) s.kept.high));
        over = λ a. a;
        more = by_limit b.held.most (λ a. inl a) (λ a. inr a);
        rises = λ c. omega arith;
        holding = holding_stays sheet ws b ws' (record { held = b.held; phis = b.phis; come = b.come; relations = b.relations; mutations = b.mutations + 1; renders = b.renders }) (stay_phis ws ws' b sound mut_low s.kept.same) (stay_come ws ws' b sound mut_low s.kept.same);
        sound = record {
          room = stay_room ws ws' b sound mut_low s.kept.same;
          phis = sound.phis;
          indexes = omega (arith, room);
          mutations = omega arith;
          renders = sound.renders;
          come = sound.come;
        };
        relations = omega arith;
        mutations = refl;
        renders = omega arith;
        come = omega arith;
        low = take_less SEEN (MUTATIONS + 3 * b.mutations) ws' ws (omega arith) s.kept.low;
        high = drop_more (MUTATIONS + 3 * b.mutations + 3) FUNCTIONS ws' ws (omega arith) s.kept.high;
        same = s.kept.same;
      }

-- ---- a render
module _ (x span i : ℕ) (ws : List ℕ) (b : Building) (ws' : List ℕ) (sound : Sound ws b) (room : index_of b < most_index) (more : b.renders < most_renders) (is : i ≡ index_of b)
    (s : PushesRender (record { index = i; identifier = x }) ws b.renders ws') where
  ren_low : take MUTATIONS ws' ≡ take MUTATIONS ws
  ren_low = take_less MUTATIONS (RENDERS + b.renders) ws' ws (omega arith) s.kept.low

  pub rendered : Steps (renders_place (place_at x span)) 0 0 1 0 ws b ws' (record { held = b.held; phis = b.phis; come = b.come; relations = b.relations; mutations = b.mutations; renders = b.renders + 1 })
  unfolding built_of
  rendered sheet =
      let q : b.relations + b.mutations + (b.renders + 1) ≡ suc (index_of b) = omega arith in
      record {
        built = λ a. built_eq (stay_graph ws ws' b sound ren_low s.kept.same) refl q (stay_come ws ws' b sound ren_low s.kept.same) (waiting_stays sheet ws b ws' (record { held = b.held; phis = b.phis; come = b.come; relations = b.relations; mutations = b.mutations; renders = b.renders + 1 }) (stay_phis ws ws' b sound ren_low s.kept.same) (stay_come ws ws' b sound ren_low s.kept.same))
            (mutations_below ws ws' b.mutations (take_less (MUTATIONS + 3 * b.mutations) (RENDERS + b.renders) ws' ws (omega (arith, sound.mutations)) s.kept.low))
            (s.renders ∙ ap (λ (j : ℕ). renders_of ws b.renders ++ (record { index = j; identifier = x } ∷ [])) is);
        over = λ a. a;
        more = by_limit b.held.most (λ a. inl a) (λ a. inr a);
        rises = λ c. omega arith;
        holding = holding_stays sheet ws b ws' (record { held = b.held; phis = b.phis; come = b.come; relations = b.relations; mutations = b.mutations; renders = b.renders + 1 }) (stay_phis ws ws' b sound ren_low s.kept.same) (stay_come ws ws' b sound ren_low s.kept.same);
        sound = record {
          room = stay_room ws ws' b sound ren_low s.kept.same;
          phis = sound.phis;
          indexes = omega (arith, room);
          mutations = sound.mutations;
          renders = omega arith;
          come = sound.come;
        };
        relations = omega arith;
        mutations = omega arith;
        renders = refl;
        come = omega arith;
        low = take_less SEEN (RENDERS + b.renders) ws' ws (omega arith) s.kept.low;
        high = drop_more (RENDERS + b.renders + 1) FUNCTIONS ws' ws (omega arith) s.kept.high;
        same = s.kept.same;
      }
