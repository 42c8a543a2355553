-- The building so far is in the words below FUNCTIONS.
use Prim.Native.Nat.{ℕ, ◌+◌, ◌*◌}
use native.Mathlib.Omega.{arith}
use mathlib.Core.Path.{◌≡◌, refl}
use mathlib.Core.List.{List}
use lib.ListN.{length, take}
use Rattle.workspace.specs.Layout.{PHIS, MUTATIONS, RENDERS, FUNCTIONS}
use Rattle.workspace.proofs.Parts.{take_less, slice_take}
use Rattle.workspace.proofs.Pending.{mutations_below, renders-below}
use Rattle.building.specs.declared.Building.{Building}
use Rattle.building.specs.Phis.{phis_of}
use Rattle.building.specs.Built.{come_of, built_of, Sound, Holding}
use Rattle.building.proofs.Holds.{graph_low, clean_low, marked-low}
use Rattle.building.proofs.Pushes.{come_kept}
use Rattle.building.proofs.Operands.{built_eq}
use Rattle.building.proofs.Stages.{waiting_stays}
use Rattle.building.proofs.Stages.{holding_stays as holding-on}

module _ (ws ws' : List ℕ) (b : Building) (sound : Sound ws b) (e : take FUNCTIONS ws' ≡ take FUNCTIONS ws) where
  low : take PHIS ws' ≡ take PHIS ws
  low = take_less PHIS FUNCTIONS ws' ws (omega arith) e

  phis_stay : phis_of ws' b.phis ≡ phis_of ws b.phis
  phis_stay = slice_take FUNCTIONS PHIS (PHIS + b.phis) ws' ws (omega (arith, sound.phis, sound.indexes)) e

  come_stays : come_of ws' b.come ≡ come_of ws b.come
  come_stays = come_kept ws ws' FUNCTIONS b.come (omega (arith, sound.come)) e

  pub built_stays : (s : List ℕ) → built_of s ws' b ≡ built_of s ws b
  unfolding built_of
  built_stays s =
      built_eq (graph_low ws ws' b.held sound.room.edges sound.room.entries low) refl refl come_stays (waiting_stays s ws b ws' b phis_stay come_stays)
      (mutations_below ws ws' b.mutations (take_less (MUTATIONS + 3 * b.mutations) FUNCTIONS ws' ws (omega (arith, sound.mutations)) e))
      (renders-below ws ws' b.renders (take_less (RENDERS + b.renders) FUNCTIONS ws' ws (omega (arith, sound.renders)) e))

  pub holding_stays : (s : List ℕ) → Holding s ws b → Holding s ws' b
  holding_stays s = holding-on s ws b ws' b phis_stay come_stays

  pub sound_stays : length ws' ≡ length ws → Sound ws' b
  sound_stays n = record {
    room = record {
      size = omega (arith, sound.room.size, n);
      edges = sound.room.edges;
      entries = sound.room.entries;
      held = sound.room.held;
      clean = clean_low ws ws' b.held sound.room.edges sound.room.entries low sound.room.clean;
      marked = marked-low ws ws' b.held.edges sound.room.edges low sound.room.marked;
    };
    phis = sound.phis;
    indexes = sound.indexes;
    mutations = sound.mutations;
    renders = sound.renders;
    come = sound.come;
  }
