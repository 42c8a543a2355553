-- The building so far when a phi's operands come.
use Prim.Native.Nat.{ℕ, ◌+◌, ◌/◌, ◌%◌, ◌≤◌, ◌<◌, max}
use native.Mathlib.Omega.{arith}
use mathlib.Core.List.{List, [], ◌∷◌, ◌++◌}
use mathlib.Core.Path.{◌≡◌, refl, sym, ap, subst, ◌∙◌}
use lib.ListN.{length, take, drop}
use Rattle.model.specs.Limits.{most_identifiers, most_relations, most_sheet}
use Rattle.model.specs.Lists.{keep, each, among, Every}
use Rattle.model.specs.Sheet.{Operand}
use Rattle.model.specs.Reading.{Position}
use Rattle.model.specs.Graph.{Graph, phi, create}
use Rattle.model.specs.Built.{Built, Waiting, held_in, changed}
use Rattle.model.specs.Building.{operand, phi_node}
use Rattle.hir.specs.declared.at.Phi.{Phi}
use Rattle.hir.specs.Words.{phi_from}
use Rattle.hir.specs.Parts.{PhiAt}
use Rattle.hir.proofs.Widths.{phi_rises}
use Rattle.workspace.specs.Layout.{SEEN, VALUE, PHIS, MUTATIONS, RENDERS, FUNCTIONS}
use Rattle.workspace.proofs.Parts.{drop_more, take_less, slice_drop}
use Rattle.workspace.proofs.Pending.{mutations_kept, renders_kept}
use Rattle.building.specs.declared.Held.{Held}
use Rattle.building.specs.declared.Building.{Building}
use Rattle.building.specs.Held.{graph_of, Room}
use Rattle.building.specs.Phis.{operands_from, phi_word, operands_of, phis_of, waiting_of, Stands, Known, from, stored, Stores, PushesPhi}
use Rattle.building.specs.Built.{come_of, index_of, built_of, Sound, Holding, PhiFits, phi_operands, StepsOn}
use Rattle.building.proofs.Operands.{built_eq, every_last, has_come, not_come, stored_same, operands_after, operands_are, operands_rise, waiting_last}
use Rattle.building.proofs.Storing.{phi_is, count_is}
use Rattle.building.proofs.Stages.{over_stays, steps_then}
use Rattle.building.proofs.Holds.{graph_low, clean_low, graph_below, marked-low}
use Rattle.building.proofs.Pushes.{come_kept, come_among}

module _ (s : List ℕ) (c : Position) (ws : List ℕ) (b : Building) (sound : Sound ws b) (holds : Holding s ws b) (fits : PhiFits s c b) where
  abbrev operands : List Waiting
  operands = operands_from s c (index_of b)

  abbrev many : ℕ
  many = length (phi_from s c).what.operands

  pub phi_short : c < most_sheet
  phi_short = omega (arith, holds.short, fits.inside, phi_rises s c)

  pub phi_stands : (i : ℕ) → i ≡ index_of b → Stands s c i
  phi_stands i is = record { inside = fits.inside; range = fits.range; indexes = omega (arith, fits.indexes) }

  module _ (i : ℕ) (is : i ≡ index_of b) (ws₁ : List ℕ) (p : PushesPhi c i ws b.phis ws₁) where
    below : take PHIS ws₁ ≡ take PHIS ws
    below = take_less PHIS (PHIS + b.phis) ws₁ ws (omega arith) p.kept.low

    come₁ : come_of ws₁ b.come ≡ come_of ws b.come
    come₁ = come_kept ws ws₁ PHIS b.come (omega (arith, sound.come)) below

    test : (w : Waiting) → from 0 b.come ws₁ w ≡ has_come (come_of ws b.come) w
    test w = come_among ws₁ w.predecessor b.come (omega (arith, sound.room.size, sound.come, p.kept.same)) ∙ ap (among w.predecessor) come₁

    pub operands_room : Room ws₁ b.held
    operands_room = record {
      size = omega (arith, sound.room.size, p.kept.same);
      edges = sound.room.edges;
      entries = sound.room.entries;
      held = sound.room.held;
      clean = clean_low ws ws₁ b.held sound.room.edges sound.room.entries below sound.room.clean;
      marked = marked-low ws ws₁ b.held.edges sound.room.edges below sound.room.marked;
    }

    module _ (k : ℕ) (count : k ≡ many) (some : 0 < k) (ws₂ : List ℕ) (h : Held) (t : Stores (from 0 b.come ws₁) (operands_from s c i) ws₁ b.held ws₂ h) where
      abbrev after : Building
      after = record { held = h; phis = b.phis + 1; come = b.come; relations = b.relations + k; mutations = b.mutations; renders = b.renders }

      stores : Stores (from 0 b.come ws₁) operands ws₁ b.held ws₂ h
      stores = subst (λ (j : ℕ). Stores (from 0 b.come ws₁) (operands_from s c j) ws₁ b.held ws₂ h) is t

      come₂ : come_of ws₂ b.come ≡ come_of ws b.come
      come₂ = come_kept ws₁ ws₂ VALUE b.come (omega (arith, sound.come)) t.low ∙ come₁

      decoded : (phi_word c i % most_sheet ≡ c) × (phi_word c i / most_sheet ≡ i)
      decoded = (omega (arith, phi_short), omega (arith, phi_short))

      word_is : operands_of s (phi_word c i) ≡ operands
      unfolding operands_of
      word_is =
          ap (λ (j : ℕ). operands_from s j (phi_word c i / most_sheet)) decoded.0 ∙ ap (operands_from s c) (decoded.1 ∙ is)

      phis₂ : phis_of ws₂ (b.phis + 1) ≡ phis_of ws b.phis ++ (phi_word c i ∷ [])
      phis₂ = slice_drop PHIS PHIS (PHIS + (b.phis + 1)) ws₂ ws₁ (omega arith) (omega arith) t.high ∙ p.phis

      waiting₂ : waiting_of s (phis_of ws₂ (b.phis + 1)) (come_of ws₂ b.come) ≡ waiting_of s (phis_of ws b.phis) (come_of ws b.come) ++ keep (not_come (come_of ws b.come)) operands
      waiting₂ =
          ap (λ (l : List ℕ). waiting_of s l (come_of ws₂ b.come)) phis₂ ∙ ap (waiting_of s (phis_of ws b.phis ++ (phi_word c i ∷ []))) come₂
          ∙ waiting_last s (phis_of ws b.phis) (come_of ws b.come) (phi_word c i)
          ∙ ap (λ (l : List Waiting). waiting_of s (phis_of ws b.phis) (come_of ws b.come) ++ keep (not_come (come_of ws b.come)) l) word_is

      -- what they store, by the graph before
      graph_is : stored (from 0 b.come ws₁) operands (graph_of ws₁ b.held) ≡ stored (has_come (come_of ws b.come)) operands (graph_of ws b.held)
      graph_is =
          stored_same (from 0 b.come ws₁) (has_come (come_of ws b.come)) test operands (graph_of ws₁ b.held)
          ∙ ap (stored (has_come (come_of ws b.come)) operands) (graph_low ws ws₁ b.held sound.room.edges sound.room.entries below)

      held_is : max b.held.most (held_in (stored (from 0 b.come ws₁) operands (graph_of ws₁ b.held))) ≡ max b.held.most (held_in (stored (has_come (come_of ws b.come)) operands (graph_of ws b.held)))
      held_is = ap (λ (g : Graph). max b.held.most (held_in g)) graph_is

      above : (n : ℕ) → PHIS + b.phis + 1 ≤ n → drop n ws₂ ≡ drop n ws
      above n e = drop_more PHIS n ws₂ ws₁ (omega arith) t.high ∙ drop_more (PHIS + b.phis + 1) n ws₁ ws e p.kept.high

      steps_are : phi_operands (phi_from s c).what (built_of s ws b) ≡ operands_after (phi_from s c).what.place (phi_from s c).what.operands (built_of s ws b)
      unfolding built_of
      steps_are = operands_are (phi_from s c).what.place (phi_from s c).what.operands (built_of s ws b) (graph_below ws b.held sound.room)

      built₂ : h.most ≤ most_relations → built_of s ws₂ after ≡ phi_operands (phi_from s c).what (built_of s ws b)
      unfolding built_of
      built₂ a =
          let z : b.relations + k + b.mutations + b.renders ≡ index_of b + many = omega (arith, count) in
          built_eq (stores.graph a ∙ graph_is) (stores.most a ∙ held_is) z come₂ waiting₂ (mutations_kept ws ws₂ b.mutations (above MUTATIONS (omega (arith, sound.phis, fits.indexes, count, some)))) (renders_kept ws ws₂ b.renders (above RENDERS (omega (arith, sound.phis, fits.indexes, count, some))))
          ∙ sym steps_are

      over₂ : most_relations < h.most → most_relations < (phi_operands (phi_from s c).what (built_of s ws b)).held
      unfolding built_of
      over₂ a = omega (arith, stores.over a, held_is, ap (λ (t : Built). t.held) steps_are)

      known : Known s (phi_word c i)
      known =
          subst (λ (j : ℕ). Stands s j (phi_word c i / most_sheet)) (sym decoded.0) (phi_stands _ (decoded.1 ∙ is))

      holds₂ : Holding s ws₂ after
      holds₂ = record {
        short = holds.short;
        phis = subst (Every (Known s)) (sym phis₂) (every_last (Known s) (phis_of ws b.phis) (phi_word c i) holds.phis known);
      }

      pub operands_step : StepsOn s (phi_operands (phi_from s c).what) k 0 0 0 ws b ws₂ after
      operands_step = record {
        built = built₂;
        over = over₂;
        more = over_stays t;
        rises = operands_rise (phi_from s c).what.place (phi_from s c).what.operands;
        holding = λ x. holds₂;
        sound = record {
          room = t.room;
          phis = omega (arith, sound.phis, some);
          indexes = omega (arith, fits.indexes, count);
          mutations = sound.mutations;
          renders = sound.renders;
          come = sound.come;
        };
        relations = refl;
        mutations = omega arith;
        renders = omega arith;
        come = omega arith;
        low = take_less SEEN VALUE ws₂ ws₁ (omega arith) t.low ∙ take_less SEEN PHIS ws₁ ws (omega arith) below;
        high = above FUNCTIONS (omega (arith, sound.phis, fits.indexes, count, some));
        same = t.same ∙ p.kept.same;
      }

-- ---- the phi itself
module _ {s : List ℕ} {c : Position} {b : Building} (fits : PhiFits s c b) {p : Phi} (at : PhiAt s c p) where
  pub phi-below : p.place.identifier.0 < most_identifiers
  phi-below = subst (λ (x : ℕ). x < most_identifiers) (phi_is s c at) fits.range.0

  module _ {ws ws₁ : List ℕ} {b₁ : Building} (x : StepsOn s (changed (create p.place.identifier.0 phi)) 0 0 0 0 ws b ws₁ b₁) where
    pub fits_after : PhiFits s c b₁
    fits_after = record { inside = fits.inside; range = fits.range; indexes = omega (arith, x.relations, x.mutations, x.renders, fits.indexes) }

    made : StepsOn s (changed (create (phi_from s c).what.place.identifier phi)) 0 0 0 0 ws b ws₁ b₁
    made = subst (λ (i : ℕ). StepsOn s (changed (create i phi)) 0 0 0 0 ws b ws₁ b₁) (sym (phi_is s c at)) x

    -- it has no operand
    pub phi_alone : p.operands.count ≡ 0 → StepsOn s (phi_node (phi_from s c).what) (length (phi_from s c).what.operands) 0 0 0 ws b ws₁ b₁
    unfolding phi_node
    phi_alone e = go (phi_from s c).what.operands (sym (count_is s c at) ∙ e)
      where
        go : (l : List Operand) → length l ≡ 0 → StepsOn s (λ (t : Built). each (operand (phi_from s c).what.place) l (changed (create (phi_from s c).what.place.identifier phi) t)) (length l) 0 0 0 ws b ws₁ b₁
        go [] q = made
        go (o ∷ l) q = absurd (omega (arith, q))

    -- its operands come after its node
    pub phi-step : {ws₂ : List ℕ} {b₂ : Building} → StepsOn s (phi_operands (phi_from s c).what) p.operands.count 0 0 0 ws₁ b₁ ws₂ b₂ → StepsOn s (phi_node (phi_from s c).what) (length (phi_from s c).what.operands) 0 0 0 ws b ws₂ b₂
    unfolding phi_node
    phi-step {ws₂} {b₂} y =
        let q : 0 + p.operands.count ≡ length (phi_from s c).what.operands = omega (arith, count_is s c at) in
        subst (λ (k : ℕ). StepsOn s (λ (t : Built). phi_operands (phi_from s c).what (changed (create (phi_from s c).what.place.identifier phi) t)) k 0 0 0 ws b ws₂ b₂) q (steps_then p.operands.count 0 0 0 made y)
