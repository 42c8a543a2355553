-- The building so far when a block ends.
use Prim.Native.Nat.{ℕ, suc, ◌+◌, ◌≤◌, ◌<◌, max}
use native.Mathlib.Omega.{arith}
use native.Mathlib.Numerals.{add-one}
use mathlib.Core.Bool.{Bool, true, false, not}
use mathlib.Core.List.{List, [], ◌∷◌}
use mathlib.Core.Logic.{inl, inr}
use mathlib.Core.Path.{◌≡◌, refl, sym, ap, subst, ◌∙◌}
use lib.ListN.{length, get_or, take, drop}
use lib.Seq.{slice, slice-cons, slice_empty}
use lib.Dec.{eqb}
use Rattle.model.specs.Limits.{most_relations, most_blocks}
use Rattle.model.specs.Lists.{pick, keep, each, gather, among, Every}
use Rattle.model.specs.Sheet.{BlockId}
use Rattle.model.specs.Graph.{Graph, into_aliases, relate}
use Rattle.model.specs.Built.{Built, Waiting, held_in, changed, comes}
use Rattle.model.specs.Building.{waiting_for, still_waiting}
use Rattle.workspace.specs.Layout.{LEAST, SEEN, VALUE, PHIS, MUTATIONS, RENDERS, FUNCTIONS}
use Rattle.workspace.proofs.Parts.{drop_more, take_less, slice_drop}
use Rattle.workspace.proofs.Pending.{mutations_kept, renders_kept}
use Rattle.building.specs.declared.Held.{Held}
use Rattle.building.specs.declared.Building.{Building}
use Rattle.building.specs.Logs.{any_p}
use Rattle.building.specs.Held.{graph_of, Room}
use Rattle.building.specs.Phis.{most_phis, operands_of, phis_of, waiting_of, Known, from, stored, Stores}
use Rattle.building.specs.Built.{come_of, built_of, Sound, Holding, ends, StepsOn, PushesBlock}
use Rattle.building.proofs.Operands.{built_eq, keep_same, ends_are, ends_rise, eqb_sym, others_wait, all_wake, none_wakes}
use Rattle.building.proofs.Holds.{graph_high, clean_high, by_limit, graph_below, marked_high}
use Rattle.building.proofs.Pushes.{come_kept, come_among}

module _ (s : List ℕ) (n : BlockId) (ws : List ℕ) (b : Building) (sound : Sound ws b) (holds : Holding s ws b) (more : b.come < most_blocks) (ws₁ : List ℕ) (p : PushesBlock n ws b.come ws₁) where
  high₁ : (k : ℕ) → VALUE ≤ k → drop k ws₁ ≡ drop k ws
  high₁ k e = drop_more (SEEN + b.come + 1) k ws₁ ws (omega arith) p.kept.high

  come₀ : come_of ws₁ b.come ≡ come_of ws b.come
  come₀ = come_kept ws ws₁ (SEEN + b.come) b.come (omega arith) p.kept.low

  size₁ : LEAST ≤ length ws₁
  size₁ = omega (arith, sound.room.size, p.kept.same)

  -- whether it has come before
  before : (t : Bool) → t ≡ any_p (eqb n) (slice SEEN (SEEN + b.come) ws₁) → among n (come_of ws b.come) ≡ t
  before t e = sym (e ∙ come_among ws₁ n b.come (omega (arith, size₁)) ∙ ap (among n) come₀)

  phis₁ : phis_of ws₁ b.phis ≡ phis_of ws b.phis
  phis₁ = slice_drop VALUE PHIS (PHIS + b.phis) ws₁ ws (omega arith) (omega arith) (high₁ VALUE (omega arith))

  abbrev waiting : List Waiting
  waiting = waiting_of s (phis_of ws b.phis) (come_of ws b.come)

  abbrev ended : Held → Building
  ended h = record { held = h; phis = b.phis; come = b.come + 1; relations = b.relations; mutations = b.mutations; renders = b.renders }

  -- what is held after the end, given what it stored
  module _ (ws₂ : List ℕ) (h : Held) (low : take VALUE ws₂ ≡ take VALUE ws₁) (high : drop PHIS ws₂ ≡ drop PHIS ws₁) (same : length ws₂ ≡ length ws₁) where
    come₂ : come_of ws₂ (b.come + 1) ≡ n ∷ come_of ws b.come
    come₂ = come_kept ws₁ ws₂ VALUE (b.come + 1) (omega arith) low ∙ p.come

    phis₂ : phis_of ws₂ b.phis ≡ phis_of ws b.phis
    phis₂ = slice_drop PHIS PHIS (PHIS + b.phis) ws₂ ws₁ (omega arith) (omega arith) high ∙ phis₁

    waiting₂ : waiting_of s (phis_of ws₂ b.phis) (come_of ws₂ (b.come + 1)) ≡ keep (λ (w : Waiting). not (waiting_for n w)) waiting
    waiting₂ =
        ap (λ (l : List ℕ). waiting_of s l (come_of ws₂ (b.come + 1))) phis₂ ∙ ap (waiting_of s (phis_of ws b.phis)) come₂
        ∙ others_wait s (phis_of ws b.phis) (come_of ws b.come) n

    above : (k : ℕ) → PHIS ≤ k → drop k ws₂ ≡ drop k ws
    above k e = drop_more PHIS k ws₂ ws₁ e high ∙ high₁ k (omega arith)

    ends-step : ends n (built_of s ws b) ≡ changed (stored (waiting_for n) waiting) (still_waiting n (comes n (built_of s ws b)))
    unfolding built_of
    ends-step = ends_are n (built_of s ws b) (graph_below ws b.held sound.room)

    built₂ : graph_of ws₂ h ≡ stored (waiting_for n) waiting (graph_of ws b.held) → h.most ≡ max b.held.most (held_in (stored (waiting_for n) waiting (graph_of ws b.held))) → built_of s ws₂ (ended h) ≡ ends n (built_of s ws b)
    unfolding built_of
    built₂ g m =
        built_eq g m refl come₂ waiting₂ (mutations_kept ws ws₂ b.mutations (above MUTATIONS (omega arith))) (renders_kept ws ws₂ b.renders (above RENDERS (omega arith)))
        ∙ sym ends-step

    over₂ : (most_relations < h.most → most_relations < max b.held.most (held_in (stored (waiting_for n) waiting (graph_of ws b.held)))) → most_relations < h.most → most_relations < (ends n (built_of s ws b)).held
    unfolding built_of
    over₂ o a = omega (arith, o a, ap (λ (t : Built). t.held) ends-step)

    holds₂ : Holding s ws₂ (ended h)
    holds₂ = record { short = holds.short; phis = subst (Every (Known s)) (sym phis₂) holds.phis }

    end_step : (h.most ≤ most_relations → graph_of ws₂ h ≡ stored (waiting_for n) waiting (graph_of ws b.held)) → (h.most ≤ most_relations → h.most ≡ max b.held.most (held_in (stored (waiting_for n) waiting (graph_of ws b.held))))
        → (most_relations < h.most → most_relations < max b.held.most (held_in (stored (waiting_for n) waiting (graph_of ws b.held)))) → Room ws₂ h → StepsOn s (ends n) 0 0 0 1 ws b ws₂ (ended h)
    end_step g m o room = record {
      built = λ a. built₂ (g a) (m a);
      over = over₂ o;
      more = by_limit h.most (λ a. inl (omega (arith, a, m a))) (λ a. inr a);
      rises = ends_rise n;
      holding = λ y. holds₂;
      sound = record {
        room = room;
        phis = sound.phis;
        indexes = sound.indexes;
        mutations = sound.mutations;
        renders = sound.renders;
        come = omega arith;
      };
      relations = omega arith;
      mutations = omega arith;
      renders = omega arith;
      come = refl;
      low = take_less SEEN VALUE ws₂ ws₁ (omega arith) low ∙ take_less SEEN (SEEN + b.come) ws₁ ws (omega arith) p.kept.low;
      high = above FUNCTIONS (omega arith);
      same = same ∙ p.kept.same;
    }

  graph₁ : graph_of ws₁ b.held ≡ graph_of ws b.held
  graph₁ = graph_high ws ws₁ b.held (high₁ VALUE (omega arith))

  pub wake_room : Room ws₁ b.held
  wake_room = record {
    size = size₁;
    edges = sound.room.edges;
    entries = sound.room.entries;
    held = sound.room.held;
    clean = clean_high ws ws₁ b.held (high₁ VALUE (omega arith)) sound.room.clean;
    marked = marked_high ws ws₁ b.held.edges (high₁ VALUE (omega arith)) sound.room.marked;
  }

  none_stored : among n (come_of ws b.come) ≡ true → (g : Graph) → stored (waiting_for n) waiting g ≡ g
  unfolding stored
  none_stored e g = rw (none_wakes s (phis_of ws b.phis) (come_of ws b.come) n e)

  -- it has come before: nothing waits for it
  pub ends_again : (t : Bool) → t ≡ any_p (eqb n) (slice SEEN (SEEN + b.come) ws₁) → t ≡ true → StepsOn s (ends n) 0 0 0 1 ws b ws₁ (ended b.held)
  ends_again t e q =
      let g : graph_of ws b.held ≡ stored (waiting_for n) waiting (graph_of ws b.held) = sym (none_stored (before t e ∙ q) (graph_of ws b.held)) in
      let m : b.held.most ≡ max b.held.most (held_in (stored (waiting_for n) waiting (graph_of ws b.held))) = omega (arith, ap held_in g, graph_below ws b.held sound.room) in
      end_step ws₁ b.held refl refl refl (λ a. graph₁ ∙ g) (λ a. m) (λ a. omega (arith, a, m)) wake_room

  -- its number is the last word
  word_is : slice (SEEN + b.come) (SEEN + b.come + 1) ws₁ ≡ n ∷ []
  unfolding come_of
  word_is =
      let v : get_or ws₁ (SEEN + b.come) 0 ≡ n = ap (λ (l : List ℕ). get_or l 0 0) (sym (ap (come_of ws₁) (add-one b.come)) ∙ p.come) in
      let q : SEEN + b.come + 1 ≡ suc (SEEN + b.come) = omega arith in
      slice-cons (SEEN + b.come) (SEEN + b.come + 1) ws₁ 0 (omega arith) (omega (arith, size₁))
      ∙ ap (λ (j : ℕ). get_or ws₁ (SEEN + b.come) 0 ∷ slice (suc (SEEN + b.come)) j ws₁) q
      ∙ ap (λ (l : List ℕ). get_or ws₁ (SEEN + b.come) 0 ∷ l) (slice_empty (suc (SEEN + b.come)) ws₁) ∙ ap (λ (j : ℕ). j ∷ []) v

  test : (w : Waiting) → from b.come 1 ws₁ w ≡ waiting_for n w
  unfolding any_p
  test w = ap (any_p (eqb w.predecessor)) word_is ∙ one (eqb w.predecessor n) ∙ eqb_sym w.predecessor n
    where
      one : (b : Bool) → pick b true false ≡ b
      one true = refl
      one false = refl

  abbrev all : List Waiting
  all = gather (operands_of s) (phis_of ws₁ b.phis)

  module _ (new : among n (come_of ws b.come) ≡ false) where
    woken : keep (from b.come 1 ws₁) all ≡ keep (waiting_for n) waiting
    woken =
        keep_same (from b.come 1 ws₁) (waiting_for n) test all ∙ ap (λ (l : List ℕ). keep (waiting_for n) (gather (operands_of s) l)) phis₁
        ∙ sym (all_wake s (phis_of ws b.phis) (come_of ws b.come) n new)

    woken_graph : (g : Graph) → stored (from b.come 1 ws₁) all g ≡ stored (waiting_for n) waiting g
    unfolding stored
    woken_graph g = ap (λ (l : List Waiting). each (λ (w : Waiting). relate into_aliases w.index w.origin w.into) l g) woken

  pub wake_known : Every (Known s) (phis_of ws₁ b.phis) × ((b.phis ≤ most_phis) × (b.come < most_blocks))
  wake_known = (subst (Every (Known s)) (sym phis₁) holds.phis, (omega (arith, sound.phis, sound.indexes), more))

  pub ends_new : (t : Bool) → t ≡ any_p (eqb n) (slice SEEN (SEEN + b.come) ws₁) → t ≡ false → {ws₂ : List ℕ} {h : Held} → Stores (from b.come 1 ws₁) all ws₁ b.held ws₂ h → StepsOn s (ends n) 0 0 0 1 ws b ws₂ (ended h)
  ends_new t e q {ws₂} {h} x =
      let g = woken_graph (before t e ∙ q) (graph_of ws₁ b.held) ∙ ap (stored (waiting_for n) waiting) graph₁ in
      let m = ap (λ (k : Graph). max b.held.most (held_in k)) g in
      end_step ws₂ h x.low x.high x.same (λ a. x.graph a ∙ g) (λ a. x.most a ∙ m) (λ a. omega (arith, x.over a, m)) x.room
