-- The building so far under each step on the graph: what the graph's words, the phis and the counts say together.
use Prim.Native.Nat.{ℕ, suc, ◌+◌, ◌≤◌, ◌<◌, max}
use native.Mathlib.Omega.{arith}
use mathlib.Core.List.{List}
use mathlib.Core.Logic.{◌⊎◌, inl, inr}
use mathlib.Core.Path.{◌≡◌, refl, sym, ap, subst, ◌∙◌}
use Rattle.model.specs.Limits.{most_relations, most_index}
use Rattle.model.specs.Lists.{Every}
use Rattle.model.specs.Graph.{Graph}
use Rattle.model.specs.Built.{Built, held_in, changed, related}
use Rattle.workspace.specs.Layout.{SEEN, VALUE, PHIS, MUTATIONS, RENDERS, FUNCTIONS}
use Rattle.workspace.proofs.Parts.{drop_more, take_less, slice_drop}
use Rattle.workspace.proofs.Pending.{mutations_kept, renders_kept}
use Rattle.building.specs.declared.Held.{Held}
use Rattle.building.specs.declared.Building.{Building}
use Rattle.building.specs.Held.{graph_of, Builds}
use Rattle.building.specs.Phis.{phis_of, waiting_of, Known}
use Rattle.building.specs.Built.{come_of, index_of, built_of, Sound, Holding, StepsOn, Steps}
use Rattle.building.proofs.Holds.{by_limit}
use Rattle.building.proofs.Operands.{built_eq}
use Rattle.building.proofs.Pushes.{come_kept}

-- ---- what is held
-- what is too much stays so
pub over_stays : {f : Graph → Graph} {ws : List ℕ} {h : Held} {ws' : List ℕ} {r : Held} → Builds f ws h ws' r → (h.most ≤ most_relations) ⊎ (most_relations < r.most)
over_stays {r = r} t = by_limit r.most (λ a. inl (omega (arith, a, t.most a))) (λ a. inr a)

-- ---- the phis and the blocks stay, and with them what waits
module _ (s ws : List ℕ) (b : Building) (ws' : List ℕ) (r : Building) (phis : phis_of ws' r.phis ≡ phis_of ws b.phis) (come : come_of ws' r.come ≡ come_of ws b.come) where
  pub waiting_stays : waiting_of s (phis_of ws' r.phis) (come_of ws' r.come) ≡ waiting_of s (phis_of ws b.phis) (come_of ws b.come)
  waiting_stays = ap (λ (l : List ℕ). waiting_of s l (come_of ws' r.come)) phis ∙ ap (waiting_of s (phis_of ws b.phis)) come

  pub holding_stays : Holding s ws b → Holding s ws' r
  holding_stays h = record { short = h.short; phis = subst (Every (Known s)) (sym phis) h.phis }

-- ---- a step on the graph: n relation effects have come, d of them now
module _ (F : Built → Built) (f : Graph → Graph) (d n : ℕ) (ws : List ℕ) (b : Building) (ws' : List ℕ) (h : Held) (sound : Sound ws b) (counts : n ≡ b.relations + d) (few : n + b.mutations + b.renders ≤ most_index) (t : Builds f ws b.held ws' h) where
  abbrev after : Building
  after = record { held = h; phis = b.phis; come = b.come; relations = n; mutations = b.mutations; renders = b.renders }

  come_stays : come_of ws' b.come ≡ come_of ws b.come
  come_stays = come_kept ws ws' VALUE b.come (omega (arith, sound.come)) t.low

  phis_stay : phis_of ws' b.phis ≡ phis_of ws b.phis
  phis_stay = slice_drop PHIS PHIS (PHIS + b.phis) ws' ws (omega arith) (omega arith) t.high

  built_as : (s : List ℕ) {g : Graph} {i : ℕ} → f (graph_of ws b.held) ≡ g → n + b.mutations + b.renders ≡ i → h.most ≤ most_relations
      → built_of s ws' after ≡ record {
        graph = g;
        held = max b.held.most (held_in g);
        index = i;
        come = (built_of s ws b).come;
        waiting = (built_of s ws b).waiting;
        mutations = (built_of s ws b).mutations;
        renders = (built_of s ws b).renders;
      }
  unfolding built_of
  built_as s p q a =
      built_eq (t.graph a ∙ p) (t.most a ∙ ap (λ (g : Graph). max b.held.most (held_in g)) p) q come_stays (waiting_stays s ws b ws' after phis_stay come_stays)
      (mutations_kept ws ws' b.mutations (drop_more PHIS MUTATIONS ws' ws (omega arith) t.high)) (renders_kept ws ws' b.renders (drop_more PHIS RENDERS ws' ws (omega arith) t.high))

  graph_steps : (s : List ℕ) → (h.most ≤ most_relations → built_of s ws' after ≡ F (built_of s ws b)) → (F (built_of s ws b)).held ≡ max b.held.most (held_in (f (graph_of ws b.held))) → ((c : Built) → c.held ≤ (F c).held)
      → StepsOn s F d 0 0 0 ws b ws' after
  graph_steps s is held rises = record {
    built = is;
    over = λ a. omega (arith, t.over a, held);
    more = over_stays t;
    rises = rises;
    holding = holding_stays s ws b ws' after phis_stay come_stays;
    sound = record {
      room = t.room;
      phis = omega (arith, sound.phis);
      indexes = few;
      mutations = sound.mutations;
      renders = sound.renders;
      come = sound.come;
    };
    relations = counts;
    mutations = omega arith;
    renders = omega arith;
    come = omega arith;
    low = take_less SEEN VALUE ws' ws (omega arith) t.low;
    high = drop_more PHIS FUNCTIONS ws' ws (omega arith) t.high;
    same = t.same;
  }

-- ---- a creation
pub created : (F G : Graph → Graph) → F ≡ G → (ws : List ℕ) (b : Building) (ws' : List ℕ) (h : Held) → Sound ws b → Builds F ws b.held ws' h
    → Steps (changed G) 0 0 0 0 ws b ws' (record { held = h; phis = b.phis; come = b.come; relations = b.relations; mutations = b.mutations; renders = b.renders })
unfolding built_of
created F G e ws b ws' h sound t s =
    let k : b.relations ≡ b.relations + 0 = omega arith in
    let g : F (graph_of ws b.held) ≡ G (graph_of ws b.held) = ap (λ (k : Graph → Graph). k (graph_of ws b.held)) e in
    graph_steps (changed G) F 0 b.relations ws b ws' h sound k sound.indexes t s
    (built_as (changed G) F 0 b.relations ws b ws' h sound k sound.indexes t s g refl)
    (ap (λ (j : Graph). max b.held.most (held_in j)) (sym g)) (λ c. omega arith)

-- ---- a relation effect
pub relation : (f : ℕ → Graph → Graph) (ws : List ℕ) (b : Building) (ws' : List ℕ) (h : Held) → Sound ws b → index_of b < most_index → (i : ℕ) → i ≡ index_of b → Builds (f i) ws b.held ws' h
    → Steps (related f) 1 0 0 0 ws b ws' (record { held = h; phis = b.phis; come = b.come; relations = b.relations + 1; mutations = b.mutations; renders = b.renders })
unfolding built_of
relation f ws b ws' h sound more i is t s =
    let q : b.relations + 1 + b.mutations + b.renders ≡ suc (index_of b) = omega arith in
    let g : f i (graph_of ws b.held) ≡ f (index_of b) (graph_of ws b.held) = ap (λ (j : ℕ). f j (graph_of ws b.held)) is in
    graph_steps (related f) (f i) 1 (b.relations + 1) ws b ws' h sound refl (omega (arith, more)) t s
    (built_as (related f) (f i) 1 (b.relations + 1) ws b ws' h sound refl (omega (arith, more)) t s g q)
    (ap (λ (j : Graph). max b.held.most (held_in j)) (sym g)) (λ c. omega arith)

-- ---- a step of which the definition holds no more than there is room for
pub steps_within : {s : List ℕ} {f : Built → Built} {d m n k : ℕ} {ws : List ℕ} {b : Building} {ws' : List ℕ} {r : Building} → StepsOn s f d m n k ws b ws' r → (f (built_of s ws b)).held ≤ most_relations → built_of s ws' r ≡ f (built_of s ws b)
steps_within {r = r} x h = by_limit r.held.most (λ a. x.built a) (λ a. absurd (omega (arith, h, x.over a)))

-- ---- one step after the other
pub steps_then : {s : List ℕ} {f g : Built → Built} {d m n k : ℕ} {ws : List ℕ} {b : Building} {ws₁ : List ℕ} {b₁ : Building} (d' m' n' k' : ℕ) {ws₂ : List ℕ} {b₂ : Building}
    → StepsOn s f d m n k ws b ws₁ b₁ → StepsOn s g d' m' n' k' ws₁ b₁ ws₂ b₂ → StepsOn s (λ (t : Built). g (f t)) (d + d') (m + m') (n + n') (k + k') ws b ws₂ b₂
steps_then {s} {f} {g} {ws = ws} {b} {ws₁} {b₁} d' m' n' k' {ws₂} {b₂} x y = record {
  built = λ a. y.built a ∙ ap g (x.built (first a y.more));
  over = λ a. by_limit b₁.held.most (λ c. omega (arith, y.over a, ap (λ (t : Built). (g t).held) (x.built c))) (λ c. omega (arith, x.over c, y.rises (f (built_of s ws b))));
  more = both x.more y.more;
  rises = λ c. omega (arith, x.rises c, y.rises (f c));
  holding = λ h. y.holding (x.holding h);
  sound = y.sound;
  relations = omega (arith, x.relations, y.relations);
  mutations = omega (arith, x.mutations, y.mutations);
  renders = omega (arith, x.renders, y.renders);
  come = omega (arith, x.come, y.come);
  low = y.low ∙ x.low;
  high = y.high ∙ x.high;
  same = y.same ∙ x.same;
}
  where
    first : b₂.held.most ≤ most_relations → (b₁.held.most ≤ most_relations) ⊎ (most_relations < b₂.held.most) → b₁.held.most ≤ most_relations
    first a (inl c) = c
    first a (inr c) = absurd (omega (arith, a, c))

    both : (b.held.most ≤ most_relations) ⊎ (most_relations < b₁.held.most) → (b₁.held.most ≤ most_relations) ⊎ (most_relations < b₂.held.most) → (b.held.most ≤ most_relations) ⊎ (most_relations < b₂.held.most)
    both p (inr c) = inr c
    both (inl a) (inl c) = inl a
    both (inr a) (inl c) = absurd (omega (arith, a, c))
