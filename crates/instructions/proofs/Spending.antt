-- Steps one after another, and what they spend together.
use Prim.Native.Nat.{ℕ}
use native.Mathlib.Omega.{arith}
use mathlib.Core.Path.{◌≡◌, refl, ap, ◌∙◌}
use mathlib.Core.Logic.{inl, inr}
use mathlib.Core.List.{List, [], ◌∷◌}
use Rattle.model.specs.Lists.{tally}
use Rattle.model.specs.Built.{Built}
use Rattle.building.specs.declared.Building.{Building}
use Rattle.building.specs.Built.{built_of, Sound}
use Rattle.building.proofs.Holds.{by_limit}
use Rattle.building.proofs.Stages.{steps_then}
use Rattle.instructions.specs.Cost.{Cost, relations_only, sum, costs, Fits}
use Rattle.instructions.specs.Builds.{SpendsOn, Spends}

module _ {ws : List ℕ} {b : Building} where
  -- nothing is done
  pub spends_none : Sound ws b → Spends (λ (t : Built). t) (relations_only 0) ws b ws b
  unfolding built_of
  spends_none h s = record {
    built = λ a. refl;
    over = λ a. a;
    more = by_limit b.held.most (λ a. inl a) (λ a. inr a);
    rises = λ c. omega arith;
    holding = λ x. x;
    sound = h;
    relations = omega arith;
    mutations = omega arith;
    renders = omega arith;
    come = omega arith;
    low = refl;
    high = refl;
    same = refl;
  }

  -- one step after another
  pub spends_then : {s : List ℕ} {f g : Built → Built} (j k : Cost) {ws₁ ws₂ : List ℕ} {b₁ b₂ : Building}
      → SpendsOn s f j ws b ws₁ b₁ → SpendsOn s g k ws₁ b₁ ws₂ b₂ → SpendsOn s (λ (t : Built). g (f t)) (sum j k) ws b ws₂ b₂
  spends_then j k x y = steps_then k.relations k.mutations k.renders k.blocks x y

  -- a step that is another
  pub spends_as : {s : List ℕ} {f g : Built → Built} {k : Cost} {ws' : List ℕ} {r : Building} → ((t : Built) → f t ≡ g t) → SpendsOn s f k ws b ws' r → SpendsOn s g k ws b ws' r
  spends_as {s} e x = record {
    built = λ a. x.built a ∙ e (built_of s ws b);
    over = λ a. omega (arith, x.over a, ap (λ (t : Built). t.held) (e (built_of s ws b)));
    more = x.more;
    rises = λ c. omega (arith, x.rises c, ap (λ (t : Built). t.held) (e c));
    holding = x.holding;
    sound = x.sound;
    relations = x.relations;
    mutations = x.mutations;
    renders = x.renders;
    come = x.come;
    low = x.low;
    high = x.high;
    same = x.same;
  }

-- there is room for a part of what there is room for
pub fits_first : (j k : Cost) {b : Building} → Fits (sum j k) b → Fits j b
fits_first j k h = record {
  indexes = omega (arith, h.indexes);
  mutations = omega (arith, h.mutations);
  renders = omega (arith, h.renders);
  blocks = omega (arith, h.blocks);
}

-- and for the rest of it after that
pub fits_second : {s : List ℕ} {f : Built → Built} (j k : Cost) {ws ws' : List ℕ} {b r : Building} → Fits (sum j k) b → SpendsOn s f j ws b ws' r → Fits k r
fits_second j k h x = record {
  indexes = omega (arith, h.indexes, x.relations, x.mutations, x.renders);
  mutations = omega (arith, h.mutations, x.mutations);
  renders = omega (arith, h.renders, x.renders);
  blocks = omega (arith, h.blocks, x.come);
}

-- equal counts are equal costs
pub cost_eq : {j k : Cost} → j.relations ≡ k.relations → j.mutations ≡ k.mutations → j.renders ≡ k.renders → j.blocks ≡ k.blocks → j ≡ k
cost_eq {j} {k} a b c d =
    ap (λ (n : ℕ). record { relations = n; mutations = j.mutations; renders = j.renders; blocks = j.blocks }) a
    ∙ ap (λ (n : ℕ). record { relations = k.relations; mutations = n; renders = j.renders; blocks = j.blocks }) b
    ∙ ap (λ (n : ℕ). record { relations = k.relations; mutations = k.mutations; renders = n; blocks = j.blocks }) c
    ∙ ap (λ (n : ℕ). record { relations = k.relations; mutations = k.mutations; renders = k.renders; blocks = n }) d

pub tally_none : {A : Type 0} (l : List A) → tally (λ (a : A). 0) l ≡ 0
tally_none [] = refl
tally_none (a ∷ l) = omega (arith, tally_none l)

-- a list that spends relation effects alone
pub costs_relations : {A : Type 0} (f : A → ℕ) (l : List A) → costs (λ (a : A). relations_only (f a)) l ≡ relations_only (tally f l)
costs_relations f l = cost_eq refl (tally_none l) (tally_none l) (tally_none l)
