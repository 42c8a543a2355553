-- A part that stands in the sheet is built: parts that are the same, lists, and the loop over several parts.
use Prim.Native.Nat.{ℕ, ◌+◌, ◌-◌, ◌≤◌, ◌<◌}
use native.Mathlib.Omega.{arith}
use mathlib.Core.Path.{◌≡◌, refl, sym, subst, ap, ◌∙◌}
use mathlib.Core.List.{List, ◌∷◌}
use lib.ListN.{length}
use Rattle.model.specs.Lists.{each, Every}
use Rattle.model.specs.Reading.{Position}
use Rattle.model.specs.Built.{Built}
use Rattle.hir.specs.declared.at.List.{List as Listed}
use Rattle.hir.specs.Words.{Part, Standing, several, listed}
use Rattle.hir.specs.Parts.{ListAt}
use Rattle.hir.proofs.Standing.{part}
use Rattle.hir.proofs.Widths.{Rises, several_rises, listed_rises}
use Rattle.hir.proofs.Several.{several_next, several_none, list_is}
use Rattle.building.specs.declared.Building.{Building}
use Rattle.instructions.specs.Cost.{Cost, costs, Fits}
use Rattle.instructions.specs.Builds.{Spends, Buildable, and_count, Ready, Builds}
use Rattle.instructions.proofs.Spending.{spends_none, spends_then, fits_first, fits_second}

-- ---- a part that is another
module _ {A : Type 0} {p q : Part A} (e : p ≡ q) where
  pub ready_as : {in_range : A → Type 0} {cost : A → Cost} {s ws : List ℕ} {b : Building} → Ready p in_range cost s ws b → Ready q in_range cost s ws b
  ready_as {in_range} {cost} {s} {ws} {b} w = subst (λ (z : Part A). Ready z in_range cost s ws b) e w

  pub builds_as : {step : A → Built → Built} {cost : A → Cost} {s ws ws' : List ℕ} {b : Building} {r : Building} {d : Position} → Builds q step cost s ws b ws' r d → Builds p step cost s ws b ws' r d
  builds_as {step} {cost} {s} {ws} {ws'} {b} {r} {d} h = subst (λ (z : Part A). Builds z step cost s ws b ws' r d) (sym e) h

-- ---- a value that the part holds
module _ {A : Type 0} {part : Part A} {x : A} (e : x ≡ part.what) where
  pub value_ready : {in_range : A → Type 0} {cost : A → Cost} {s ws : List ℕ} {b : Building} → Ready part in_range cost s ws b → Buildable x in_range cost ws b
  value_ready {in_range} {cost} {b = b} w = record { sound = w.sound; range = subst in_range (sym e) w.range; fits = subst (λ (z : A). Fits (cost z) b) (sym e) w.fits }

  pub value_builds : {step : A → Built → Built} {cost : A → Cost} {s ws ws' : List ℕ} {b r : Building} → Spends (step x) (cost x) ws b ws' r → Builds part step cost s ws b ws' r part.next
  value_builds {step} {cost} {s} {ws} {ws'} {b} {r} h = record { spends = subst (λ (z : A). Spends (step z) (cost z) ws b ws' r) e h s; next = refl }

-- ---- a list, by its count and its first part
module _ {A : Type 0} (f : Standing A) where
  pub list_inside : Rises f → (s : List ℕ) (c : Position) {in_range : List A → Type 0} {cost : List A → Cost} {ws : List ℕ} {b : Building} → Ready (listed f s c) in_range cost s ws b → c + 1 ≤ length s
  list_inside rises s c w = omega (arith, w.inside, listed_rises f rises s c)

  module _ (s : List ℕ) (c : Position) {l : Listed} (h : ListAt s c l) where
    pub list_ready : {in_range : List A → Type 0} {cost : List A → Cost} {ws : List ℕ} {b : Building} → Ready (listed f s c) in_range cost s ws b → Ready (several l.count f s l.first) in_range cost s ws b
    list_ready = ready_as (list_is f s c h)

    pub list_builds : {step : List A → Built → Built} {cost : List A → Cost} {ws ws' : List ℕ} {b : Building} {r : Building} {d : Position} → Builds (several l.count f s l.first) step cost s ws b ws' r d → Builds (listed f s c) step cost s ws b ws' r d
    list_builds = builds_as (list_is f s c h)

    -- with a count behind it
    pub counted_ready : {in_range : List A → Type 0} {cost : List A → Cost} {ws : List ℕ} {b : Building} → Ready (and_count (listed f s c)) in_range cost s ws b → Ready (and_count (several l.count f s l.first)) in_range cost s ws b
    counted_ready = ready_as (ap (λ (p : Part (List A)). and_count p) (list_is f s c h))

    pub counted_builds : {step : List A → Built → Built} {cost : List A → Cost} {ws ws' : List ℕ} {b : Building} {r : Building} {d : Position} → Builds (and_count (several l.count f s l.first)) step cost s ws b ws' r d → Builds (and_count (listed f s c)) step cost s ws b ws' r d
    counted_builds = builds_as (ap (λ (p : Part (List A)). and_count p) (list_is f s c h))

-- ---- a part with a count behind it: the part alone, and then the count
module _ {A : Type 0} {p : Part A} where
  pub without-count : {in_range : A → Type 0} {cost : A → Cost} {s ws : List ℕ} {b : Building} → Ready (and_count p) in_range cost s ws b → Ready p in_range cost s ws b
  without-count w = record { sound = w.sound; holding = w.holding; inside = omega (arith, w.inside); range = w.range; fits = w.fits }

  pub with_count : {step : A → Built → Built} {cost : A → Cost} {s ws ws' : List ℕ} {b r : Building} {c : Position} → Builds p step cost s ws b ws' r c → Builds (and_count p) step cost s ws b ws' r (c + 1)
  with_count h = record { spends = h.spends; next = ap (λ (c : Position). c + 1) h.next }

-- ---- several parts, one after another
-- what a loop over parts has still to build, `left` of them at c: whatever builds them has built the whole
module _ {A : Type 0} (f : Standing A) (in_range : A → Type 0) (step : A → Built → Built) (cost : A → Cost) (s : List ℕ) (whole : Part (List A)) (ws₀ : List ℕ) (b₀ : Building) where
  pub record Looping (left : ℕ) (c : Position) (ws : List ℕ) (b : Building) : Type 0 where
    pub same : length ws ≡ length ws₀
    pub ready : Ready (several left f s c) (Every in_range) (costs cost) s ws b
    pub rest : (ws' : List ℕ) (r : Building) (d : Position) → Builds (several left f s c) (each step) (costs cost) s ws b ws' r d → Builds whole (each step) (costs cost) s ws₀ b₀ ws' r d

module _ {A : Type 0} {f : Standing A} {in_range : A → Type 0} {step : A → Built → Built} {cost : A → Cost} {s : List ℕ} where
  pub loop_start : {left : ℕ} {c : Position} {ws : List ℕ} {b : Building} → Ready (several left f s c) (Every in_range) (costs cost) s ws b → {k : ℕ} → k ≡ left → Looping f in_range step cost s (several left f s c) ws b k c ws b
  loop_start {left} {c} {ws} {b} w e =
      subst (λ (k : ℕ). Looping f in_range step cost s (several left f s c) ws b k c ws b) (sym e) (record { same = refl; ready = w; rest = λ ws' r d h. h })

  module _ {whole : Part (List A)} {ws₀ : List ℕ} {b₀ : Building} {left : ℕ} {c : Position} {ws : List ℕ} {b : Building} (i : Looping f in_range step cost s whole ws₀ b₀ left c ws b) where
    -- nothing is left
    pub loop_done : left ≤ 0 → Builds whole (each step) (costs cost) s ws₀ b₀ ws b c
    loop_done t = i.rest ws _ _ (builds_as (several_none f s left c t) (record { spends = spends_none i.ready.sound s; next = refl }))

    module _ (t : 0 < left) where
      abbrev others : Part (List A)
      others = several (left - 1) f s (f s c).next

      now_ready : Ready (part ((f s c).what ∷ others.what) others.next) (Every in_range) (costs cost) s ws b
      now_ready = ready_as (several_next f s left c t) i.ready

      -- the next one can be built
      pub loop_ready : Rises f → Ready (f s c) in_range cost s ws b
      loop_ready rises =
          let w = now_ready in
          record {
            sound = w.sound;
            holding = w.holding;
            inside = omega (arith, w.inside, several_rises (left - 1) f rises s (f s c).next);
            range = w.range.0;
            fits = fits_first (cost (f s c).what) (costs cost others.what) w.fits;
          }

      -- it was built: one less is left
      one_less : {ws₁ : List ℕ} {r : Building} {d : Position} → Builds (f s c) step cost s ws b ws₁ r d → Looping f in_range step cost s whole ws₀ b₀ (left - 1) d ws₁ r
      one_less {ws₁} {r} {d} h =
          let w = now_ready in
          let after : several (left - 1) f s (f s c).next ≡ several (left - 1) f s d = ap (several (left - 1) f s) (sym h.next) in
          record {
            same = h.spends.same ∙ i.same;
            ready = ready_as after (record {
              sound = h.spends.sound;
              holding = h.spends.holding w.holding;
              inside = w.inside;
              range = w.range.1;
              fits = fits_second (cost (f s c).what) (costs cost others.what) w.fits h.spends;
            });
            rest = λ ws' r' d' g.
                let o = builds_as after g in
                i.rest ws' r' d' (builds_as (several_next f s left c t) (record { spends = spends_then (cost (f s c).what) (costs cost others.what) h.spends o.spends; next = o.next }));
          }

      pub loop_turn : {ws₁ : List ℕ} {r : Building} {d : Position} → Builds (f s c) step cost s ws b ws₁ r d → {k : ℕ} → k ≡ left - 1 → Looping f in_range step cost s whole ws₀ b₀ k d ws₁ r
      loop_turn {ws₁} {r} {d} h e = subst (λ (k : ℕ). Looping f in_range step cost s whole ws₀ b₀ k d ws₁ r) (sym e) (one_less h)
