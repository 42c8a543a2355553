-- What the loop of a walk keeps.
use Prim.Native.Nat.{ℕ, suc, ◌+◌, ◌-◌, ◌≤◌, ◌<◌}
use native.Mathlib.Omega.{arith}
use mathlib.Core.List.{List}
use mathlib.Core.Path.{◌≡◌, refl, sym, ap, subst, ◌∙◌}
use lib.Seq.{slice}
use Rattle.model.specs.Limits.{most_identifiers}
use Rattle.model.specs.Mutation.{Mutation}
use Rattle.model.specs.State.{Mode}
use Rattle.model.specs.Walks.{Walk, step, run}
use Rattle.model.proofs.Fuel.{run_add}
use lib.ListN.{length}
use Rattle.workspace.specs.Layout.{QUEUE, HANDED}
use Rattle.workspace.specs.Rows.{rows_of, Good, Indexed}
use Rattle.aliasing.specs.Items.{item_of, queue_of}
use Rattle.aliasing.specs.declared.mutation.Mutation.{Mutation as CodeMutation}
use Rattle.aliasing.specs.Says.{mode_says, mutation_says}
use Rattle.aliasing.specs.State.{seen_of, levels}
use Rattle.aliasing.specs.Potential.{phi}
use Rattle.aliasing.specs.Walks.{Shows, Ready, Aside, Stepped, Walked}
use Rattle.aliasing.proofs.Cases.{step-taken}
use Rattle.aliasing.proofs.Entries.{last, queue_head}

pub aside_none : (ws : List ℕ) → Aside ws ws
aside_none ws = record { graph = refl; behind = refl; same = refl }

pub aside_then : {ws₁ ws₂ ws₃ : List ℕ} → Aside ws₁ ws₂ → Aside ws₂ ws₃ → Aside ws₁ ws₃
aside_then a b = record { graph = b.graph ∙ a.graph; behind = b.behind ∙ a.behind; same = b.same ∙ a.same }

-- the graph in rows stays so
pub indexed-after : {ws ws' : List ℕ} → Indexed ws → rows_of ws' ≡ rows_of ws → length ws' ≡ length ws → Indexed ws'
indexed-after i g n = record { size = omega (arith, i.size, n); good = subst Good (sym g) i.good }

-- one step more
run_next : (how : Mode) (m : Mutation) (n : ℕ) (w : Walk) → run how m (n + 1) w ≡ step how m (run how m n w).queue (run how m n w)
unfolding run
run_next how m n w = run_add how m n 1 w

pub record WalkInv (m : CodeMutation) (base : ℕ) (ws₀ : List ℕ) (top hand : ℕ) (ws : List ℕ) (t h taken : ℕ) : Type 0 where
  pub ready : Ready base ws t h
  pub fits : top + phi (levels base (seen_of ws₀)) (rows_of ws₀) most_identifiers ≤ HANDED
  pub spent : taken + (t + phi (levels base (seen_of ws)) (rows_of ws) most_identifiers) ≤ top + phi (levels base (seen_of ws₀)) (rows_of ws₀) most_identifiers
  pub follows : (w : Walk) → Shows base ws₀ top hand w → Shows base ws t h (run (mode_says m) (mutation_says m) taken w)
  pub counts : (w : Walk) → Shows base ws₀ top hand w → (run (mode_says m) (mutation_says m) taken w).taken ≡ w.taken + taken
  pub aside : Aside ws₀ ws

pub walk_start : (m : CodeMutation) (base : ℕ) (ws : List ℕ) (top hand : ℕ) → Ready base ws top hand → WalkInv m base ws top hand ws top hand 0
unfolding run
walk_start m base ws top hand r = record { ready = r; fits = r.fits; spent = omega arith; follows = λ w s. s; counts = λ w s. omega arith; aside = aside_none ws }

module _ (m : CodeMutation) (base : ℕ) (ws₀ : List ℕ) (top hand : ℕ) (ws : List ℕ) (t h taken : ℕ) (i : WalkInv m base ws₀ top hand ws t h taken) where
  pub walk_turn : (ws' : List ℕ) (t' h' : ℕ) → QUEUE < t → Stepped m base ws t h ws' t' h' → WalkInv m base ws₀ top hand ws' t' h' (taken + 1)
  walk_turn ws' t' h' more s = record {
    ready = s.ready;
    fits = i.fits;
    spent = omega (arith, i.spent, s.falls);
    follows = λ w q. subst (Shows base ws' t' h') (sym (run_next (mode_says m) (mutation_says m) taken w)) (s.follows (run (mode_says m) (mutation_says m) taken w) (i.follows w q));
    counts = λ w q. ap (λ (v : Walk). v.taken) (run_next (mode_says m) (mutation_says m) taken w)
        ∙ step-taken (mode_says m) (mutation_says m) (run (mode_says m) (mutation_says m) taken w) (item_of (last ws t)) (queue_of (slice QUEUE (t - 1) ws))
        (sym (i.follows w q).queue ∙ queue_head ws t more (omega (arith, i.ready.fits, i.ready.size)))
        ∙ ap suc (i.counts w q) ∙ omega arith;
    aside = aside_then i.aside s.aside;
  }

  pub walk_end : t ≤ QUEUE → Walked m base ws₀ top hand ws taken h
  walk_end q =
      let e : t ≡ QUEUE = omega (arith, i.ready.low) in
      record {
        follows = λ w s. subst (λ (u : ℕ). Shows base ws u h (run (mode_says m) (mutation_says m) taken w)) e (i.follows w s);
        counts = i.counts;
        few = omega (arith, i.spent, i.ready.low);
        ready = subst (λ (u : ℕ). Ready base ws u h) e i.ready;
        aside = i.aside;
      }
