-- What the loop of a render walk keeps, its start, and the whole walk as the definition's.
use Prim.Native.Nat.{ℕ, suc, ◌+◌, ◌-◌, ◌%◌, ◌≤◌, ◌<◌}
use native.Mathlib.Omega.{arith}
use mathlib.Core.Bool.{false}
use mathlib.Core.List.{List, [], ◌∷◌, map}
use mathlib.Core.Path.{◌≡◌, refl, sym, ap, subst, ◌∙◌}
use lib.ListN.{length, set, replicate}
use lib.Seq.{slice, slice_empty}
use Rattle.model.specs.Limits.{most_identifiers}
use Rattle.model.specs.Renders.{RenderWalk, render_run, render_start, render_walk}
use Rattle.model.proofs.RenderBound.{render_bound}
use Rattle.workspace.specs.Layout.{SEEN, QUEUE, HANDED}
use Rattle.workspace.specs.Rows.{rows_of, Indexed}
use Rattle.workspace.specs.Sort.{clear_w}
use Rattle.aliasing.specs.State.{seen_of, state_of}
use Rattle.aliasing.specs.Potential.{phi}
use Rattle.aliasing.proofs.Parts.{seen_length}
use Rattle.aliasing.proofs.Entries.{place_at}
use Rattle.aliasing.proofs.Walks.{aside_none, aside_then}
use Rattle.aliasing.proofs.Begin.{Begun, begun}
use Rattle.renders.specs.Renders.{places_of, taken, Shows, Ready, Unmoved, Stepped, Walked, render_at, Rendered}
use Rattle.renders.proofs.Marks.{mark_none, unseen_top}
use Rattle.renders.proofs.Cases.{step-taken, run_next, at_rest}
use Rattle.renders.proofs.Steps.{queue_head}

pub record WalkInv (index : ℕ) (ws₀ : List ℕ) (top hand : ℕ) (ws : List ℕ) (t h taken : ℕ) : Type 0 where
  pub ready : Ready ws t h
  pub fits : top + phi (seen_of ws₀) (rows_of ws₀) most_identifiers ≤ HANDED
  pub spent : taken + (t + phi (seen_of ws) (rows_of ws) most_identifiers) ≤ top + phi (seen_of ws₀) (rows_of ws₀) most_identifiers
  pub follows : (w : RenderWalk) → Shows ws₀ top hand w → Shows ws t h (render_run index taken w)
  pub counts : (w : RenderWalk) → Shows ws₀ top hand w → (render_run index taken w).taken ≡ w.taken + taken
  pub unmoved : Unmoved ws₀ ws

pub walk_start : (index : ℕ) (ws : List ℕ) (top hand : ℕ) → Ready ws top hand → WalkInv index ws top hand ws top hand 0
unfolding render_run
walk_start index ws top hand r = record {
  ready = r;
  fits = r.fits;
  spent = omega arith;
  follows = λ w s. s;
  counts = λ w s. omega arith;
  unmoved = record { nodes = refl; aside = aside_none ws };
}

module _ (index : ℕ) (ws₀ : List ℕ) (top hand : ℕ) (ws : List ℕ) (t h taken : ℕ) (i : WalkInv index ws₀ top hand ws t h taken) where
  pub walk_turn : (ws' : List ℕ) (t' h' : ℕ) → QUEUE < t → Stepped index ws t h ws' t' h' → WalkInv index ws₀ top hand ws' t' h' (taken + 1)
  walk_turn ws' t' h' more s = record {
    ready = s.ready;
    fits = i.fits;
    spent = omega (arith, i.spent, s.falls);
    follows = λ w q. subst (Shows ws' t' h') (sym (run_next index taken w)) (s.follows (render_run index taken w) (i.follows w q));
    counts = λ w q. ap (λ (v : RenderWalk). v.taken) (run_next index taken w)
        ∙ step-taken index (render_run index taken w) (place_at ws t) (places_of (slice QUEUE (t - 1) ws))
        (sym (i.follows w q).queue ∙ queue_head ws t more (omega (arith, i.ready.fits, i.ready.size)))
        ∙ ap suc (i.counts w q) ∙ omega arith;
    unmoved = record { nodes = s.unmoved.nodes ∙ i.unmoved.nodes; aside = aside_then i.unmoved.aside s.unmoved.aside };
  }

  pub walk_end : t ≤ QUEUE → Walked index ws₀ top hand ws taken h
  walk_end q =
      let e : t ≡ QUEUE = omega (arith, i.ready.low) in
      record {
        follows = λ w s. subst (λ (u : ℕ). Shows ws u h (render_run index taken w)) e (i.follows w s);
        counts = i.counts;
        ready = subst (λ (u : ℕ). Ready ws u h) e i.ready;
        unmoved = i.unmoved;
      }

-- ---- the start
module _ (ws : List ℕ) (index start : ℕ) (indexed : Indexed ws) (below : start < most_identifiers) (l : List ℕ) (is : l ≡ clear_w ws SEEN most_identifiers) where
  abbrev first_words : List ℕ
  first_words = set l QUEUE start

  b : Begun ws start first_words
  b = begun ws indexed l is start

  seen_is : map taken (seen_of first_words) ≡ replicate (length (state_of ws HANDED).graph) false
  seen_is = ap (map taken) (b.levels HANDED) ∙ mark_none (length (state_of ws HANDED).graph)

  queue_is : places_of (slice QUEUE (QUEUE + 1) first_words) ≡ start ∷ []
  unfolding places_of
  queue_is =
      let e : start % 512 ≡ start = omega arith in
      ap places_of b.entry ∙ ap (λ (n : ℕ). n ∷ []) e

  shows_start : Shows first_words (QUEUE + 1) HANDED (render_start (render_at index start) (state_of ws HANDED))
  shows_start = record { queue = queue_is; seen = seen_is; state = b.state HANDED (omega arith) }

  pub start_ready : Ready first_words (QUEUE + 1) HANDED
  start_ready = record {
    size = b.size;
    low = omega arith;
    good = b.good;
    fits = b.fits;
    from = omega arith;
    room = omega (arith, unseen_top (seen_of first_words), seen_length first_words b.size);
  }

  pub walked_is : (ws' : List ℕ) (count hand : ℕ) → Walked index first_words (QUEUE + 1) HANDED ws' count hand → Rendered index start ws ws' count hand
  unfolding places_of
  walked_is ws' count hand w =
      let first : RenderWalk = render_start (render_at index start) (state_of ws HANDED) in
      let done = w.follows first shows_start in
      let same : render_run index count first ≡ render_walk (render_at index start) (state_of ws HANDED) =
      at_rest (render_at index start) (state_of ws HANDED) count (sym done.queue ∙ ap places_of (slice_empty QUEUE ws')) in
      let counted : (render_run index count first).taken ≡ 0 + count = w.counts first shows_start in
      record {
        state = done.state ∙ ap (λ (v : RenderWalk). v.state) same;
        counts = omega (arith, counted, ap (λ (v : RenderWalk). v.taken) same);
        few = omega (arith, counted, ap (λ (v : RenderWalk). v.taken) same, render_bound (render_at index start) (state_of ws HANDED));
        from = w.ready.from;
        room = omega (arith, w.ready.room);
        unmoved = record { nodes = w.unmoved.nodes ∙ b.nodes; aside = aside_then b.aside w.unmoved.aside };
      }
