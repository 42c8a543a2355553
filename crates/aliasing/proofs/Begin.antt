-- The beginning of a walk: one entry in the queue, and no mark of this walk.
use Prim.Native.Nat.{ℕ, ◌+◌, ◌≤◌, ◌<◌}
use native.Mathlib.Omega.{arith}
use mathlib.Core.List.{List, [], ◌∷◌}
use mathlib.Core.Path.{◌≡◌, refl, sym, ap, subst, ◌∙◌}
use lib.ListN.{length, get_or, set, replicate, length-replicate, length-set}
use lib.Seq.{slice, get_or-set_same, get_or-set_other}
use Rattle.model.specs.Limits.{most_identifiers}
use Rattle.workspace.specs.Layout.{LEAST, SEEN, BASE, VALUE, QUEUE, HANDED, MUTATIONS}
use Rattle.workspace.specs.Rows.{rows_of, Good, Indexed, Kept}
use Rattle.workspace.specs.Sort.{clear_w}
use Rattle.workspace.proofs.Parts.{slice_sets, drop_more, kept_none, kept_set, kept_then}
use Rattle.workspace.proofs.Clearing.{kept_clear, clear_at}
use Rattle.workspace.proofs.Graph.{graph_length}
use Rattle.aliasing.specs.State.{nodes_of, seen_of, NoneAbove, records_of, state_of, Handing}
use Rattle.aliasing.specs.Potential.{phi}
use Rattle.aliasing.specs.Walks.{most_base, Aside, Unmarked, BaseTaken}
use Rattle.aliasing.proofs.Parts.{slice_above, nodes_below, seen_below, seen_at, rows_above, rows_below}
use Rattle.aliasing.proofs.Levels.{above_as}
use Rattle.aliasing.proofs.Hands.{bare_top, records_length}
use Rattle.aliasing.proofs.Potential.{phi_bound}
use Rattle.aliasing.proofs.Entries.{graph_is, state_same}
use Rattle.aliasing.proofs.Walks.{aside_then, indexed-after}

pub levels_long : (ws : List ℕ) (hand : ℕ) → replicate {A = ℕ} most_identifiers 0 ≡ replicate (length (state_of ws hand).graph) 0
levels_long ws hand = ap (λ (n : ℕ). replicate {A = ℕ} n 0) (sym (ap length (graph_is ws hand) ∙ graph_length (rows_of ws)))

-- ---- l is ws but for words from the marks up to the graph
pub record Remarked (ws l : List ℕ) : Type 0 where
  pub indexed : Indexed l
  pub nodes : nodes_of l ≡ nodes_of ws
  pub state : (hand : ℕ) → HANDED ≤ hand → state_of l hand ≡ state_of ws hand
  pub aside : Aside ws l

pub remarked : (ws l : List ℕ) → Indexed ws → Kept SEEN VALUE ws l → Remarked ws l
remarked ws l indexed k = record {
  indexed = indexed-after indexed rows_is k.same;
  nodes = nodes_below k (omega arith);
  state = λ hand q. state_same ws l hand hand rows_is (nodes_below k (omega arith)) (slice_above k HANDED hand (omega arith) q);
  aside = record { graph = rows_is; behind = drop_more VALUE MUTATIONS l ws (omega arith) k.high; same = k.same };
}
  where
    rows_is : rows_of l ≡ rows_of ws
    rows_is = rows_above k (omega arith)

marks_cleared : (ws l : List ℕ) → l ≡ clear_w ws SEEN most_identifiers → Kept SEEN VALUE ws l
marks_cleared ws l is = subst (Kept SEEN VALUE ws) (sym is) (kept_then SEEN VALUE (kept_none SEEN VALUE ws) (kept_clear ws SEEN most_identifiers) (omega arith) (omega arith) (omega arith) (omega arith))

-- ---- the marks cleared
pub unmarked : (ws : List ℕ) → LEAST ≤ length ws → (l : List ℕ) → l ≡ clear_w ws SEEN most_identifiers → Unmarked ws (set l BASE 0)
unmarked ws size l is = record { base = get_or-set_same l BASE 0 0 (omega (arith, cleared.same, size)); marks = record { marks = none }; kept = kept_set cleared BASE 0 (omega arith) (omega arith) }
  where
    cleared : Kept SEEN VALUE ws l
    cleared = marks_cleared ws l is

    none : (x : ℕ) → x < most_identifiers → get_or (seen_of (set l BASE 0)) x 0 ≤ 0
    none x h =
        omega (
          arith,
          seen_at (set l BASE 0) x h,
          get_or-set_other l BASE (SEEN + x) 0 0 (omega (arith, h)),
          ap (λ (v : List ℕ). get_or v (SEEN + x) 0) is,
          clear_at ws SEEN most_identifiers x (omega (arith, size)) h,
        )

-- there is room for all functions then
pub unmarked_handing : (ws l : List ℕ) → Unmarked ws l → Handing l HANDED
unmarked_handing ws l u = record { low = omega arith; marks = above_as refl (omega arith) u.marks; room = omega (arith, bare_top (records_of (nodes_of l)), records_length (nodes_of l)) }

-- ---- l is ws with its marks cleared, or as it was where the base was low
pub record Lowered (ws l : List ℕ) : Type 0 where
  pub few : get_or l BASE 0 ≤ most_base
  pub marks : NoneAbove (get_or l BASE 0) l
  pub kept : Kept SEEN VALUE ws l

pub lowered_cleared : (ws l m : List ℕ) → Unmarked ws m → l ≡ m → Lowered ws l
lowered_cleared ws l m u e = subst (Lowered ws) (sym e) (record { few = omega (arith, u.base); marks = above_as refl (omega arith) u.marks; kept = u.kept })

pub lowered_not : (ws l : List ℕ) → NoneAbove (get_or ws BASE 0) ws → get_or ws BASE 0 ≤ most_base → l ≡ ws → Lowered ws l
lowered_not ws l m few e = subst (Lowered ws) (sym e) (record { few = few; marks = m; kept = kept_none SEEN VALUE ws })

pub base_taken : (ws l : List ℕ) → Indexed ws → Lowered ws l → BaseTaken ws (set l BASE (get_or l BASE 0 + 2)) (get_or l BASE 0)
base_taken ws l indexed low = record {
  few = low.few;
  next = get_or-set_same l BASE (get_or l BASE 0 + 2) 0 (omega (arith, low.kept.same, indexed.size));
  marks = above_as (seen_below there (omega arith)) (omega arith) low.marks;
  kept = kept_set low.kept BASE (get_or l BASE 0 + 2) (omega arith) (omega arith);
}
  where
    there : Kept BASE (BASE + 1) l (set l BASE (get_or l BASE 0 + 2))
    there = kept_set (kept_none BASE (BASE + 1) l) BASE (get_or l BASE 0 + 2) (omega arith) (omega arith)

-- ---- l is ws with the entry e in the queue
pub record Entered (ws : List ℕ) (e : ℕ) (l : List ℕ) : Type 0 where
  pub size : LEAST ≤ length l
  pub kept : Kept QUEUE (QUEUE + 1) ws l
  pub entry : slice QUEUE (QUEUE + 1) l ≡ e ∷ []
  pub good : Good (rows_of l)
  pub state : (hand : ℕ) → HANDED ≤ hand → state_of l hand ≡ state_of ws hand
  pub aside : Aside ws l

pub entered : (ws : List ℕ) → Indexed ws → (e : ℕ) → Entered ws e (set ws QUEUE e)
entered ws indexed e = record {
  size = omega (arith, length-set ws QUEUE e, indexed.size);
  kept = there;
  entry = slice_sets (e ∷ []) ws QUEUE (QUEUE + 1) refl (omega (arith, indexed.size));
  good = subst Good (sym rows_is) indexed.good;
  state = λ hand h. state_same ws (set ws QUEUE e) hand hand rows_is (nodes_below there (omega arith)) (slice_above there HANDED hand (omega arith) h);
  aside = record { graph = rows_is; behind = drop_more (QUEUE + 1) MUTATIONS (set ws QUEUE e) ws (omega arith) there.high; same = length-set ws QUEUE e };
}
  where
    there : Kept QUEUE (QUEUE + 1) ws (set ws QUEUE e)
    there = kept_set (kept_none QUEUE (QUEUE + 1) ws) QUEUE e (omega arith) (omega arith)

    rows_is : rows_of (set ws QUEUE e) ≡ rows_of ws
    rows_is = rows_below there (omega arith)

clear_seen : (ws : List ℕ) (n : ℕ) → SEEN + n ≡ BASE → LEAST ≤ length ws → seen_of (clear_w ws SEEN n) ≡ replicate n 0
unfolding clear_w seen_of
clear_seen ws n is size = slice_sets (replicate n 0) ws SEEN BASE (ap (λ (k : ℕ). SEEN + k) (length-replicate n 0) ∙ is) (omega arith)

-- ---- l is ws with the marks cleared and the entry e in the queue
pub record Begun (ws : List ℕ) (e : ℕ) (l : List ℕ) : Type 0 where
  pub size : LEAST ≤ length l
  pub nodes : nodes_of l ≡ nodes_of ws
  pub levels : (hand : ℕ) → seen_of l ≡ replicate (length (state_of ws hand).graph) 0
  pub entry : slice QUEUE (QUEUE + 1) l ≡ e ∷ []
  pub good : Good (rows_of l)
  pub fits : QUEUE + 1 + phi (seen_of l) (rows_of l) most_identifiers ≤ HANDED
  pub state : (hand : ℕ) → HANDED ≤ hand → state_of l hand ≡ state_of ws hand
  pub aside : Aside ws l

pub begun : (ws : List ℕ) → Indexed ws → (l : List ℕ) → l ≡ clear_w ws SEEN most_identifiers → (e : ℕ) → Begun ws e (set l QUEUE e)
begun ws indexed l is e =
    let u : Remarked ws l = remarked ws l indexed (marks_cleared ws l is) in
    let n : Entered l e (set l QUEUE e) = entered l u.indexed e in
    record {
      size = n.size;
      nodes = nodes_below n.kept (omega arith) ∙ u.nodes;
      levels = λ hand. seen_below n.kept (omega arith) ∙ ap seen_of is ∙ clear_seen ws most_identifiers refl indexed.size ∙ levels_long ws hand;
      entry = n.entry;
      good = n.good;
      fits = omega (arith, phi_bound (seen_of (set l QUEUE e)) (rows_of (set l QUEUE e)) n.good);
      state = λ hand h. n.state hand h ∙ u.state hand h;
      aside = aside_then u.aside n.aside;
    }
