-- The last entry of the queue: what it says, the state by its parts, and what the mark of an entry that was not seen changes.
use Prim.Native.Nat.{ℕ, suc, ◌+◌, ◌-◌, ◌/◌, ◌%◌, ◌≤◌, ◌<◌}
use native.Mathlib.Omega.{arith}
use mathlib.Core.List.{List, [], ◌∷◌, ◌++◌}
use mathlib.Core.Option.{none, some}
use mathlib.Core.Path.{◌≡◌, refl, sym, ap, subst, ◌∙◌}
use lib.ListN.{length, get_or, set, take, drop}
use lib.Seq.{slice, length-take-le, take-suc, drop-append-le, get_or-set_other}
use Rattle.model.specs.Limits.{most_identifiers}
use Rattle.model.specs.Graph.{Graph, node_at}
use Rattle.model.specs.Mutation.{level}
use Rattle.model.specs.Walks.{Walk, remember}
use Rattle.workspace.specs.Layout.{SEEN, BASE, VALUE, QUEUE, HANDED}
use Rattle.workspace.specs.Rows.{rows_of, value, row_f, row_b, Kept}
use Rattle.workspace.specs.Graph.{own_node, graph_of_rows}
use Rattle.workspace.proofs.Rows.{value_at_lem}
use Rattle.workspace.proofs.Graph.{row_there, row_missing}
use Rattle.aliasing.specs.Pushes.{deg}
use Rattle.aliasing.specs.Items.{item_of, queue_of}
use Rattle.aliasing.proofs.Items.{queue_push}
use Rattle.aliasing.specs.State.{nodes_of, seen_of, levels, NoneAbove, records_of, ends_of, state_of}
use Rattle.aliasing.specs.Potential.{phi}
use Rattle.aliasing.specs.Walks.{Shows, Ready}
use Rattle.aliasing.proofs.Parts.{base_above, mark_kept, mark_seen, seen_at, seen_length}
use Rattle.aliasing.proofs.Levels.{levels-length, levels_at, levels-set, above_set}
use Rattle.aliasing.proofs.Records.{level_is}
use Rattle.aliasing.proofs.Potential.{phi_falls}

-- ---- the entry
abbrev pub last : List ℕ → ℕ → ℕ
last ws top = get_or ws (top - 1) 0

abbrev pub place_at : List ℕ → ℕ → ℕ
place_at ws top = last ws top % 512

abbrev pub kind_at : List ℕ → ℕ → ℕ
kind_at ws top = last ws top / 2048 % 2

abbrev pub transitive_at : List ℕ → ℕ → ℕ
transitive_at ws top = last ws top / 512 % 2

abbrev pub direction_at : List ℕ → ℕ → ℕ
direction_at ws top = last ws top / 1024 % 2

pub queue_last : (ws : List ℕ) (top : ℕ) → QUEUE < top → top ≤ length ws → slice QUEUE top ws ≡ slice QUEUE (top - 1) ws ++ (last ws top ∷ [])
queue_last ws top more fit =
    let e : top ≡ suc (top - 1) = omega arith in
    ap (λ (t : ℕ). drop QUEUE (take t ws)) e ∙ ap (drop QUEUE) (take-suc ws (top - 1) 0 (omega arith))
    ∙ drop-append-le QUEUE (take (top - 1) ws) (last ws top ∷ []) (omega (arith, length-take-le (top - 1) ws (omega arith)))

pub queue_head : (ws : List ℕ) (top : ℕ) → QUEUE < top → top ≤ length ws → queue_of (slice QUEUE top ws) ≡ item_of (last ws top) ∷ queue_of (slice QUEUE (top - 1) ws)
queue_head ws top more fit = ap queue_of (queue_last ws top more fit) ∙ queue_push (slice QUEUE (top - 1) ws) (last ws top ∷ [])

pub item_level : (e : ℕ) → level (item_of e).kind ≡ e / 2048 % 2 + 1
unfolding item_of
item_level e = level_is (e / 2048 % 2) (omega arith)

-- ---- the state by its parts
pub state_same : (ws ws' : List ℕ) (hand hand' : ℕ) → rows_of ws' ≡ rows_of ws → nodes_of ws' ≡ nodes_of ws → slice HANDED hand' ws' ≡ slice HANDED hand ws → state_of ws' hand' ≡ state_of ws hand
unfolding state_of
state_same ws ws' hand hand' p q r = λ j. record { graph = graph_of_rows (p j); records = records_of (q j); ends = ends_of (q j); handed = r j }

pub graph_is : (ws : List ℕ) (hand : ℕ) → (state_of ws hand).graph ≡ graph_of_rows (rows_of ws)
unfolding state_of
graph_is ws hand = refl

pub graph_missing : (ws : List ℕ) (hand x : ℕ) → x < most_identifiers → value (rows_of ws) x ≡ 0 → node_at (state_of ws hand).graph x ≡ none
graph_missing ws hand x h e = ap (λ (g : Graph). node_at g x) (graph_is ws hand) ∙ row_missing (rows_of ws) x h e

pub graph_there : (ws : List ℕ) (hand x : ℕ) → x < most_identifiers → (value (rows_of ws) x ≡ 0 → ⊥) → node_at (state_of ws hand).graph x ≡ some (own_node (value (rows_of ws) x) (row_f (rows_of ws)) (row_b (rows_of ws)) x)
graph_there ws hand x h e = ap (λ (g : Graph). node_at g x) (graph_is ws hand) ∙ row_there (rows_of ws) x h e

pub shows_to : {base : ℕ} {ws : List ℕ} {top hand : ℕ} (w v : Walk) → Shows base ws top hand v → w ≡ v → Shows base ws top hand w
shows_to {base} {ws} {top} {hand} w v s p = subst (Shows base ws top hand) (sym p) s

-- ---- an entry that was not seen
-- its identifier, marked
abbrev pub marking : ℕ → List ℕ → ℕ → List ℕ
marking base ws top = set ws (SEEN + place_at ws top) (base + kind_at ws top + 1)

-- what the mark changes and leaves, and what a walk then makes of the entry
pub record Unseen (base : ℕ) (ws : List ℕ) (top hand : ℕ) : Type 0 where
  pub mark : Kept SEEN BASE ws (marking base ws top)
  pub marks : levels base (seen_of (marking base ws top)) ≡ set (levels base (seen_of ws)) (place_at ws top) (kind_at ws top + 1)
  pub base_same : get_or (marking base ws top) BASE 0 ≡ get_or ws BASE 0
  pub most : NoneAbove (get_or (marking base ws top) BASE 0) (marking base ws top)
  pub falls : phi (set (levels base (seen_of ws)) (place_at ws top) (kind_at ws top + 1)) (rows_of ws) most_identifiers + deg (rows_of ws) (place_at ws top) ≤ phi (levels base (seen_of ws)) (rows_of ws) most_identifiers
  pub value_kept : get_or (marking base ws top) (VALUE + place_at ws top) 0 ≡ value (rows_of ws) (place_at ws top)
  pub higher : (w : Walk) → Shows base ws top hand w → get_or w.seen (item_of (last ws top)).identifier 0 < level (item_of (last ws top)).kind
  pub remembered : (w : Walk) → Shows base ws top hand w → (ws' : List ℕ) → levels base (seen_of ws') ≡ set (levels base (seen_of ws)) (place_at ws top) (kind_at ws top + 1)
      → levels base (seen_of ws') ≡ remember (item_of (last ws top)) w.seen

module _ (base : ℕ) (ws : List ℕ) (top hand : ℕ) (ready : Ready base ws top hand) where
  x_below : place_at ws top < most_identifiers
  x_below = omega arith

  module _ (w : Walk) (s : Shows base ws top hand w) where
    pub queue_is : QUEUE < top → w.queue ≡ item_of (last ws top) ∷ queue_of (slice QUEUE (top - 1) ws)
    queue_is more = sym s.queue ∙ queue_head ws top more (omega (arith, ready.fits, ready.size))

    pub seen_is : get_or w.seen (item_of (last ws top)).identifier 0 ≡ get_or ws (SEEN + place_at ws top) 0 - base
    unfolding item_of
    seen_is =
        ap (λ (l : List ℕ). get_or l (place_at ws top) 0) (sym s.seen) ∙ levels_at base (seen_of ws) (place_at ws top) x_below
        ∙ ap (λ (v : ℕ). v - base) (seen_at ws (place_at ws top) x_below)

    once_marked : (ws' : List ℕ) → levels base (seen_of ws') ≡ set (levels base (seen_of ws)) (place_at ws top) (kind_at ws top + 1) → levels base (seen_of ws') ≡ remember (item_of (last ws top)) w.seen
    unfolding item_of
    once_marked ws' marks =
        marks ∙ ap (λ (l : List ℕ). set l (place_at ws top) (kind_at ws top + 1)) s.seen ∙ ap (set w.seen (place_at ws top)) (sym (level_is (kind_at ws top) (omega arith)))

  pub when_unseen : get_or ws (SEEN + place_at ws top) 0 ≤ base + kind_at ws top → Unseen base ws top hand
  when_unseen unseen =
      let mark : Kept SEEN BASE ws (marking base ws top) = mark_kept ws (place_at ws top) (base + kind_at ws top + 1) x_below in
      let same : get_or (marking base ws top) BASE 0 ≡ get_or ws BASE 0 = base_above mark (omega arith) in
      record {
        mark = mark;
        marks =
            ap (levels base) (mark_seen ws (place_at ws top) (base + kind_at ws top + 1) x_below)
            ∙ levels-set base (seen_of ws) (place_at ws top) (base + kind_at ws top + 1) (kind_at ws top + 1) (omega (arith, seen_length ws ready.size)) (omega arith);
        base_same = same;
        most = above_set ws (place_at ws top) (base + kind_at ws top + 1) ready.size x_below (omega (arith, same, ready.next)) (omega (arith, same)) ready.handing.marks;
        falls =
            phi_falls (levels base (seen_of ws)) (rows_of ws) (place_at ws top) (kind_at ws top + 1) most_identifiers x_below (omega (arith, levels-length base (seen_of ws)))
            (omega (arith, levels_at base (seen_of ws) (place_at ws top) x_below, seen_at ws (place_at ws top) x_below)) (omega arith);
        value_kept = get_or-set_other ws (SEEN + place_at ws top) (VALUE + place_at ws top) (base + kind_at ws top + 1) 0 (omega arith) ∙ sym (value_at_lem ws ready.size (place_at ws top) x_below);
        higher = λ w s. omega (arith, seen_is w s, item_level (last ws top));
        remembered = once_marked;
      }
