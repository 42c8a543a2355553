-- The first entry of a mutation, and the whole walk as the definition's.
use Prim.Native.Nat.{ℕ, ◌+◌, ◌≤◌, ◌<◌}
use native.Mathlib.Omega.{arith}
use native.Mathlib.Nat.{add_comm}
use mathlib.Core.List.{List, [], ◌∷◌}
use mathlib.Core.Path.{◌≡◌, refl, sym, ap, ◌∙◌}
use lib.ListN.{length, set}
use lib.Seq.{slice, slice_empty}
use Rattle.model.specs.Limits.{most_identifiers}
use Rattle.model.specs.Size.{enough}
use Rattle.model.specs.Mutation.{Mutation}
use Rattle.model.specs.State.{State, Mode}
use Rattle.model.specs.Walks.{Item, Walk, run, start_item, start, walk_of, mutate}
use Rattle.model.proofs.Fuel.{run_add, run_rest}
use Rattle.model.proofs.Potential.{walk_ends, walk_enough}
use Rattle.workspace.specs.Layout.{QUEUE, HANDED}
use Rattle.workspace.specs.Rows.{rows_of, Indexed}
use Rattle.aliasing.specs.Pushes.{entry_w}
use Rattle.aliasing.specs.Items.{item_of, queue_of}
use Rattle.aliasing.proofs.Items.{item_entry}
use Rattle.aliasing.specs.declared.mutation.Mutation.{Mutation as CodeMutation}
use Rattle.hir.specs.Mutations.{kind_bit}
use Rattle.aliasing.specs.Says.{bit, mode_says, mutation_says}
use Rattle.aliasing.proofs.Bits.{bit_below, kind_below, bit_is, kind_is}
use Rattle.aliasing.specs.State.{seen_of, levels, NoneAbove, state_of, Handing}
use Rattle.aliasing.specs.Potential.{phi}
use Rattle.aliasing.specs.Walks.{Shows, Ready, Walked, BaseTaken, Mutated}
use Rattle.aliasing.proofs.Parts.{seen_below, base_below}
use Rattle.aliasing.proofs.Hands.{handing_as, handing_behind}
use Rattle.aliasing.proofs.Walks.{aside_then}
use Rattle.aliasing.proofs.Levels.{levels_none, above_as}
use Rattle.aliasing.proofs.Potential.{phi_bound}
use Rattle.aliasing.proofs.Begin.{levels_long, Remarked, remarked, Entered, entered}

-- ---- however many steps, a walk at rest is the whole walk
pub at_rest : (how : Mode) (m : Mutation) (s : State) (n : ℕ) → (run how m n (start m s)).queue ≡ [] → run how m n (start m s) ≡ mutate how m s
unfolding mutate walk_of
at_rest how m s n h =
    let a : ℕ = enough s.graph in
    sym (run_rest how m a (run how m n (start m s)) h) ∙ sym (run_add how m n a (start m s))
    ∙ ap (λ (f : ℕ). run how m f (start m s)) (add_comm n a)
    ∙ run_add how m a n (start m s) ∙ run_rest how m n (run how m a (start m s)) (walk_ends how a s m (omega arith))

-- ---- the first entry
start_item_lem : (m : CodeMutation) (e : ℕ) → m.start.0 < most_identifiers → e ≡ entry_w m.start.0 (bit m.transitive) 0 (kind_bit m.kind) → item_of e ≡ start_item (mutation_says m)
unfolding mutation_says
start_item_lem m e h is =
    ap item_of is ∙ item_entry m.start.0 (bit m.transitive) 0 (kind_bit m.kind) h (bit_below m.transitive) (omega arith) (kind_below m.kind)
    ∙ rw (bit_is m.transitive, kind_is m.kind)

-- ---- the walk can begin, and is the definition's
pub record Started (m : CodeMutation) (ws : List ℕ) (hand base : ℕ) (first_words : List ℕ) : Type 0 where
  pub ready : Ready base first_words (QUEUE + 1) hand
  pub mutated : (ws' : List ℕ) (count hand' : ℕ) → Walked m base first_words (QUEUE + 1) hand ws' count hand' → Mutated m ws hand ws' count hand'
  pub same : length first_words ≡ length ws

module _ (ws : List ℕ) (hand : ℕ) (m : CodeMutation) (indexed : Indexed ws) (handing : Handing ws hand)
    (l : List ℕ) (base : ℕ) (new : BaseTaken ws l base) (e : ℕ) (e-is : e ≡ entry_w m.start.0 (bit m.transitive) 0 (kind_bit m.kind)) where
  abbrev first_words : List ℕ
  first_words = set l QUEUE e

  u : Remarked ws l
  u = remarked ws l indexed new.kept

  b : Entered l e first_words
  b = entered l u.indexed e

  start-marked : NoneAbove base first_words
  start-marked = above_as (seen_below b.kept (omega arith)) (omega arith) new.marks

  first_fits : QUEUE + 1 + phi (levels base (seen_of first_words)) (rows_of first_words) most_identifiers ≤ HANDED
  first_fits = omega (arith, phi_bound (levels base (seen_of first_words)) (rows_of first_words) b.good)

  queue_is : queue_of (slice QUEUE (QUEUE + 1) first_words) ≡ start_item (mutation_says m) ∷ []
  unfolding queue_of
  queue_is = ap queue_of b.entry ∙ ap (λ (i : Item). i ∷ []) (start_item_lem m e m.starts_below e-is)

  shows_start : Shows base first_words (QUEUE + 1) hand (start (mutation_says m) (state_of ws hand))
  shows_start = record { queue = queue_is; seen = levels_none base first_words start-marked ∙ levels_long ws hand; state = b.state hand handing.low ∙ u.state hand handing.low }

  start_ready : Ready base first_words (QUEUE + 1) hand
  start_ready = record {
    size = b.size;
    low = omega arith;
    good = b.good;
    fits = first_fits;
    few = new.few;
    next = base_below b.kept (omega arith) ∙ new.next;
    handing = handing_behind hand b.kept (omega arith) (handing_as ws l hand u.nodes (above_as refl (omega (arith, new.next)) new.marks) handing);
  }

  walked_is : (ws' : List ℕ) (count hand' : ℕ) → Walked m base first_words (QUEUE + 1) hand ws' count hand' → Mutated m ws hand ws' count hand'
  unfolding queue_of enough walk_of
  walked_is ws' count hand' w =
      let first : Walk = start (mutation_says m) (state_of ws hand) in
      let done = w.follows first shows_start in
      let same : run (mode_says m) (mutation_says m) count first ≡ mutate (mode_says m) (mutation_says m) (state_of ws hand) =
      at_rest (mode_says m) (mutation_says m) (state_of ws hand) count (sym done.queue ∙ ap queue_of (slice_empty QUEUE ws')) in
      let counted : (run (mode_says m) (mutation_says m) count first).taken ≡ 0 + count = w.counts first shows_start in
      record {
        state = done.state ∙ ap (λ (v : Walk). v.state) same;
        counts = omega (arith, counted, ap (λ (v : Walk). v.taken) same);
        few = omega (arith, counted, walk_enough (mode_says m) count (state_of ws hand) (mutation_says m));
        most = omega (arith, w.few, phi_bound (levels base (seen_of first_words)) (rows_of first_words) b.good);
        handing = w.ready.handing;
        aside = aside_then u.aside (aside_then b.aside w.aside);
      }

  pub started : Started m ws hand base first_words
  started = record { ready = start_ready; mutated = walked_is; same = b.aside.same ∙ u.aside.same }
