-- One entry taken: the four ways that a step ends.
use Prim.Native.Nat.{ℕ, ◌+◌, ◌-◌, ◌<◌}
use native.Mathlib.Omega.{arith}
use native.Mathlib.Decide.{dec_lt}
use mathlib.Core.Bool.{Bool, true, false, true≢false, not}
use mathlib.Core.List.{List}
use mathlib.Core.Path.{◌≡◌, refl, sym, subst, ◌∙◌}
use lib.ListN.{get_or}
use lib.Seq.{slice, get_or-set_other}
use lib.Dec.{eqb}
use borrow.Author.Tests.{eqb-true, eqb-false, not-true, not-false}
use Rattle.model.specs.Walks.{skipped, step}
use Rattle.workspace.specs.Layout.{SEEN, VALUE, QUEUE}
use Rattle.workspace.specs.Rows.{rows_of}
use Rattle.workspace.specs.Graph.{MISSING}
use Rattle.aliasing.specs.Pushes.{pushed_w, Room, deg}
use Rattle.writing.specs.Wrote.{Wrote}
use Rattle.aliasing.specs.Items.{item_of, queue_of}
use Rattle.aliasing.specs.declared.mutation.Mutation.{Mutation}
use denote.Enum.Declared.{tag_of}
use Rattle.hir.specs.contracts.MutationKind.{the_type}
use Rattle.hir.specs.Mutations.{kind_bit}
use Rattle.aliasing.specs.declared.pushes.QueueEntry.{QueueEntry}
use Rattle.aliasing.specs.Says.{bit, direction_bit, Unpacked, mode_says, mutation_says}
use Rattle.aliasing.proofs.Bits.{tag_bit}
use Rattle.aliasing.specs.Accepts.{accept_w, hand_w}
use Rattle.aliasing.specs.Walks.{Ready, Stepped}
use Rattle.aliasing.proofs.Enters.{Enters, enters_seen, enters_marked}
use Rattle.aliasing.proofs.Cases.{step_skips}
use Rattle.aliasing.proofs.Entries.{last, place_at, kind_at, transitive_at, direction_at, item_level, shows_to, marking, queue_is, seen_is, when_unseen, Unseen}
use Rattle.aliasing.proofs.Marked.{step_missing, step_room, step_accepted}

-- ---- what an entry leads to, of the place p, the direction d, the bit t for transitive and the kind k
-- its fields are written in ws₂, and the next function is to be handed over at h
pub record Accepting (m : Mutation) (base : ℕ) (ws : List ℕ) (top hand p d t k h : ℕ) (ws₂ : List ℕ) : Type 0 where
  pub room : Room ws₂ (top - 1) (deg (rows_of ws₂) p)
  pub stepped : (ws₃ : List ℕ) (r : ℕ) → Wrote (pushed_w (rows_of ws₂) p d m.index t k) ws₂ (top - 1) ws₃ r → Stepped m base ws top hand ws₃ r h

-- whether it is entered, and the words then
pub record Entering (m : Mutation) (base : ℕ) (ws : List ℕ) (top hand p d t k : ℕ) (ws₁ : List ℕ) (enters : Bool) : Type 0 where
  pub passed : enters ≡ false → Stepped m base ws top hand ws₁ (top - 1) hand
  pub accepted : enters ≡ true
      → (ws_h : List ℕ) (h : ℕ) → Wrote (hand_w ws₁ (get_or ws₁ (VALUE + p) 0) p m.should_record_errors) ws₁ hand ws_h h
      → (ws₂ : List ℕ) → ws₂ ≡ accept_w ws_h p t (k + 1) m → Accepting m base ws top hand p d t k h ws₂

module _ (m : Mutation) (base : ℕ) (ws : List ℕ) (top hand : ℕ) (ready : Ready base ws top hand) (more : QUEUE < top) where
  -- ---- seen at this kind or a higher one: no word is written
  step_seen : base + kind_at ws top < get_or ws (SEEN + place_at ws top) 0 → Stepped m base ws top hand ws (top - 1) hand
  step_seen seen = record {
    follows = λ w s. shows_to (step (mode_says m) (mutation_says m) w.queue w) (skipped (queue_of (slice QUEUE (top - 1) ws)) w) (record { queue = refl; seen = s.seen; state = s.state })
        (step_skips (mode_says m) (mutation_says m) w (item_of (last ws top)) (queue_of (slice QUEUE (top - 1) ws)) (queue_is base ws top hand ready w s more) (omega (arith, seen_is base ws top hand ready w s, item_level (last ws top))));
    ready = record { size = ready.size; low = omega arith; good = ready.good; fits = omega (arith, ready.fits); few = ready.few; next = ready.next; handing = ready.handing };
    falls = omega arith;
    aside = record { graph = refl; behind = refl; same = refl };
  }

  -- the last entry
  abbrev Entered : List ℕ → Bool → Type 0
  Entered ws₁ r = Entering m base ws top hand (place_at ws top) (direction_at ws top) (transitive_at ws top) (kind_at ws top) ws₁ r

  -- ---- not seen
  entering : Unseen base ws top hand → Entered (marking base ws top) (not (eqb (get_or ws (VALUE + place_at ws top) 0) MISSING))
  entering u = record {
    passed = λ e. step_missing m base ws top hand ready more u (value_same ∙ eqb-true (get_or ws (VALUE + place_at ws top) 0) 0 (not-false _ e));
    accepted = λ e ws_h h ph ws₂ is₂.
        let there : get_or (marking base ws top) (VALUE + place_at ws top) 0 ≡ 0 → ⊥ = λ z. eqb-false (get_or ws (VALUE + place_at ws top) 0) 0 (not-true _ e) (sym value_same ∙ z) in
        record { room = step_room m base ws top hand ready more u ws_h h ph ws₂ is₂; stepped = step_accepted m base ws top hand ready more u ws_h h ph ws₂ is₂ there };
  }
    where
      value_same : get_or (marking base ws top) (VALUE + place_at ws top) 0 ≡ get_or ws (VALUE + place_at ws top) 0
      value_same = get_or-set_other ws (SEEN + place_at ws top) (VALUE + place_at ws top) (base + kind_at ws top + 1) 0 (omega arith)

  enters_last : {ws₁ : List ℕ} {r : Bool} → Enters ws (place_at ws top) (base + kind_at ws top) ws₁ r → Entered ws₁ r
  enters_last {ws₁} {r} is = go (dec_lt (base + kind_at ws top) (get_or ws (SEEN + place_at ws top) 0))
    where
      to : {ws' : List ℕ} {r' : Bool} → Enters ws (place_at ws top) (base + kind_at ws top) ws' r' → Entered ws' r'
          → Entered ws₁ r
      to {ws'} {r'} e p = subst (λ (A : Type 0). A) (λ j. Entered ((e.0 ∙ sym is.0) j) ((e.1 ∙ sym is.1) j)) p

      go : Dec (base + kind_at ws top < get_or ws (SEEN + place_at ws top) 0) → Entered ws₁ r
      go (yes k) = to (enters_seen ws (place_at ws top) (base + kind_at ws top) k) (record { passed = λ e. step_seen k; accepted = λ e. absurd (true≢false (sym e)) })
      go (no k) = to (enters_marked ws (place_at ws top) (base + kind_at ws top) (omega (arith, k))) (entering (when_unseen base ws top hand ready (omega (arith, k))))

  -- the same by the entry that its word is
  pub step_enters : {e : QueueEntry} → Unpacked (last ws top) e → {ws₁ : List ℕ} {r : Bool} → Enters ws e.place.0 (base + tag_of the_type e.kind) ws₁ r
      → Entering m base ws top hand e.place.0 (direction_bit e.direction) (bit e.transitive) (kind_bit e.kind) ws₁ r
  step_enters {e} u {ws₁} {r} is =
      subst (λ (A : Type 0). A) (λ j. Entering m base ws top hand (sym u.place j) (sym u.direction j) (sym u.transitive j) (sym u.kind j) ws₁ r)
      (enters_last (subst (λ (A : Type 0). A) (λ j. Enters ws (u.place j) (base + (tag_bit e.kind ∙ u.kind) j) ws₁ r) is))
