-- What accepting a node writes is what document 01 has it keep.
use Prim.Native.Nat.{ℕ, zero, suc, ◌+◌, ◌-◌, ◌/◌, ◌%◌, ◌≤◌, ◌<◌, max}
use native.Mathlib.Omega.{arith}
use native.Mathlib.Decide.{ℕ_discrete}
use mathlib.Core.Bool.{Bool, true, false}
use mathlib.Core.List.{List}
use mathlib.Core.Option.{some}
use mathlib.Core.Path.{◌≡◌, refl, sym, ap, ◌∙◌}
use lib.ListN.{length, get_or, set, length-set}
use lib.Seq.{set-get_or, get_or-set_same, get_or-set_other}
use lib.Dec.{ltb, eqb}
use borrow.Author.Tests.{ltb-true, ltb-false, lt-ltb, le-ltb}
use Rattle.model.specs.Limits.{most_identifiers}
use Rattle.model.specs.Lists.{pick}
use Rattle.model.specs.Mutation.{level, reason_of}
use Rattle.model.specs.State.{Info, no_record, moves, first_reason, highest, touch, raised}
use Rattle.workspace.specs.Layout.{RECORD, LSPAN, TSPAN, END, SEEN}
use Rattle.workspace.specs.Pending.{kind_of}
use Rattle.workspace.specs.Graph.{tab}
use Rattle.workspace.proofs.Tables.{tab_at, tab-set, tab-same}
use Rattle.std.specs.Prelude.{Option}
use Rattle.hir.specs.declared.MutationReason.{MutationReason}
use Rattle.aliasing.proofs.Bits.{reason_below, reason_is}
use Rattle.hir.specs.Mutations.{reason_bit, reason_says}
use Rattle.aliasing.specs.declared.mutation.Mutation.{Mutation as CodeMutation}
use Rattle.aliasing.specs.Says.{mode_of, mode_says, mutation_says}
use Rattle.aliasing.specs.State.{info_of, record_in, end_at, record_at, records_of, ends_of}
use Rattle.aliasing.specs.Accepts.{raise_w, record_word, kept_word, span_w, write_w, record_w, accept_w}
use Rattle.aliasing.proofs.Packed.{word_record}
use Rattle.aliasing.proofs.Writes.{raise_other, raise_same, span_other, span_same, span_below, local_record}

-- ---- field by field
reasons_are : (a v : ℕ) → reason_of (max a v) ≡ first_reason (reason_of a) (reason_of v)
reasons_are zero v = let e : max 0 v ≡ v = omega arith in ap reason_of e
reasons_are (suc a) v = let e : max (suc a) v ≡ suc (max a (v - 1)) = omega arith in ap reason_of e

first_is : (a : ℕ) (o : Option MutationReason) → reason_of (max a (reason_bit o)) ≡ first_reason (reason_of a) (reason_says o)
first_is a o = reasons_are a (reason_bit o) ∙ ap (first_reason (reason_of a)) (reason_is o)

pub level_is : (k : ℕ) → k < 2 → level (kind_of k) ≡ k + 1
level_is zero h = refl
level_is (suc zero) h = refl
level_is (suc (suc k)) h = absurd (omega arith)

test_is : (a k : ℕ) → k < 2 → ltb (suc a) (k + 1) ≡ ltb (level (kind_of a)) (level (kind_of k))
test_is zero zero h = refl
test_is zero (suc zero) h = refl
test_is (suc a) zero h = le-ltb (suc (suc a)) 1 (omega arith)
test_is (suc a) (suc zero) h = le-ltb (suc (suc a)) 2 (omega arith)
test_is a (suc (suc k)) h = absurd (omega arith)

some_pick : (b : Bool) (a k s sp : ℕ) → info_of (pick b (k + 1) (suc a)) (pick b s sp) ≡ some (pick b (record { kind = kind_of k; span = s }) (record { kind = kind_of a; span = sp }))
some_pick true a k s sp = let e : k + 1 ≡ suc k = omega arith in rw e
some_pick false a k s sp = refl

picked_is : (a sp k s : ℕ) → k < 2 → info_of (pick (ltb a (k + 1)) (k + 1) a) (pick (ltb a (k + 1)) s sp) ≡ highest (info_of a sp) (record { kind = kind_of k; span = s })
picked_is zero sp k s h = let e : k + 1 ≡ suc k = omega arith in rw (lt-ltb 0 (k + 1) (omega arith), e)
picked_is (suc a) sp k s h =
    some_pick (ltb (suc a) (k + 1)) a k s sp
    ∙ ap (λ (b : Bool). some (pick {A = Info} b (record { kind = kind_of k; span = s }) (record { kind = kind_of a; span = sp }))) (test_is a k h)

max_pick : (a b : ℕ) → max a b ≡ pick (ltb a b) b a
max_pick a b = go (ltb a b) refl
  where
    go : (t : Bool) → ltb a b ≡ t → max a b ≡ pick t b a
    go true e = omega (arith, ltb-true a b e)
    go false e = omega (arith, ltb-false a b e)

info_is : (a sp k s : ℕ) → k < 2 → info_of (max a (k + 1)) (pick (ltb a (k + 1)) s sp) ≡ highest (info_of a sp) (record { kind = kind_of k; span = s })
info_is a sp k s h = ap (λ (n : ℕ). info_of n (pick (ltb a (k + 1)) s sp)) (max_pick a (k + 1)) ∙ picked_is a sp k s h

-- ---- all records
-- the write of an end is above them
records_end : (l : List ℕ) (x v : ℕ) → records_of (raise_w l (END + x) v) ≡ records_of l
unfolding records_of record_at
records_end l x v =
    tab-same most_identifiers (record_at (raise_w l (END + x) v)) (record_at l)
    (λ y h. λ j. record_in (same (RECORD + y) (omega arith) j) (same (TSPAN + y) (omega arith) j) (same (LSPAN + y) (omega arith) j))
  where
    same : (i : ℕ) → i < END → get_or (raise_w l (END + x) v) i 0 ≡ get_or l i 0
    same i h = raise_other l (END + x) v i (λ p. omega (arith, p))

module _ (ns : List ℕ) (size : length ns ≡ SEEN) (x k : ℕ) (hx : x < most_identifiers) (hk : k < 2) (m : CodeMutation) where
  abbrev w : ℕ
  w = get_or ns (RECORD + x) 0

  abbrev info : Info
  info = record { kind = kind_of k; span = m.span }

  -- the word of x, its record chosen by b
  abbrev word : Bool → ℕ
  word b = record_word (pick b (w % 4) (max (w % 4) (k + 1))) (pick b (max (w / 4 % 4) (k + 1)) (w / 4 % 4)) (max (w / 16 % 2) (reason_bit m.reason)) (max (w / 32) m.index)

  abbrev span_at : Bool → ℕ
  span_at b = pick b (TSPAN + x) (LSPAN + x)

  abbrev kind_at : Bool → ℕ
  kind_at b = pick b (w / 4 % 4) (w % 4)

  abbrev worded : Bool → List ℕ
  worded b = set ns (RECORD + x) (word b)

  abbrev after : Bool → List ℕ
  after b = span_w (worded b) (span_at b) (kind_at b) (k + 1) m.span

  after-other : (b : Bool) (j : ℕ) → (j ≡ 0 + x → ⊥) → (j ≡ span_at b → ⊥) → get_or (after b) j 0 ≡ get_or ns j 0
  after-other b j p q = span_other (worded b) (span_at b) (kind_at b) (k + 1) m.span j q ∙ get_or-set_other ns (RECORD + x) j (word b) 0 p

  after-word : (b : Bool) → (RECORD + x ≡ span_at b → ⊥) → get_or (after b) (RECORD + x) 0 ≡ word b
  after-word b p =
      span_other (worded b) (span_at b) (kind_at b) (k + 1) m.span (RECORD + x) p
      ∙ get_or-set_same ns (RECORD + x) (word b) 0 (omega (arith, size, hx))

  after_span : (b : Bool) → (span_at b ≡ 0 + x → ⊥) → get_or (after b) (span_at b) 0 ≡ pick (ltb (kind_at b) (k + 1)) m.span (get_or ns (span_at b) 0)
  after_span b p =
      span_same (worded b) (span_at b) (kind_at b) (k + 1) m.span (omega (arith, length-set ns (RECORD + x) (word b), size, span_below b x hx))
      ∙ ap (pick (ltb (kind_at b) (k + 1)) m.span) (get_or-set_other ns (RECORD + x) (span_at b) (word b) 0 p)

  -- the record of x
  written : (b : Bool) → record_at (after b) x ≡ touch b (mutation_says m) info (record_at ns x)
  unfolding record_at mutation_says
  written true =
      let l : ℕ = get_or ns (LSPAN + x) 0 in
      let t : ℕ = get_or ns (TSPAN + x) 0 in
      let t' : ℕ = pick (ltb (w / 4 % 4) (k + 1)) m.span t in
      (λ j. record_in (after-word true (λ p. omega (arith, p)) j) (after_span true (λ p. omega (arith, p)) j)
      (after-other true (LSPAN + x) (λ p. omega (arith, p)) (λ p. omega (arith, p)) j))
      ∙ word_record (w % 4) (max (w / 4 % 4) (k + 1)) (max (w / 16 % 2) (reason_bit m.reason)) (max (w / 32) m.index) (omega arith) (omega (arith, hk)) (omega (arith, reason_below m.reason)) t' l
      ∙ (λ j. record {
        reason = first_is (w / 16 % 2) m.reason j;
        last = max (w / 32) m.index;
        transitive = info_is (w / 4 % 4) t k m.span hk j;
        local = info_of (w % 4) l;
      })
  written false =
      let l : ℕ = get_or ns (LSPAN + x) 0 in
      let t : ℕ = get_or ns (TSPAN + x) 0 in
      let l' : ℕ = pick (ltb (w % 4) (k + 1)) m.span l in
      (λ j. record_in (after-word false (λ p. omega (arith, p)) j)
      (after-other false (TSPAN + x) (λ p. omega (arith, p)) (λ p. omega (arith, p)) j) (after_span false (λ p. omega (arith, p)) j))
      ∙ word_record (max (w % 4) (k + 1)) (w / 4 % 4) (max (w / 16 % 2) (reason_bit m.reason)) (max (w / 32) m.index) (omega (arith, hk)) (omega arith) (omega (arith, reason_below m.reason)) t l'
      ∙ (λ j. record {
        reason = first_is (w / 16 % 2) m.reason j;
        last = max (w / 32) m.index;
        transitive = info_of (w / 4 % 4) t;
        local = info_is (w % 4) l k m.span hk j;
      })

  -- another identifier's
  written_other : (b : Bool) (y : ℕ) → y < most_identifiers → (y ≡ x → ⊥) → record_at (after b) y ≡ record_at ns y
  unfolding record_at
  written_other b y hy ne = λ j. record_in (kept b RECORD (omega arith) (omega arith) j) (kept b TSPAN (omega arith) (omega arith) j) (kept b LSPAN (omega arith) (omega arith) j)
    where
      kept : (b : Bool) (f : ℕ) → f < END → f % most_identifiers ≡ 0 → get_or (after b) (f + y) 0 ≡ get_or ns (f + y) 0
      kept true f hf e = after-other true (f + y) (λ p. ne (omega (arith, p))) (λ p. ne (omega (arith, p)))
      kept false f hf e = after-other false (f + y) (λ p. ne (omega (arith, p))) (λ p. ne (omega (arith, p)))

  record_records : (t : ℕ) → records_of (record_w ns x t (k + 1) m) ≡ set (records_of ns) x (touch (eqb t 1) (mutation_says m) info (get_or (records_of ns) x no_record))
  unfolding records_of record_w write_w kept_word
  record_records t =
      tab-set most_identifiers x (record_at ns) (record_at (after (eqb t 1))) (touch (eqb t 1) (mutation_says m) info (get_or (tab most_identifiers (record_at ns)) x no_record))
      (written (eqb t 1) ∙ ap (touch (eqb t 1) (mutation_says m) info) (sym (tab_at most_identifiers (record_at ns) x no_record hx)))
      (written_other (eqb t 1))

  pub accept_records : (t : ℕ) → records_of (accept_w ns x t (k + 1) m) ≡ set (records_of ns) x (touch (eqb t 1) (mutation_says m) info (get_or (records_of ns) x no_record))
  unfolding accept_w
  accept_records t = records_end (record_w ns x t (k + 1) m) x m.end.0 ∙ record_records t

-- ---- all ends
-- an unset end moves nothing, any other is the order plus one
raised_is : (ends : List ℕ) (x e : ℕ) (errors : Bool) → raise_w ends x e ≡ raised (moves (mode_of e errors)) x (e - 1) ends
unfolding raise_w
raised_is ends x zero errors = rw (le-ltb (get_or ends x 0) 0 (omega arith))
raised_is ends x (suc o) errors = go (ltb (get_or ends x 0) (suc o)) refl
  where
    go : (b : Bool) → ltb (get_or ends x 0) (suc o) ≡ b → pick b (set ends x (suc o)) ends ≡ set ends x (max (get_or ends x 0) (suc (suc o - 1)))
    go true h =
        let p : suc o ≡ max (get_or ends x 0) (suc (suc o - 1)) = omega (arith, ltb-true (get_or ends x 0) (suc o) h) in
        ap (set ends x) p
    go false h =
        let p : get_or ends x 0 ≡ max (get_or ends x 0) (suc (suc o - 1)) = omega (arith, ltb-false (get_or ends x 0) (suc o) h) in
        sym (set-get_or ends x 0) ∙ ap (set ends x) p

-- a write below the ends
record_below : (ns : List ℕ) (x t k : ℕ) (m : CodeMutation) → x < most_identifiers → (i : ℕ) → END ≤ i → get_or (record_w ns x t k m) i 0 ≡ get_or ns i 0
unfolding record_w write_w
record_below ns x t k m hx i h =
    let w : ℕ = get_or ns (RECORD + x) 0 in
    let v : ℕ = kept_word w t k (reason_bit m.reason) m.index in
    span_other (set ns (RECORD + x) v) (pick (eqb t 1) (TSPAN + x) (LSPAN + x)) (pick (eqb t 1) (w / 4 % 4) (w % 4)) k m.span i (λ p. omega (arith, p, span_below (eqb t 1) x hx, h))
    ∙ get_or-set_other ns (RECORD + x) i v 0 (λ p. omega (arith, p))

module _ (ns : List ℕ) (size : length ns ≡ SEEN) (x t k : ℕ) (m : CodeMutation) (hx : x < most_identifiers) where
  abbrev written_words : List ℕ
  written_words = record_w ns x t k m

  accept-other : (i : ℕ) → END ≤ i → (i ≡ END + x → ⊥) → get_or (accept_w ns x t k m) i 0 ≡ get_or ns i 0
  unfolding accept_w
  accept-other i h ne = raise_other written_words (END + x) m.end.0 i ne ∙ record_below ns x t k m hx i h

  accept-same : get_or (accept_w ns x t k m) (END + x) 0 ≡ pick (ltb (get_or ns (END + x) 0) m.end.0) m.end.0 (get_or ns (END + x) 0)
  unfolding accept_w
  accept-same =
      raise_same written_words (END + x) m.end.0 (omega (arith, (local_record x t k m hx).len ns, size))
      ∙ ap (λ (w : ℕ). pick (ltb w m.end.0) m.end.0 w) (record_below ns x t k m hx (END + x) (omega arith))

  end_other : (y : ℕ) → y < most_identifiers → (y ≡ x → ⊥) → end_at (accept_w ns x t k m) y ≡ end_at ns y
  end_other y hy ne = accept-other (END + y) (omega arith) (λ p. ne (omega (arith, p)))

  ends_raise : tab most_identifiers (end_at (accept_w ns x t k m)) ≡ raise_w (tab most_identifiers (end_at ns)) x m.end.0
  unfolding raise_w
  ends_raise =
      go (ltb (get_or ns (END + x) 0) m.end.0) accept-same
      ∙ ap (λ (w : ℕ). pick (ltb w m.end.0) (set (tab most_identifiers (end_at ns)) x m.end.0) (tab most_identifiers (end_at ns))) (sym (tab_at most_identifiers (end_at ns) x 0 hx))
    where
      go : (b : Bool) → end_at (accept_w ns x t k m) x ≡ pick b m.end.0 (get_or ns (END + x) 0)
          → tab most_identifiers (end_at (accept_w ns x t k m)) ≡ pick b (set (tab most_identifiers (end_at ns)) x m.end.0) (tab most_identifiers (end_at ns))
      go true e = tab-set most_identifiers x (end_at ns) (end_at (accept_w ns x t k m)) m.end.0 e end_other
      go false e =
          tab-same most_identifiers (end_at (accept_w ns x t k m)) (end_at ns)
          (λ y h. either y h (ℕ_discrete y x) e)
        where
          either : (y : ℕ) → y < most_identifiers → Dec (y ≡ x) → end_at (accept_w ns x t k m) x ≡ get_or ns (END + x) 0 → end_at (accept_w ns x t k m) y ≡ end_at ns y
          either y h (no n) q = end_other y h n
          either y h (yes z) q = ap (end_at (accept_w ns x t k m)) z ∙ q ∙ ap (end_at ns) (sym z)

  pub accept-ends : ends_of (accept_w ns x t k m) ≡ raised (moves (mode_says m)) x (mutation_says m).order (ends_of ns)
  unfolding ends_of mode_says mutation_says
  accept-ends = ends_raise ∙ raised_is (tab most_identifiers (end_at ns)) x m.end.0 m.should_record_errors
