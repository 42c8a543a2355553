-- The pending mutations, run one after another: what the loop keeps.
use Prim.Native.Nat.{ℕ, zero, suc, ◌+◌, ◌-◌, ◌*◌, ◌/◌, ◌%◌, ◌≤◌, ◌<◌}
use native.Mathlib.Omega.{arith}
use native.Mathlib.Numerals.{add-one}
use mathlib.Core.Bool.{Bool, false}
use mathlib.Core.List.{List, [], ◌∷◌, ◌++◌, map, append_assoc, append-nil}
use mathlib.Core.Path.{◌≡◌, refl, sym, ap, subst, ◌∙◌}
use lib.ListN.{length, get_or, set, drop, length-set}
use lib.Seq.{get_or-set_same, get_or-set_other, drop-set-lt}
use lib.Dec.{eqb}
use Rattle.model.specs.Limits.{most_identifiers, most_order}
use Rattle.model.specs.Lists.{Every}
use Rattle.model.specs.Mutation.{Mutation}
use Rattle.model.specs.State.{State, Mode, real}
use Rattle.model.specs.Walks.{Walk, mutate}
use Rattle.model.specs.Runs.{walks_of, after}
use Rattle.workspace.specs.Layout.{HANDED, MUTATIONS, RENDERS}
use Rattle.workspace.specs.Rows.{rows_of, Good, Indexed, Kept}
use Rattle.workspace.specs.Graph.{tab}
use Rattle.workspace.specs.Pending.{kind_of, mutation_of, mutation_at, mutations_of}
use Rattle.workspace.proofs.Parts.{kept_none, kept_set, drop_more, drop-word}
use Rattle.workspace.proofs.Tables.{tab-same}
use Rattle.workspace.proofs.Pending.{mutations_next, mutations_end, mutations_kept}
use Rattle.std.specs.Prelude.{Option}
use Rattle.hir.specs.declared.MutationKind.{MutationKind}
use Rattle.hir.specs.declared.MutationReason.{MutationReason}
use Rattle.hir.specs.declared.MutationReason.TheVariants.{AssignCurrentProperty}
use Rattle.std.specs.Bool.{then_some}
use Rattle.hir.specs.Mutations.{kind_says}
use Rattle.aliasing.specs.declared.mutation.Mutation.{Mutation as CodeMutation}
use Rattle.aliasing.specs.Says.{mode_of, mode_says, mutation_says}
use Rattle.aliasing.specs.State.{state_of, Handing}
use Rattle.aliasing.specs.Limits.{index_room}
use Rattle.aliasing.specs.Walks.{Unmarked, Mutated}
use Rattle.aliasing.specs.Pending.{Pending, Made, taken_of, Processed}
use Rattle.aliasing.proofs.Bits.{reason_then}
use Rattle.aliasing.proofs.Parts.{slice_below, nodes_below, rows_below}
use Rattle.aliasing.proofs.Hands.{handing_behind}
use Rattle.aliasing.proofs.Entries.{state_same}
use Rattle.aliasing.proofs.Begin.{Remarked, remarked, unmarked_handing}

-- ---- one mutation by its words
pub made : (w order span : ℕ) (errors : Bool) (kind : MutationKind) (reason : Option MutationReason) (starts : w % 512 < most_identifiers) (fits : w / 4096 < index_room) (quiet : order + 1 ≡ 0 → errors ≡ false) → kind_says kind ≡ kind_of (w / 1024 % 2) → reason ≡ then_some (eqb (w / 2048 % 2) 1) AssignCurrentProperty
    → Made w order span errors (record {
      index = w / 4096;
      start = record { 0 = w % 512 };
      end = record { 0 = order + 1 };
      transitive = eqb (w / 512 % 2) 1;
      kind = kind;
      span = span;
      reason = reason;
      should_record_errors = errors;
      starts_below = starts;
      index_fits = fits;
      quiet = quiet;
    })
unfolding mutation_says mode_says mutation_of
made w order span errors kind reason starts fits quiet k r =
    let e : order + 1 ≡ suc order = omega arith in
    let p : order + 1 - 1 ≡ order = omega arith in
    record {
      is = rw (p, k, r, reason_then (w / 2048 % 2) (omega arith));
      how = ap (λ (n : ℕ). mode_of n errors) e;
    }

-- ---- each order
every_drop : (P : Mutation → Type 0) (l : List Mutation) (i : ℕ) → Every P l → Every P (drop i l)
every_drop P l zero h = h
every_drop P [] (suc i) h = h
every_drop P (m ∷ l) (suc i) h = every_drop P l i h.1

order_at : (ws : List ℕ) (i : ℕ) → (mutation_at ws i).order ≡ get_or ws (MUTATIONS + 3 * i + 1) 0
unfolding mutation_at mutation_of
order_at ws i = refl

order_most : (ws : List ℕ) (count : ℕ) → Pending ws count → (i : ℕ) → i < count → get_or ws (MUTATIONS + 3 * i + 1) 0 ≤ most_order
order_most ws count p i h =
    let all : Every (λ (m : Mutation). m.order ≤ most_order) (mutation_at ws i ∷ drop (i + 1) (mutations_of ws count))
    = subst (Every (λ (m : Mutation). m.order ≤ most_order)) (mutations_next ws count i h) (every_drop (λ (m : Mutation). m.order ≤ most_order) (mutations_of ws count) i p.orders) in
    omega (arith, all.0, order_at ws i)

-- ---- the lists, one mutation further
after_next : (how : Mode) (m : Mutation) (ms : List Mutation) (s : State) → after how (m ∷ ms) s ≡ after how ms (mutate how m s).state
unfolding after
after_next how m ms s = refl

after_end : (how : Mode) (s : State) → after how [] s ≡ s
unfolding after
after_end how s = refl

abbrev takens : List Walk → List ℕ
takens ws = map (λ (w : Walk). w.taken) ws

walks_next : (how : Mode) (m : Mutation) (ms : List Mutation) (s : State) → takens (walks_of how (m ∷ ms) s) ≡ (mutate how m s).taken ∷ takens (walks_of how ms (mutate how m s).state)
unfolding walks_of
walks_next how m ms s = refl

walks_end : (how : Mode) (s : State) → takens (walks_of how [] s) ≡ []
unfolding walks_of
walks_end how s = refl

-- ---- a word of the mutations written
module _ (ws : List ℕ) (i v : ℕ) (low : MUTATIONS ≤ i) where
  kept_word_lem : Kept MUTATIONS (i + 1) ws (set ws i v)
  kept_word_lem = kept_set (kept_none MUTATIONS (i + 1) ws) i v low (omega arith)

  state_word : (hand : ℕ) → hand ≤ MUTATIONS → state_of (set ws i v) hand ≡ state_of ws hand
  state_word hand h = state_same ws (set ws i v) hand hand (rows_below kept_word_lem (omega arith)) (nodes_below kept_word_lem (omega arith)) (slice_below kept_word_lem HANDED hand h)

taken_next : (ws ws' : List ℕ) (i c : ℕ) → ((j : ℕ) → j < i → get_or ws' (MUTATIONS + 3 * j + 2) 0 ≡ get_or ws (MUTATIONS + 3 * j + 2) 0) → get_or ws' (MUTATIONS + 3 * i + 2) 0 ≡ c
    → taken_of ws' (i + 1) ≡ taken_of ws i ++ (c ∷ [])
unfolding taken_of tab
taken_next ws ws' i c same is =
    ap (λ (n : ℕ). tab n (λ (j : ℕ). get_or ws' (MUTATIONS + 3 * j + 2) 0)) (add-one i)
    ∙ ap (λ (l : List ℕ). l ++ (get_or ws' (MUTATIONS + 3 * i + 2) 0 ∷ [])) (tab-same i (λ (j : ℕ). get_or ws' (MUTATIONS + 3 * j + 2) 0) (λ (j : ℕ). get_or ws (MUTATIONS + 3 * j + 2) 0) same)
    ∙ ap (λ (n : ℕ). tab i (λ (j : ℕ). get_or ws (MUTATIONS + 3 * j + 2) 0) ++ (n ∷ [])) is

taken_none : (ws : List ℕ) → taken_of ws 0 ≡ []
unfolding taken_of tab
taken_none ws = refl

-- ---- the loop
pub record Processing (errors : Bool) (ws₀ : List ℕ) (count : ℕ) (ws : List ℕ) (i hand : ℕ) : Type 0 where
  pub pending : Pending ws₀ count
  pub mid : i ≤ count
  pub indexed : Indexed ws
  pub handing : Handing ws hand
  pub rest : drop (MUTATIONS + 3 * i) ws ≡ drop (MUTATIONS + 3 * i) ws₀
  pub state : after (real errors) (drop i (mutations_of ws₀ count)) (state_of ws hand) ≡ after (real errors) (mutations_of ws₀ count) (state_of ws₀ HANDED)
  pub counts : taken_of ws i ++ takens (walks_of (real errors) (drop i (mutations_of ws₀ count)) (state_of ws hand)) ≡ takens (walks_of (real errors) (mutations_of ws₀ count) (state_of ws₀ HANDED))
  pub graph : rows_of ws ≡ rows_of ws₀
  pub same : length ws ≡ length ws₀

pub process_start : (errors : Bool) (ws : List ℕ) (count : ℕ) → Indexed ws → Pending ws count → Handing ws HANDED → Processing errors ws count ws 0 HANDED
process_start errors ws count indexed pending handing = record {
  pending = pending;
  mid = omega arith;
  indexed = indexed;
  handing = handing;
  rest = refl;
  state = refl;
  counts = ap (λ (l : List ℕ). l ++ takens (walks_of (real errors) (mutations_of ws count) (state_of ws HANDED))) (taken_none ws);
  graph = refl;
  same = refl;
}

module _ (errors : Bool) (ws₀ : List ℕ) (count : ℕ) (ws : List ℕ) (i hand : ℕ) (p : Processing errors ws₀ count ws i hand) (more : i < count) where
  word_is : (j : ℕ) → get_or ws (MUTATIONS + 3 * i + j) 0 ≡ get_or ws₀ (MUTATIONS + 3 * i + j) 0
  word_is j = drop-word (MUTATIONS + 3 * i) (MUTATIONS + 3 * i + j) ws₀ ws (omega arith) p.rest

  pub order_few : get_or ws (MUTATIONS + 3 * i + 1) 0 ≤ most_order
  order_few = omega (arith, word_is 1, order_most ws₀ count p.pending i more)

  mutation_is : mutation_of (get_or ws (MUTATIONS + 3 * i) 0) (get_or ws (MUTATIONS + 3 * i + 1) 0) (get_or ws (MUTATIONS + 3 * i + 2) 0) ≡ mutation_at ws₀ i
  unfolding mutation_at
  mutation_is =
      let z : MUTATIONS + 3 * i ≡ MUTATIONS + 3 * i + 0 = omega arith in
      let a : get_or ws (MUTATIONS + 3 * i) 0 ≡ get_or ws₀ (MUTATIONS + 3 * i) 0 = ap (λ (n : ℕ). get_or ws n 0) z ∙ word_is 0 ∙ ap (λ (n : ℕ). get_or ws₀ n 0) (sym z) in
      rw (a, word_is 1, word_is 2)

  module _ (m : CodeMutation) (is : Made (get_or ws (MUTATIONS + 3 * i) 0) (get_or ws (MUTATIONS + 3 * i + 1) 0) (get_or ws (MUTATIONS + 3 * i + 2) 0) errors m)
      (ws₁ : List ℕ) (c h : ℕ) (w : Mutated m ws hand ws₁ c h) where
    walk_is : mutate (mode_says m) (mutation_says m) (state_of ws hand) ≡ mutate (real errors) (mutation_at ws₀ i) (state_of ws hand)
    walk_is = ap (λ (k : Mode). mutate k (mutation_says m) (state_of ws hand)) is.how ∙ ap (λ (n : Mutation). mutate (real errors) n (state_of ws hand)) (is.is ∙ mutation_is)

    pub long : MUTATIONS + 3 * i + 2 < length ws₁
    long = omega (arith, w.aside.same, p.indexed.size, p.pending.few)

    abbrev next : List ℕ
    next = set ws₁ (MUTATIONS + 3 * i + 2) c

    state_next : state_of next h ≡ (mutate (real errors) (mutation_at ws₀ i) (state_of ws hand)).state
    state_next = state_word ws₁ (MUTATIONS + 3 * i + 2) c (omega arith) h (omega (arith, w.handing.room)) ∙ w.state ∙ ap (λ (v : Walk). v.state) walk_is

    counts_next : taken_of next (i + 1) ≡ taken_of ws i ++ ((mutate (real errors) (mutation_at ws₀ i) (state_of ws hand)).taken ∷ [])
    counts_next =
        taken_next ws next i (mutate (real errors) (mutation_at ws₀ i) (state_of ws hand)).taken
        (λ j q. get_or-set_other ws₁ (MUTATIONS + 3 * i + 2) (MUTATIONS + 3 * j + 2) c 0 (λ e. omega (arith, e)) ∙ drop-word MUTATIONS (MUTATIONS + 3 * j + 2) ws ws₁ (omega arith) w.aside.behind)
        (get_or-set_same ws₁ (MUTATIONS + 3 * i + 2) c 0 long ∙ w.counts ∙ ap (λ (v : Walk). v.taken) walk_is)

    pub process_turn : Processing errors ws₀ count next (i + 1) h
    process_turn = record {
      pending = p.pending;
      mid = more_mid;
      indexed = record {
        size = omega (arith, length-set ws₁ (MUTATIONS + 3 * i + 2) c, w.aside.same, p.indexed.size);
        good = subst Good (sym rows_next) p.indexed.good;
      };
      handing = handing_behind h (kept_word_lem ws₁ (MUTATIONS + 3 * i + 2) c (omega arith)) (omega arith) w.handing;
      rest = drop-set-lt (MUTATIONS + 3 * (i + 1)) ws₁ (MUTATIONS + 3 * i + 2) c (omega arith)
          ∙ drop_more MUTATIONS (MUTATIONS + 3 * (i + 1)) ws₁ ws (omega arith) w.aside.behind ∙ drop_more (MUTATIONS + 3 * i) (MUTATIONS + 3 * (i + 1)) ws ws₀ (omega arith) p.rest;
      state = ap (after (real errors) (drop (i + 1) (mutations_of ws₀ count))) state_next
          ∙ sym (after_next (real errors) (mutation_at ws₀ i) (drop (i + 1) (mutations_of ws₀ count)) (state_of ws hand))
          ∙ ap (λ (l : List Mutation). after (real errors) l (state_of ws hand)) (sym (mutations_next ws₀ count i more)) ∙ p.state;
      counts = ap (λ (l : List ℕ). l ++ takens (walks_of (real errors) (drop (i + 1) (mutations_of ws₀ count)) (state_of next h))) counts_next
          ∙ ap (λ (s : State). (taken_of ws i ++ ((mutate (real errors) (mutation_at ws₀ i) (state_of ws hand)).taken ∷ [])) ++ takens (walks_of (real errors) (drop (i + 1) (mutations_of ws₀ count)) s)) state_next
          ∙ append_assoc (taken_of ws i) ((mutate (real errors) (mutation_at ws₀ i) (state_of ws hand)).taken ∷ []) (takens (walks_of (real errors) (drop (i + 1) (mutations_of ws₀ count)) (mutate (real errors) (mutation_at ws₀ i) (state_of ws hand)).state))
          ∙ ap (λ (l : List ℕ). taken_of ws i ++ l) (sym (walks_next (real errors) (mutation_at ws₀ i) (drop (i + 1) (mutations_of ws₀ count)) (state_of ws hand)))
          ∙ ap (λ (l : List Mutation). taken_of ws i ++ takens (walks_of (real errors) l (state_of ws hand))) (sym (mutations_next ws₀ count i more)) ∙ p.counts;
      graph = rows_next ∙ p.graph;
      same = length-set ws₁ (MUTATIONS + 3 * i + 2) c ∙ w.aside.same ∙ p.same;
    }
      where
        more_mid : i + 1 ≤ count
        more_mid = omega arith

        rows_next : rows_of next ≡ rows_of ws
        rows_next = rows_below (kept_word_lem ws₁ (MUTATIONS + 3 * i + 2) c (omega arith)) (omega arith) ∙ w.aside.graph

pub process_end : (errors : Bool) (ws₀ : List ℕ) (count : ℕ) (ws : List ℕ) (i hand : ℕ) → Processing errors ws₀ count ws i hand → count ≤ i → Processed errors ws₀ count ws hand
process_end errors ws₀ count ws i hand p done =
    let e : count ≡ i = omega (arith, p.mid) in
    let nil : drop i (mutations_of ws₀ count) ≡ [] = mutations_end ws₀ count i done in
    record {
      state = sym (after_end (real errors) (state_of ws hand)) ∙ ap (λ (l : List Mutation). after (real errors) l (state_of ws hand)) (sym nil) ∙ p.state;
      counts = ap (taken_of ws) e ∙ sym (append-nil (taken_of ws i)) ∙ ap (λ (l : List ℕ). taken_of ws i ++ l) (sym (walks_end (real errors) (state_of ws hand)))
          ∙ ap (λ (l : List Mutation). taken_of ws i ++ takens (walks_of (real errors) l (state_of ws hand))) (sym nil) ∙ p.counts;
      graph = p.graph;
      behind = drop_more (MUTATIONS + 3 * i) RENDERS ws ws₀ (omega (arith, p.mid, p.pending.few)) p.rest;
      same = p.same;
      handing = p.handing;
    }

-- ---- the same from the words before the marks were cleared
module _ (ws : List ℕ) (indexed : Indexed ws) (l : List ℕ) (clear : Unmarked ws l) (count : ℕ) (pending : Pending ws count) where
  u : Remarked ws l
  u = remarked ws l indexed clear.kept

  mutations_are : mutations_of l count ≡ mutations_of ws count
  mutations_are = mutations_kept ws l count u.aside.behind

  pub cleared_start : (errors : Bool) → Processing errors l count l 0 HANDED
  cleared_start errors =
      process_start errors l count u.indexed
      (record { few = pending.few; orders = subst (Every (λ (m : Mutation). m.order ≤ most_order)) (sym mutations_are) pending.orders })
      (unmarked_handing ws l clear)

  pub cleared_end : (errors : Bool) (ws' : List ℕ) (hand : ℕ) → Processed errors l count ws' hand → Processed errors ws count ws' hand
  cleared_end errors ws' hand p = record {
    state = p.state ∙ ap (λ (ms : List Mutation). after (real errors) ms (state_of l HANDED)) mutations_are ∙ ap (after (real errors) (mutations_of ws count)) start_is;
    counts = p.counts ∙ ap (λ (ms : List Mutation). takens (walks_of (real errors) ms (state_of l HANDED))) mutations_are
        ∙ ap (λ (s : State). takens (walks_of (real errors) (mutations_of ws count) s)) start_is;
    graph = p.graph ∙ u.aside.graph;
    behind = p.behind ∙ drop_more MUTATIONS RENDERS l ws (omega arith) u.aside.behind;
    same = p.same ∙ u.aside.same;
    handing = p.handing;
  }
    where
      start_is : state_of l HANDED ≡ state_of ws HANDED
      start_is = u.state HANDED (omega arith)
