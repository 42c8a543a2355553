-- One mutation, render or block more, and the search among the blocks.
use Prim.Native.Nat.{ℕ, zero, suc, ◌+◌, ◌*◌, ◌/◌, ◌%◌, ◌≤◌, ◌<◌}
use native.Mathlib.Omega.{arith}
use native.Mathlib.Numerals.{add-one}
use mathlib.Core.Bool.{Bool, true, false, ◌||◌}
use mathlib.Core.List.{List, [], ◌∷◌, ◌++◌}
use mathlib.Core.Path.{◌≡◌, refl, sym, ap, ◌∙◌}
use lib.ListN.{length, get_or, set, take, drop, length-set}
use lib.Seq.{slice, slice_empty, get_or-set_same, get_or-set_other, take-suc, drop-append-le, length-take-le}
use lib.Dec.{eqb}
use Rattle.model.specs.Limits.{most_identifiers, most_mutations, most_renders}
use Rattle.model.specs.Lists.{pick, among}
use Rattle.model.specs.Mutation.{reason_of}
use Rattle.std.specs.Prelude.{Option, None, Some}
use Rattle.std.specs.Int.{from_bool}
use Rattle.hir.specs.declared.MutationKind.{MutationKind}
use Rattle.hir.specs.declared.MutationKind.TheVariants.{Conditional, Definite}
use Rattle.hir.specs.declared.MutationReason.{MutationReason}
use Rattle.hir.specs.Mutations.{kind_says, kind_bit, reason_says, reason_bit}
use Rattle.workspace.specs.Layout.{LEAST, SEEN, MUTATIONS, RENDERS}
use Rattle.workspace.specs.Rows.{Kept}
use Rattle.workspace.specs.Pending.{kind_of, mutation_of, render_of, mutation_at, render_at}
use Rattle.workspace.proofs.Parts.{kept_none, kept_set, take-word}
use Rattle.workspace.proofs.Pending.{mutations_more, renders_more}
use Rattle.building.specs.Logs.{any_p}
use Rattle.building.specs.Built.{come_of, PushesMutation, PushesRender, PushesBlock}

-- ---- blocks
pub come_kept : (ws ws' : List ℕ) (b n : ℕ) → SEEN + n ≤ b → take b ws' ≡ take b ws → come_of ws' n ≡ come_of ws n
unfolding come_of
come_kept ws ws' b zero h e = refl
come_kept ws ws' b (suc n) h e =
    ap (λ (v : ℕ). v ∷ come_of ws' n) (take-word b (SEEN + n) ws ws' (omega arith) e) ∙ ap (λ (l : List ℕ). get_or ws (SEEN + n) 0 ∷ l) (come_kept ws ws' b n (omega arith) e)

module _ (ws : List ℕ) (n block : ℕ) (size : LEAST ≤ length ws) (few : n < most_renders) where
  block_kept : Kept (SEEN + n) (SEEN + n + 1) ws (set ws (SEEN + n) block)
  block_kept = kept_set (kept_none (SEEN + n) (SEEN + n + 1) ws) (SEEN + n) block (omega arith) (omega arith)

  one_more : come_of (set ws (SEEN + n) block) (n + 1) ≡ block ∷ come_of ws n
  unfolding come_of
  one_more =
      ap (come_of (set ws (SEEN + n) block)) (add-one n) ∙ ap (λ (v : ℕ). v ∷ come_of (set ws (SEEN + n) block) n) (get_or-set_same ws (SEEN + n) block 0 (omega arith))
      ∙ ap (λ (l : List ℕ). block ∷ l) (come_kept ws (set ws (SEEN + n) block) (SEEN + n) n (omega arith) block_kept.low)

  pub block_pushed : PushesBlock block ws n (set ws (SEEN + n) block)
  block_pushed = record { come = one_more; kept = block_kept }

-- ---- the search
any_last : (test : ℕ → Bool) (l : List ℕ) (v : ℕ) → any_p test (l ++ (v ∷ [])) ≡ (test v || any_p test l)
unfolding any_p
any_last test [] v = go (test v)
  where
    go : (b : Bool) → pick b true false ≡ (b || false)
    go true = refl
    go false = refl
any_last test (u ∷ l) v = go (any_last test l v) (test u) (test v)
  where
    go : any_p test (l ++ (v ∷ [])) ≡ (test v || any_p test l) → (b c : Bool) → pick b true (any_p test (l ++ (v ∷ []))) ≡ (test v || pick b true (any_p test l))
    go ih true c = sym (or_true (test v))
      where
        or_true : (b : Bool) → (b || true) ≡ true
        or_true true = refl
        or_true false = refl
    go ih false c = ih

slice_last : (f n : ℕ) (l : List ℕ) → f + n < length l → slice f (f + suc n) l ≡ slice f (f + n) l ++ (get_or l (f + n) 0 ∷ [])
slice_last f n l h =
    let q : f + suc n ≡ suc (f + n) = omega arith in
    ap (λ (j : ℕ). drop f (take j l)) q ∙ ap (drop f) (take-suc l (f + n) 0 h) ∙ drop-append-le f (take (f + n) l) (get_or l (f + n) 0 ∷ []) (omega (arith, length-take-le (f + n) l (omega arith)))

pub come_among : (ws : List ℕ) (block n : ℕ) → SEEN + n ≤ length ws → any_p (eqb block) (slice SEEN (SEEN + n) ws) ≡ among block (come_of ws n)
unfolding come_of any_p
come_among ws block zero h = rw (slice_empty SEEN ws)
come_among ws block (suc n) h =
    ap (any_p (eqb block)) (slice_last SEEN n ws (omega arith)) ∙ any_last (eqb block) (slice SEEN (SEEN + n) ws) (get_or ws (SEEN + n) 0)
    ∙ ap (λ (b : Bool). eqb block (get_or ws (SEEN + n) 0) || b) (come_among ws block n (omega arith))

-- ---- a mutation
flag_small : (t : Bool) → from_bool t < 2
flag_small true = omega arith
flag_small false = omega arith

flag_back : (t : Bool) → eqb (from_bool t) 1 ≡ t
flag_back true = refl
flag_back false = refl

kind_small : (k : MutationKind) → kind_bit k < 2
kind_small Conditional = omega arith
kind_small Definite = omega arith

kind_back : (k : MutationKind) → kind_of (kind_bit k) ≡ kind_says k
kind_back Conditional = refl
kind_back Definite = refl

reason_small : (r : Option MutationReason) → reason_bit r < 2
reason_small None = omega arith
reason_small (Some r) = omega arith

reason_back : (r : Option MutationReason) → reason_of (reason_bit r) ≡ reason_says r
reason_back None = refl
reason_back (Some r) = refl

digits : (x t l r i w : ℕ) → x < most_identifiers → t < 2 → l < 2 → r < 2 → w ≡ x + 512 * t + 1024 * l + 2048 * r + 4096 * i
    → (w % 512 ≡ x) × ((w / 512 % 2 ≡ t) × ((w / 1024 % 2 ≡ l) × ((w / 2048 % 2 ≡ r) × (w / 4096 ≡ i))))
digits x t l r i w a b c d e = (omega arith, (omega arith, (omega arith, (omega arith, omega arith))))

decoded : (x t l r i w order span : ℕ) → x < most_identifiers → t < 2 → l < 2 → r < 2 → w ≡ x + 512 * t + 1024 * l + 2048 * r + 4096 * i
    → mutation_of w order span ≡ record { index = i; order = order; kind = kind_of l; transitive = eqb t 1; identifier = x; span = span; reason = reason_of r }
unfolding mutation_of
decoded x t l r i w order span a b c d e =
    let q : (w % 512 ≡ x) × ((w / 512 % 2 ≡ t) × ((w / 1024 % 2 ≡ l) × ((w / 2048 % 2 ≡ r) × (w / 4096 ≡ i)))) = digits x t l r i w a b c d e in
    rw (q.0, q.1.0, q.1.1.0, q.1.1.1.0, q.1.1.1.1)

module _ (ws : List ℕ) (n : ℕ) (size : LEAST ≤ length ws) (few : n < most_mutations) (w order span : ℕ) where
  abbrev three : List ℕ
  three = set (set (set ws (MUTATIONS + 3 * n) w) (MUTATIONS + 3 * n + 1) order) (MUTATIONS + 3 * n + 2) span

  three_kept : Kept (MUTATIONS + 3 * n) (MUTATIONS + 3 * n + 3) ws three
  three_kept =
      kept_set (kept_set (kept_set (kept_none (MUTATIONS + 3 * n) (MUTATIONS + 3 * n + 3) ws) (MUTATIONS + 3 * n) w (omega arith) (omega arith)) (MUTATIONS + 3 * n + 1) order (omega arith) (omega arith))
      (MUTATIONS + 3 * n + 2) span (omega arith) (omega arith)

  first_word : get_or three (MUTATIONS + 3 * n) 0 ≡ w
  first_word =
      get_or-set_other (set (set ws (MUTATIONS + 3 * n) w) (MUTATIONS + 3 * n + 1) order) (MUTATIONS + 3 * n + 2) (MUTATIONS + 3 * n) span 0 (omega arith)
      ∙ get_or-set_other (set ws (MUTATIONS + 3 * n) w) (MUTATIONS + 3 * n + 1) (MUTATIONS + 3 * n) order 0 (omega arith)
      ∙ get_or-set_same ws (MUTATIONS + 3 * n) w 0 (omega arith)

  second_word : get_or three (MUTATIONS + 3 * n + 1) 0 ≡ order
  second_word =
      get_or-set_other (set (set ws (MUTATIONS + 3 * n) w) (MUTATIONS + 3 * n + 1) order) (MUTATIONS + 3 * n + 2) (MUTATIONS + 3 * n + 1) span 0 (omega arith)
      ∙ get_or-set_same (set ws (MUTATIONS + 3 * n) w) (MUTATIONS + 3 * n + 1) order 0 (omega (arith, length-set ws (MUTATIONS + 3 * n) w))

  third_word : get_or three (MUTATIONS + 3 * n + 2) 0 ≡ span
  third_word =
      get_or-set_same (set (set ws (MUTATIONS + 3 * n) w) (MUTATIONS + 3 * n + 1) order) (MUTATIONS + 3 * n + 2) span 0
      (omega (arith, length-set (set ws (MUTATIONS + 3 * n) w) (MUTATIONS + 3 * n + 1) order, length-set ws (MUTATIONS + 3 * n) w))

  three_at : mutation_at three n ≡ mutation_of w order span
  unfolding mutation_at
  three_at = rw (first_word, second_word, third_word)

  pub mutation_pushed : (x i : ℕ) (t : Bool) (k : MutationKind) (r : Option MutationReason) → x < most_identifiers
      → w ≡ x + 512 * from_bool t + 1024 * kind_bit k + 2048 * reason_bit r + 4096 * i
      → PushesMutation (record { index = i; order = order; kind = kind_says k; transitive = t; identifier = x; span = span; reason = reason_says r }) ws n three
  mutation_pushed x i t k r a e = record {
    mutations = mutations_more ws three n _ three_kept.low (three_at ∙ decoded x _ _ _ i w order span a (flag_small t) (kind_small k) (reason_small r) e
        ∙ (rw (flag_back t, kind_back k, reason_back r)));
    kept = three_kept;
  }

-- ---- a render
render_word : (x i w : ℕ) → x < most_identifiers → w ≡ x + 512 * i → render_of w ≡ record { index = i; identifier = x }
unfolding render_of
render_word x i w h e =
    let p : w % 512 ≡ x = omega arith in
    let q : w / 512 ≡ i = omega arith in
    rw (p, q)

module _ (ws : List ℕ) (n x i : ℕ) (size : LEAST ≤ length ws) (few : n < most_renders) (below : x < most_identifiers) where
  render_kept : Kept (RENDERS + n) (RENDERS + n + 1) ws (set ws (RENDERS + n) (x + 512 * i))
  render_kept = kept_set (kept_none (RENDERS + n) (RENDERS + n + 1) ws) (RENDERS + n) (x + 512 * i) (omega arith) (omega arith)

  render_at_lem : render_at (set ws (RENDERS + n) (x + 512 * i)) n ≡ record { index = i; identifier = x }
  unfolding render_at
  render_at_lem = rw (get_or-set_same ws (RENDERS + n) (x + 512 * i) 0 (omega arith)) (render_word x i (x + 512 * i) below refl)

  pub render_pushed : PushesRender (record { index = i; identifier = x }) ws n (set ws (RENDERS + n) (x + 512 * i))
  render_pushed = record { renders = renders_more ws (set ws (RENDERS + n) (x + 512 * i)) n _ render_kept.low render_at_lem; kept = render_kept }
