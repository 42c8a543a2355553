-- The pending mutations and renders: the next one, one more, and which words they are.
use Prim.Native.Nat.{ℕ, ◌+◌, ◌*◌, ◌≤◌, ◌<◌}
use native.Mathlib.Omega.{arith}
use native.Mathlib.Numerals.{add-one}
use mathlib.Core.List.{List, [], ◌∷◌, ◌++◌}
use mathlib.Core.Path.{◌≡◌, ap, ◌∙◌}
use lib.ListN.{get_or, take, drop}
use Rattle.model.specs.Mutation.{Mutation, RenderOf}
use Rattle.workspace.specs.Layout.{MUTATIONS, RENDERS}
use Rattle.workspace.specs.Graph.{tab}
use Rattle.workspace.specs.Pending.{mutation_at, render_at, mutations_of, renders_of}
use Rattle.workspace.proofs.Parts.{take-word, drop-word}
use Rattle.workspace.proofs.Tables.{tab-same, tab-drop, tab_end}

-- ---- the next one
pub mutations_next : (ws : List ℕ) (n i : ℕ) → i < n → drop i (mutations_of ws n) ≡ mutation_at ws i ∷ drop (i + 1) (mutations_of ws n)
unfolding mutations_of
mutations_next ws n i h = tab-drop n (mutation_at ws) i h

pub mutations_end : (ws : List ℕ) (n i : ℕ) → n ≤ i → drop i (mutations_of ws n) ≡ []
unfolding mutations_of
mutations_end ws n i h = tab_end n (mutation_at ws) i h

-- ---- they stay if their words stay
mutation_same : (ws ws' : List ℕ) (k : ℕ) → get_or ws' (MUTATIONS + 3 * k) 0 ≡ get_or ws (MUTATIONS + 3 * k) 0 → get_or ws' (MUTATIONS + 3 * k + 1) 0 ≡ get_or ws (MUTATIONS + 3 * k + 1) 0
    → get_or ws' (MUTATIONS + 3 * k + 2) 0 ≡ get_or ws (MUTATIONS + 3 * k + 2) 0 → mutation_at ws' k ≡ mutation_at ws k
unfolding mutation_at
mutation_same ws ws' k p q r = rw (p, q, r)

pub mutations_kept : (ws ws' : List ℕ) (n : ℕ) → drop MUTATIONS ws' ≡ drop MUTATIONS ws → mutations_of ws' n ≡ mutations_of ws n
unfolding mutations_of
mutations_kept ws ws' n e =
    tab-same n (mutation_at ws') (mutation_at ws)
    (λ k h. mutation_same ws ws' k (drop-word MUTATIONS (MUTATIONS + 3 * k) ws ws' (omega arith) e) (drop-word MUTATIONS (MUTATIONS + 3 * k + 1) ws ws' (omega arith) e)
    (drop-word MUTATIONS (MUTATIONS + 3 * k + 2) ws ws' (omega arith) e))

render_same : (ws ws' : List ℕ) (k : ℕ) → get_or ws' (RENDERS + k) 0 ≡ get_or ws (RENDERS + k) 0 → render_at ws' k ≡ render_at ws k
unfolding render_at
render_same ws ws' k p = rw p

pub renders_kept : (ws ws' : List ℕ) (n : ℕ) → drop RENDERS ws' ≡ drop RENDERS ws → renders_of ws' n ≡ renders_of ws n
unfolding renders_of
renders_kept ws ws' n e = tab-same n (render_at ws') (render_at ws) (λ k h. render_same ws ws' k (drop-word RENDERS (RENDERS + k) ws ws' (omega arith) e))

-- ---- one more
pub mutations_below : (ws ws' : List ℕ) (n : ℕ) → take (MUTATIONS + 3 * n) ws' ≡ take (MUTATIONS + 3 * n) ws → mutations_of ws' n ≡ mutations_of ws n
unfolding mutations_of
mutations_below ws ws' n e =
    tab-same n (mutation_at ws') (mutation_at ws)
    (λ k h. mutation_same ws ws' k (take-word (MUTATIONS + 3 * n) (MUTATIONS + 3 * k) ws ws' (omega arith) e)
    (take-word (MUTATIONS + 3 * n) (MUTATIONS + 3 * k + 1) ws ws' (omega arith) e) (take-word (MUTATIONS + 3 * n) (MUTATIONS + 3 * k + 2) ws ws' (omega arith) e))

mutations_last : (ws : List ℕ) (n : ℕ) → mutations_of ws (n + 1) ≡ mutations_of ws n ++ (mutation_at ws n ∷ [])
unfolding mutations_of tab
mutations_last ws n = ap (λ (k : ℕ). tab k (mutation_at ws)) (add-one n)

pub mutations_more : (ws ws' : List ℕ) (n : ℕ) (m : Mutation) → take (MUTATIONS + 3 * n) ws' ≡ take (MUTATIONS + 3 * n) ws → mutation_at ws' n ≡ m
    → mutations_of ws' (n + 1) ≡ mutations_of ws n ++ (m ∷ [])
mutations_more ws ws' n m e p = mutations_last ws' n ∙ ap (λ (l : List Mutation). l ++ (mutation_at ws' n ∷ [])) (mutations_below ws ws' n e) ∙ ap (λ (q : Mutation). mutations_of ws n ++ (q ∷ [])) p

pub renders-below : (ws ws' : List ℕ) (n : ℕ) → take (RENDERS + n) ws' ≡ take (RENDERS + n) ws → renders_of ws' n ≡ renders_of ws n
unfolding renders_of
renders-below ws ws' n e = tab-same n (render_at ws') (render_at ws) (λ k h. render_same ws ws' k (take-word (RENDERS + n) (RENDERS + k) ws ws' (omega arith) e))

renders_last : (ws : List ℕ) (n : ℕ) → renders_of ws (n + 1) ≡ renders_of ws n ++ (render_at ws n ∷ [])
unfolding renders_of tab
renders_last ws n = ap (λ (k : ℕ). tab k (render_at ws)) (add-one n)

pub renders_more : (ws ws' : List ℕ) (n : ℕ) (m : RenderOf) → take (RENDERS + n) ws' ≡ take (RENDERS + n) ws → render_at ws' n ≡ m
    → renders_of ws' (n + 1) ≡ renders_of ws n ++ (m ∷ [])
renders_more ws ws' n m e p = renders_last ws' n ∙ ap (λ (l : List RenderOf). l ++ (render_at ws' n ∷ [])) (renders-below ws ws' n e) ∙ ap (λ (q : RenderOf). renders_of ws n ++ (q ∷ [])) p
