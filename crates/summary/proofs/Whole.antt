-- The tracked places of a sheet: its parameters, its context and its returns, before and after their marks.
use Prim.Native.Nat.{ℕ, ◌+◌}
use native.Mathlib.Omega.{arith}
use native.Mathlib.Numerals.{add-one}
use mathlib.Core.Path.{◌≡◌, refl, sym, ap, ◌∙◌}
use mathlib.Core.List.{List, [], ◌∷◌, ◌++◌, map, append_assoc, map-append}
use lib.ListN.{length, get_or, take, drop}
use lib.Seq.{take_at, drop_at}
use Rattle.model.specs.Sheet.{Place, Sheet}
use Rattle.model.specs.Summary.{marked, after_renders}
use Rattle.model.specs.Simulated.{tracked}
use Rattle.workspace.specs.Graph.{tab}
use Rattle.workspace.proofs.Tables.{tab-length}
use Rattle.dataflow.specs.Function.{Tracking}
use Rattle.summary.specs.Records.{Holds}
use Rattle.workspace.specs.Tracked.{tracked_at, tracked_of, tracked_from}
use Rattle.summary.specs.Tracked.{Marks}
use Rattle.workspace.proofs.Places.{tracked_parts, tracked_first, tracked_high}

-- two lists in a row, taken apart
module _ {A : Type 0} where
  front : (a b c d : List A) → length a ≡ length c → a ++ b ≡ c ++ d → a ≡ c
  front a b c d h e = sym (take_at a b (length c) h) ∙ ap (take (length c)) e ∙ take_at c d (length c) refl

  back : (a b c d : List A) → length a ≡ length c → a ++ b ≡ c ++ d → b ≡ d
  back a b c d h e = sym (drop_at a b (length c) h) ∙ ap (drop (length c)) e ∙ drop_at c d (length c) refl

  first : (a b : A) → ◌≡◌ {A = List A} (a ∷ []) (b ∷ []) → a ≡ b
  first a b e = ap (λ (l : List A). get_or l 0 a) e

of_length : (ws : List ℕ) (n : ℕ) → length (tracked_of ws n) ≡ n
unfolding tracked_of
of_length ws n = tab-length n (tracked_at ws)

from-length : (ws : List ℕ) (f n : ℕ) → length (tracked_from ws f n) ≡ n
unfolding tracked_from
from-length ws f n = tab-length n (λ (i : ℕ). tracked_at ws (f + i))

one_more_lem : (ws : List ℕ) (n : ℕ) → tracked_of ws (n + 1) ≡ tracked_of ws n ++ (tracked_at ws n ∷ [])
unfolding tracked_of tab
one_more_lem ws n = ap (λ (k : ℕ). tab k (tracked_at ws)) (add-one n)

module _ (s : Sheet) (ws : List ℕ) where
  -- in three parts
  parts : tracked_of ws (length s.params + length s.context + 1)
      ≡ tracked_of ws (length s.params) ++ (tracked_from ws (length s.params) (length s.context) ++ (tracked_at ws (length s.params + length s.context) ∷ []))
  parts =
      one_more_lem ws (length s.params + length s.context)
      ∙ ap (λ (l : List Place). l ++ (tracked_at ws (length s.params + length s.context) ∷ [])) (tracked_parts ws (length s.params) (length s.context))
      ∙ append_assoc (tracked_of ws (length s.params)) (tracked_from ws (length s.params) (length s.context)) (tracked_at ws (length s.params + length s.context) ∷ [])

  module _ (h : Tracking s ws) where
    rest : tracked_from ws (length s.params) (length s.context) ++ (tracked_at ws (length s.params + length s.context) ∷ []) ≡ s.context ++ (s.returns ∷ [])
    rest =
        back (tracked_of ws (length s.params)) (tracked_from ws (length s.params) (length s.context) ++ (tracked_at ws (length s.params + length s.context) ∷ []))
        s.params (s.context ++ (s.returns ∷ [])) (of_length ws (length s.params)) (sym parts ∙ h)

    params_of : tracked_of ws (length s.params) ≡ s.params
    params_of =
        front (tracked_of ws (length s.params)) (tracked_from ws (length s.params) (length s.context) ++ (tracked_at ws (length s.params + length s.context) ∷ []))
        s.params (s.context ++ (s.returns ∷ [])) (of_length ws (length s.params)) (sym parts ∙ h)

    -- the parameters
    pub params_tracked : tracked_from ws 0 (length s.params) ≡ s.params
    params_tracked = tracked_first ws (length s.params) ∙ params_of

    -- the context
    pub context_tracked : tracked_from ws (length s.params) (length s.context) ≡ s.context
    context_tracked =
        front (tracked_from ws (length s.params) (length s.context)) (tracked_at ws (length s.params + length s.context) ∷ []) s.context (s.returns ∷ [])
        (from-length ws (length s.params) (length s.context)) rest

    -- returns
    pub returns_tracked : tracked_at ws (length s.params + length s.context) ≡ s.returns
    returns_tracked =
        first (tracked_at ws (length s.params + length s.context)) s.returns
        (back (tracked_from ws (length s.params) (length s.context)) (tracked_at ws (length s.params + length s.context) ∷ []) s.context (s.returns ∷ [])
        (from-length ws (length s.params) (length s.context)) rest)

    -- with the marks of parameters and context they are those that simulated walks run for
    pub marks_tracked : {ws' : List ℕ} → Holds ws (after_renders s) → Marks ws (length s.params + length s.context) ws' → tracked_of ws' (length s.params + length s.context + 1) ≡ tracked s
    unfolding tracked
    marks_tracked {ws'} g m =
        let n : ℕ = length s.params + length s.context in
        let mark : Place → Place = marked (after_renders s) in
        let e : tracked_of ws n ≡ s.params ++ s.context =
        tracked_parts ws (length s.params) (length s.context) ∙ ap (λ (l : List Place). l ++ tracked_from ws (length s.params) (length s.context)) params_of
        ∙ ap (λ (l : List Place). s.params ++ l) context_tracked in
        let r : tracked_at ws' n ≡ s.returns = tracked_high ws ws' n n (omega arith) m.kept.high ∙ returns_tracked in
        one_more_lem ws' n
        ∙ ap (λ (l : List Place). l ++ (tracked_at ws' n ∷ [])) (m.places (after_renders s) g ∙ ap (map mark) e ∙ map-append mark s.params s.context)
        ∙ ap (λ (p : Place). (map mark s.params ++ map mark s.context) ++ (p ∷ [])) r
        ∙ append_assoc (map mark s.params) (map mark s.context) (s.returns ∷ [])
