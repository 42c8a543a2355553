-- What stays where words change: the ranges stand below CONTEXTS, the marks of contexts from there on.
use Prim.Native.Nat.{ℕ, suc, ◌≤◌}
use native.Mathlib.Omega.{arith}
use mathlib.Core.Path.{◌≡◌, refl}
use mathlib.Core.List.{List, [], ◌∷◌}
use lib.ListN.{take, drop}
use Rattle.model.specs.Sheet.{InnerFunction, Place}
use Rattle.workspace.specs.Layout.{STARTS, ENDS, CONTEXTS}
use Rattle.workspace.proofs.Parts.{slice_take, drop-word}
use Rattle.operands.specs.Ranges.{ranges_of}
use Rattle.operands.specs.Contexts.{places_from, context_at, contexts_from, contexts_of}

-- the ranges stay if the words below CONTEXTS do
pub ranges_stay : (ws ws' : List ℕ) → take CONTEXTS ws' ≡ take CONTEXTS ws → ranges_of ws' ≡ ranges_of ws
unfolding ranges_of
ranges_stay ws ws' e = rw (slice_take CONTEXTS STARTS ENDS ws' ws (omega arith) e, slice_take CONTEXTS ENDS CONTEXTS ws' ws (omega arith) e)

-- the contexts stay if the words from CONTEXTS on do
module _ (ws ws' : List ℕ) (e : drop CONTEXTS ws' ≡ drop CONTEXTS ws) where
  places_stay : (at : ℕ) → CONTEXTS ≤ at → (ps : List Place) → places_from ws' at ps ≡ places_from ws at ps
  unfolding places_from
  places_stay at h [] = refl
  places_stay at h (p ∷ ps) = rw (drop-word CONTEXTS at ws ws' h e, places_stay (suc at) (omega (arith, h)) ps)

  from_stay : (k : ℕ) (fs : List InnerFunction) → contexts_from ws' k fs ≡ contexts_from ws k fs
  unfolding contexts_from
  from_stay k [] = refl
  from_stay k (f ∷ fs) = rw (places_stay (context_at k) (omega arith) f.context, from_stay (suc k) fs)

  pub contexts_stay : (fs : List InnerFunction) → contexts_of ws' fs ≡ contexts_of ws fs
  contexts_stay = from_stay 0
