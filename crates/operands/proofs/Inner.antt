-- The context places of inner functions: where they stand in the lists, and where their marks stand in the words.
use Prim.Native.Nat.{ℕ, zero, suc, ◌+◌, ◌*◌, ◌≤◌, ◌<◌}
use native.Mathlib.Omega.{arith}
use mathlib.Core.Path.{◌≡◌, refl, sym, ap, subst, ◌∙◌}
use mathlib.Core.List.{List, [], ◌∷◌}
use lib.ListN.{length, get_or}
use Rattle.model.specs.Limits.{most_identifiers, most_inner_context, diagnostic_width, place_width}
use Rattle.model.specs.Lists.{Every}
use Rattle.model.specs.Sheet.{InnerFunction, no_function, Place}
use Rattle.model.specs.Ranges.{PlaceBelow, FunctionBelow}
use Rattle.model.specs.Reading.{Position}
use Rattle.model.proofs.Everywhere.{every_at}
use Rattle.hir.specs.Words.{Part, wide, place_at, diagnostic_at, diagnostics_from, function_from}
use Rattle.hir.specs.Parts.{ListAt}
use Rattle.hir.specs.declared.at.List.{List as Listed}
use Rattle.hir.proofs.Widths.{places_rise, function_rises}
use Rattle.hir.proofs.Values.{list_as}
use Rattle.hir.proofs.Several.{list_is, list_end, several-length}
use Rattle.workspace.specs.Layout.{FUNCTIONS}
use Rattle.operands.specs.Contexts.{places_from, context_at, contexts_from, contexts_of}
use Rattle.operands.specs.Known.{places_at, Known, ContextOf}

-- ---- in the lists
-- the diagnostics of the function at p are the list l, and its context is the list m behind them
module _ (lists : List ℕ) (p : Position) {l : Listed} (h : ListAt lists p l) where
  behind : l.first + diagnostic_width * l.count ≡ (diagnostics_from lists p).next
  behind = omega (arith, list_end diagnostic_width diagnostic_at lists p h)

  before_next : l.first + diagnostic_width * l.count + 1 ≤ (function_from lists p).next
  unfolding function_from
  before_next = omega (arith, behind, places_rise lists (diagnostics_from lists p).next)

  module _ {m : Listed} (k : ListAt lists (l.first + diagnostic_width * l.count) m) where
    function_context : (places_at lists m).what ≡ (function_from lists p).what.context
    unfolding function_from
    function_context = ap (λ (x : Part (List Place)). x.what) (sym (list_is (wide place_width place_at) lists (diagnostics_from lists p).next (list_as k behind)))

    function_next : (places_at lists m).next ≡ (function_from lists p).next
    unfolding function_from
    function_next = ap (λ (x : Part (List Place)). x.next) (sym (list_is (wide place_width place_at) lists (diagnostics_from lists p).next (list_as k behind)))

module _ {lists ws : List ℕ} {fs : List InnerFunction} {k : ℕ} (g : Known lists ws fs) (z : k < length fs) where
  -- the count of its diagnostics stands in the lists
  pub function_begin : get_or ws (FUNCTIONS + k) 0 + 1 ≤ length lists
  function_begin = omega (arith, function_rises lists (get_or ws (FUNCTIONS + k) 0), g.functions.inside k z)

  module _ {l : Listed} (h : ListAt lists (get_or ws (FUNCTIONS + k) 0) l) where
    -- and the count of its context places
    pub context_begin : l.first + diagnostic_width * l.count + 1 ≤ length lists
    context_begin = omega (arith, before_next lists (get_or ws (FUNCTIONS + k) 0) h, g.functions.inside k z)

    pub context_list : {m : Listed} → ListAt lists (l.first + diagnostic_width * l.count) m → ContextOf lists ws k m
    context_list j = record {
      is = λ fs' g' z'. function_context lists (get_or ws (FUNCTIONS + k) 0) h j ∙ ap (λ (f : InnerFunction). f.context) (g'.functions.is k z');
      inside = omega (arith, function_next lists (get_or ws (FUNCTIONS + k) 0) h j, g.functions.inside k z);
    }

module _ {lists ws : List ℕ} {fs : List InnerFunction} {k : ℕ} (g : Known lists ws fs) (z : k < length fs) where
  -- no function has more context places than the limit
  pub context_most : length (get_or fs k no_function).context ≤ most_inner_context
  context_most = (every_at (FunctionBelow most_identifiers) fs k no_function g.contexts (tt, omega arith)).1

  -- every identifier of its context has a word
  pub context_below_lem : {l : Listed} → ContextOf lists ws k l → Every (PlaceBelow most_identifiers) (places_at lists l).what
  context_below_lem h = subst (Every (PlaceBelow most_identifiers)) (sym (h.is fs g z)) (every_at (FunctionBelow most_identifiers) fs k no_function g.contexts (tt, omega arith)).0

  pub context_few : {l : Listed} → ContextOf lists ws k l → l.count ≤ most_inner_context
  context_few {l} h = omega (arith, context_most, ap (λ (x : List Place). length x) (h.is fs g z), several-length (wide place_width place_at) lists l.count l.first)

-- ---- in the words
pub places_length : (ws : List ℕ) (at : ℕ) (l : List Place) → length (places_from ws at l) ≡ length l
unfolding places_from
places_length ws at [] = refl
places_length ws at (p ∷ l) = ap suc (places_length ws (suc at) l)

pub contexts_length : (ws : List ℕ) (k : ℕ) (fs : List InnerFunction) → length (contexts_from ws k fs) ≡ length fs
unfolding contexts_from
contexts_length ws k [] = refl
contexts_length ws k (f ∷ fs) = ap suc (contexts_length ws (suc k) fs)

contexts_from_lem : (ws : List ℕ) (j : ℕ) (fs : List InnerFunction) (k : ℕ) → k < length fs → get_or (contexts_from ws j fs) k [] ≡ places_from ws (context_at (j + k)) (get_or fs k no_function).context
unfolding contexts_from
contexts_from_lem ws j [] k z = absurd (omega (arith, z))
contexts_from_lem ws j (f ∷ fs) zero z = let e : j ≡ j + 0 = omega arith in ap (λ (i : ℕ). places_from ws (context_at i) f.context) e
contexts_from_lem ws j (f ∷ fs) (suc k) z =
    let e : suc j + k ≡ j + suc k = omega arith in
    contexts_from_lem ws (suc j) fs k (omega (arith, z)) ∙ ap (λ (i : ℕ). places_from ws (context_at i) (get_or fs k no_function).context) e

-- those of function k
pub contexts_at : (ws : List ℕ) (fs : List InnerFunction) (k : ℕ) → k < length fs → get_or (contexts_of ws fs) k [] ≡ places_from ws (context_at k) (get_or fs k no_function).context
contexts_at ws fs k z = let e : 0 + k ≡ k = omega arith in contexts_from_lem ws 0 fs k z ∙ ap (λ (i : ℕ). places_from ws (context_at i) (get_or fs k no_function).context) e

-- by the list in which they stand
pub context_places : {lists ws : List ℕ} {fs : List InnerFunction} {k : ℕ} {l : Listed} → Known lists ws fs → k < length fs → ContextOf lists ws k l → places_from ws (context_at k) (places_at lists l).what ≡ get_or (contexts_of ws fs) k []
context_places {ws = ws} {fs} {k} g z h = ap (places_from ws (context_at k)) (h.is fs g z) ∙ sym (contexts_at ws fs k z)
