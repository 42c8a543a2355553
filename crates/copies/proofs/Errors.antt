-- The diagnostics of inner functions.
use Prim.Native.Nat.{ℕ, ◌+◌, ◌-◌, ◌*◌, ◌≤◌, ◌<◌}
use native.Mathlib.Omega.{arith}
use mathlib.Core.Path.{◌≡◌, refl, sym, ap, subst, ◌∙◌}
use mathlib.Core.List.{List, [], ◌∷◌, ◌++◌}
use lib.ListN.{length, get_or, length-append, get_or-eq_default}
use lib.Seq.{slice, ext_get_or, length-slice}
use Rattle.model.specs.Limits.{most_listed, diagnostic_width}
use Rattle.model.specs.Lists.{gather}
use Rattle.model.specs.Sheet.{Diagnostic, InnerFunction, no_function}
use Rattle.model.specs.Reading.{Position}
use Rattle.model.specs.Answer.{function_errors, diagnostic_words}
use Rattle.hir.specs.Words.{Part, wide, diagnostic_at, several, diagnostics_from, function_from}
use Rattle.hir.specs.Parts.{ListAt}
use Rattle.hir.specs.declared.at.List.{List as Listed}
use Rattle.hir.proofs.Widths.{several_wide, places_rise, function_rises}
use Rattle.hir.proofs.Several.{list_is, several-length}
use Rattle.workspace.specs.Layout.{FUNCTIONS, HANDED}
use Rattle.workspace.proofs.Tables.{tab-length, tab_at}
use Rattle.writing.specs.declared.Writer.{Writer}
use Rattle.writing.specs.Wrote.{Writes}
use Rattle.writing.proofs.Writing.{writes_none, writes_as}
use Rattle.copies.specs.Copies.{Copies}
use Rattle.copies.specs.Functions.{most_errors, function_at, functions_of, Functions}
use Rattle.copies.proofs.Copying.{Copying}
use Rattle.model.proofs.Gathers.{gather_append}
use Rattle.copies.proofs.Loops.{Leaves, leaves_all, leaves_then, leaves_none, slice_next, slice_none}
use Rattle.copies.proofs.Sections.{diagnostics_length}

-- ---- a diagnostic
abbrev pub diagnostic_from : List ℕ → Position → Part Diagnostic
diagnostic_from = wide diagnostic_width diagnostic_at

pub copies_diagnostic : {lists : List ℕ} {c : Position} {d : Diagnostic} {o o' : Writer ℕ} → d ≡ diagnostic_at lists c → Writes (diagnostic_words d) o o'
    → Copies diagnostic_from diagnostic_words lists c o o' (c + diagnostic_width)
copies_diagnostic e w = record { wrote = writes_as w (ap diagnostic_words e); after = refl; few = omega (arith, w.wrote.next) }

-- two words a diagnostic
pub diagnostics_room : {lists : List ℕ} {n : ℕ} {c₀ : Position} {o₀ : Writer ℕ} {i : ℕ} {c : Position} {o : Writer ℕ} → Copying diagnostic_from diagnostic_words lists n c₀ o₀ i c o → o.at + diagnostic_width * (n - i) ≤ o₀.at + diagnostic_width * n
diagnostics_room {lists} {n} {c₀} {i = i} {c} v = omega (arith, v.few, v.next, several_wide diagnostic_width (n - i) diagnostic_at lists c, several_wide diagnostic_width n diagnostic_at lists c₀)

-- ---- one function
-- its diagnostics stand at p, and its context behind them
module _ (lists : List ℕ) (p : Position) {l : Listed} (h : ListAt lists p l) where
  function_list : (several l.count diagnostic_from lists l.first).what ≡ (function_from lists p).what.diagnostics
  unfolding function_from
  function_list = ap (λ (x : Part (List Diagnostic)). x.what) (sym (list_is diagnostic_from lists p h))

  before_context : (several l.count diagnostic_from lists l.first).next ≤ (function_from lists p).next
  unfolding function_from
  before_context = omega (arith, ap (λ (x : Part (List Diagnostic)). x.next) (list_is diagnostic_from lists p h), places_rise lists (diagnostics_from lists p).next)

module _ (lists ws : List ℕ) (m : ℕ) where
  pub functions-length : length (functions_of lists ws m) ≡ m
  unfolding functions_of
  functions-length = tab-length m (λ (k : ℕ). (function_at lists ws k).what)

  function_at_lem : (k : ℕ) → k < m → get_or (functions_of lists ws m) k no_function ≡ (function_at lists ws k).what
  unfolding functions_of
  function_at_lem k h = tab_at m (λ (j : ℕ). (function_at lists ws j).what) k no_function h

-- fs are those that the words name
pub functions_are : {lists ws : List ℕ} {fs : List InnerFunction} {m : ℕ} → Functions lists ws fs → m ≡ length fs → functions_of lists ws m ≡ fs
functions_are {lists} {ws} {fs} {m} g e =
    ext_get_or no_function (functions_of lists ws m) fs (functions-length lists ws m ∙ e)
    (λ k h. let z : k < m = omega (arith, h, functions-length lists ws m) in function_at_lem lists ws m k z ∙ g.is k (omega (arith, z, e)))

pub functions_again : {lists ws : List ℕ} {fs : List InnerFunction} {m : ℕ} → Functions lists ws fs → m ≡ length fs → Functions lists ws (functions_of lists ws m)
functions_again {lists} {ws} g e = subst (Functions lists ws) (sym (functions_are g e)) g

-- they stay if their words stay
pub functions_kept : {lists ws ws' : List ℕ} {fs : List InnerFunction} → ((k : ℕ) → k < length fs → get_or ws' (FUNCTIONS + k) 0 ≡ get_or ws (FUNCTIONS + k) 0) → Functions lists ws fs → Functions lists ws' fs
functions_kept {lists} {fs = fs} e g = record {
  is = λ k h. ap (λ (p : Position). (function_from lists p).what) (e k h) ∙ g.is k h;
  inside = λ k h. subst (λ (p : Position). (function_from lists p).next ≤ length lists) (sym (e k h)) (g.inside k h);
  few = g.few;
}

-- several have no more diagnostics than so many times the most
handed_few : {lists ws : List ℕ} {fs : List InnerFunction} → Functions lists ws fs → (l : List ℕ) → length (gather diagnostic_words (gather (function_errors fs) l)) ≤ most_errors * length l
handed_few g [] = omega arith
handed_few {fs = fs} g (k ∷ l) =
    let one : List Diagnostic = function_errors fs k in
    let rest : List Diagnostic = gather (function_errors fs) l in
    omega (arith, diagnostics_length (one ++ rest), length-append one rest, diagnostics_length rest, g.few k, handed_few g l)

-- of one function that is not there
pub errors_none : (lists ws : List ℕ) (m k : ℕ) → m ≤ k → (o : Writer ℕ) → Writes (gather diagnostic_words (function_errors (functions_of lists ws m) k)) o o
errors_none lists ws m k z o =
    let e : get_or (functions_of lists ws m) k no_function ≡ no_function = get_or-eq_default (functions_of lists ws m) no_function {n = k} (omega (arith, z, functions-length lists ws m)) in
    writes_as (writes_none o) (ap (λ (f : InnerFunction). gather diagnostic_words f.diagnostics) (sym e))

module _ {lists ws : List ℕ} {m k : ℕ} (g : Functions lists ws (functions_of lists ws m)) (z : k < m) where
  there : k < length (functions_of lists ws m)
  there = omega (arith, z, functions-length lists ws m)

  -- its count stands in the lists
  pub errors_begin : get_or ws (FUNCTIONS + k) 0 + 1 ≤ length lists
  errors_begin = omega (arith, function_rises lists (get_or ws (FUNCTIONS + k) 0), g.inside k there)

  module _ {l : Listed} (h : ListAt lists (get_or ws (FUNCTIONS + k) 0) l) where
    list_errors : (several l.count diagnostic_from lists l.first).what ≡ function_errors (functions_of lists ws m) k
    list_errors = function_list lists (get_or ws (FUNCTIONS + k) 0) h ∙ ap (λ (f : InnerFunction). f.diagnostics) (g.is k there)

    pub errors_inside : (several l.count diagnostic_from lists l.first).next ≤ length lists
    errors_inside = omega (arith, g.inside k there, before_context lists (get_or ws (FUNCTIONS + k) 0) h)

    pub errors_room : l.count ≤ most_listed
    errors_room = omega (arith, g.few k, ap (λ (x : List Diagnostic). length x) list_errors, several-length diagnostic_from lists l.count l.first)

    pub errors_wrote : {o o' : Writer ℕ} → Writes (gather diagnostic_words (several l.count diagnostic_from lists l.first).what) o o'
        → Writes (gather diagnostic_words (function_errors (functions_of lists ws m) k)) o o'
    errors_wrote w = writes_as w (ap (gather diagnostic_words) list_errors)

-- ---- all functions handed over, from word i on
pub record Handing (fs : List InnerFunction) (ws : List ℕ) (hand : ℕ) (o₀ : Writer ℕ) (i : ℕ) (o : Writer ℕ) : Type 0 where
  pub leaves : Leaves (gather diagnostic_words (gather (function_errors fs) (slice HANDED hand ws))) (gather diagnostic_words (gather (function_errors fs) (slice i hand ws))) o₀ o
  pub few : o.at + most_errors * (hand - i) ≤ o₀.at + most_errors * (hand - HANDED)

pub handing_start : (fs : List InnerFunction) (ws : List ℕ) (hand : ℕ) (o : Writer ℕ) → Handing fs ws hand o HANDED o
handing_start fs ws hand o = record { leaves = leaves_all (gather diagnostic_words (gather (function_errors fs) (slice HANDED hand ws))) o; few = omega arith }

module _ {fs : List InnerFunction} {ws : List ℕ} {hand : ℕ} {o₀ : Writer ℕ} {i : ℕ} {o : Writer ℕ} (v : Handing fs ws hand o₀ i o) where
  pub handing_turn : {lists : List ℕ} → Functions lists ws fs → i < hand → hand ≤ length ws → {o' : Writer ℕ} → Writes (gather diagnostic_words (function_errors fs (get_or ws i 0))) o o' → Handing fs ws hand o₀ (i + 1) o'
  handing_turn g h k p = record {
    leaves =
        leaves_then v.leaves p
        (ap (λ (l : List ℕ). gather diagnostic_words (gather (function_errors fs) l)) (slice_next i hand ws h k) ∙ gather_append diagnostic_words (function_errors fs (get_or ws i 0)) (gather (function_errors fs) (slice (i + 1) hand ws)));
    few = omega (arith, v.few, p.wrote.next, diagnostics_length (function_errors fs (get_or ws i 0)), g.few (get_or ws i 0), h);
  }

  pub handing_end : hand ≤ i → Writes (gather diagnostic_words (gather (function_errors fs) (slice HANDED hand ws))) o₀ o
  handing_end h = leaves_none v.leaves (ap (λ (l : List ℕ). gather diagnostic_words (gather (function_errors fs) l)) (slice_none i hand ws h))

-- so many words at most
pub handed_room : {lists ws : List ℕ} {fs : List InnerFunction} → Functions lists ws fs → (hand : ℕ) → hand ≤ length ws → {o o' : Writer ℕ}
    → Writes (gather diagnostic_words (gather (function_errors fs) (slice HANDED hand ws))) o o' → o'.at ≤ o.at + most_errors * (hand - HANDED)
handed_room {ws = ws} g hand h w = omega (arith, w.wrote.next, handed_few g (slice HANDED hand ws), length-slice HANDED hand ws h)
