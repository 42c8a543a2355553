-- The words of the ranges: what a write of a start or of an end is to the ranges.
use Prim.Native.Nat.{ℕ, suc, ◌+◌, ◌≤◌, ◌<◌}
use native.Mathlib.Omega.{arith}
use native.Mathlib.Numerals.{add-one}
use mathlib.Core.Bool.{Bool, true, false}
use mathlib.Core.Path.{◌≡◌, refl, sym, ap, ◌∙◌}
use mathlib.Core.List.{List}
use lib.Dec.{ltb, leb}
use lib.ListN.{get_or, set}
use lib.Seq.{slice, set-get_or}
use borrow.Author.Tests.{lt-ltb, le-ltb, le-leb, lt-leb}
use Rattle.model.specs.Limits.{most_identifiers}
use Rattle.model.specs.Lists.{pick}
use Rattle.model.specs.Sheet.{StoreContext, Place}
use Rattle.model.specs.Operands.{Ranges, or_if_unset, set_unset, start_if, name_lvalue, store_value}
use Rattle.workspace.specs.Layout.{STARTS, ENDS, CONTEXTS}
use Rattle.workspace.proofs.Parts.{slice_at, slice_set_in, slice_before, slice_after, kept_none, kept_set, kept_then}
use Rattle.operands.specs.Ranges.{ranges_of, Ranged}

-- ---- the words
-- ranges with these starts and ends
abbrev pub ranges : List ℕ → List ℕ → Ranges
ranges ss es = record { starts = ss; ends = es }

-- ranges by their slices
pub ranges_are : (ws : List ℕ) (ss es : List ℕ) → slice STARTS ENDS ws ≡ ss → slice ENDS CONTEXTS ws ≡ es → ranges_of ws ≡ ranges ss es
unfolding ranges_of
ranges_are ws ss es p q = ap (λ (l : List ℕ). ranges l (slice ENDS CONTEXTS ws)) p ∙ ap (ranges ss) q

pub start_at : (ws : List ℕ) (x : ℕ) → x < most_identifiers → get_or (ranges_of ws).starts x 0 ≡ get_or ws (STARTS + x) 0
unfolding ranges_of
start_at ws x h = slice_at STARTS ENDS x ws (omega (arith, h))

pub end_at_lem : (ws : List ℕ) (x : ℕ) → x < most_identifiers → get_or (ranges_of ws).ends x 0 ≡ get_or ws (ENDS + x) 0
unfolding ranges_of
end_at_lem ws x h = slice_at ENDS CONTEXTS x ws (omega (arith, h))

-- ---- a step, and one after another
pub ranged_none : {f : Ranges → Ranges} {ws : List ℕ} → f (ranges_of ws) ≡ ranges_of ws → Ranged f ws ws
ranged_none {f} {ws} e = record { ranges = sym e; kept = kept_none STARTS CONTEXTS ws }

pub ranged_then : {f g : Ranges → Ranges} {ws ws' ws'' : List ℕ} → Ranged f ws ws' → Ranged g ws' ws'' → Ranged (λ (r : Ranges). g (f r)) ws ws''
ranged_then {f} {g} p q = record {
  ranges = q.ranges ∙ ap g p.ranges;
  kept = kept_then STARTS CONTEXTS p.kept q.kept (omega arith) (omega arith) (omega arith) (omega arith);
}

-- the same step by another name
pub ranged_as : {f g : Ranges → Ranges} {ws ws' : List ℕ} → Ranged f ws ws' → f (ranges_of ws) ≡ g (ranges_of ws) → Ranged g ws ws'
ranged_as p e = record { ranges = p.ranges ∙ e; kept = p.kept }

-- ---- one write
-- a start becomes what w makes of it
abbrev pub to_start : ℕ → (ℕ → ℕ) → Ranges → Ranges
to_start x w r = ranges (set r.starts x (w (get_or r.starts x 0))) r.ends

-- an end
abbrev pub to_end : ℕ → (ℕ → ℕ) → Ranges → Ranges
to_end x w r = ranges r.starts (set r.ends x (w (get_or r.ends x 0)))

pub start-set : (w : ℕ → ℕ) {ws ws' : List ℕ} {x : ℕ} → x < most_identifiers → ws' ≡ set ws (STARTS + x) (w (get_or ws (STARTS + x) 0)) → Ranged (to_start x w) ws ws'
unfolding ranges_of
start-set w {ws} {ws'} {x} h e =
    let v : ℕ = w (get_or ws (STARTS + x) 0) in
    record {
      ranges =
          ap ranges_of e
          ∙ ranges_are (set ws (STARTS + x) v) (set (slice STARTS ENDS ws) x v) (slice ENDS CONTEXTS ws) (slice_set_in STARTS ENDS x ws v (omega (arith, h)))
          (slice_before ENDS CONTEXTS (STARTS + x) v ws (omega (arith, h)) (omega arith))
          ∙ ap (λ (s : ℕ). ranges (set (slice STARTS ENDS ws) x (w s)) (slice ENDS CONTEXTS ws)) (sym (start_at ws x h));
      kept = rw e (kept_set (kept_none STARTS CONTEXTS ws) (STARTS + x) v (omega arith) (omega (arith, h)));
    }

pub end_set : (w : ℕ → ℕ) {ws ws' : List ℕ} {x : ℕ} → x < most_identifiers → ws' ≡ set ws (ENDS + x) (w (get_or ws (ENDS + x) 0)) → Ranged (to_end x w) ws ws'
unfolding ranges_of
end_set w {ws} {ws'} {x} h e =
    let v : ℕ = w (get_or ws (ENDS + x) 0) in
    record {
      ranges =
          ap ranges_of e
          ∙ ranges_are (set ws (ENDS + x) v) (slice STARTS ENDS ws) (set (slice ENDS CONTEXTS ws) x v) (slice_after STARTS ENDS (ENDS + x) v ws (omega arith))
          (slice_set_in ENDS CONTEXTS x ws v (omega (arith, h)))
          ∙ ap (λ (s : ℕ). ranges (slice STARTS ENDS ws) (set (slice ENDS CONTEXTS ws) x (w s))) (sym (end_at_lem ws x h));
      kept = rw e (kept_set (kept_none STARTS CONTEXTS ws) (ENDS + x) v (omega arith) (omega (arith, h)));
    }

-- ---- the steps of the definition
pub start-taken : {ws ws' : List ℕ} (p : Place) (o s : ℕ) {e : ℕ} → p.identifier < most_identifiers → e ≡ get_or (ranges_of ws).ends p.identifier 0 → o < e
    → ws' ≡ set ws (STARTS + p.identifier) (or_if_unset (get_or ws (STARTS + p.identifier) 0) s) → Ranged (start_if o s p) ws ws'
unfolding start_if set_unset
start-taken {ws} p o s {e} h n t k =
    let r : Ranges = ranges_of ws in
    let test : true ≡ ltb o (get_or r.ends p.identifier 0) = sym (lt-ltb o e t) ∙ ap (ltb o) n in
    ranged_as (start-set (λ (w : ℕ). or_if_unset w s) h k)
    (ap (λ (b : Bool). ranges (pick b (set_unset p.identifier s r.starts) r.starts) r.ends) test)

pub start_left : {ws : List ℕ} (p : Place) (o s : ℕ) {e : ℕ} → e ≡ get_or (ranges_of ws).ends p.identifier 0 → e ≤ o → Ranged (start_if o s p) ws ws
unfolding start_if
start_left {ws} p o s {e} n t =
    let r : Ranges = ranges_of ws in
    let test : ltb o (get_or r.ends p.identifier 0) ≡ false = sym (ap (ltb o) n) ∙ le-ltb o e t in
    ranged_none (ap (λ (b : Bool). ranges (pick b (set_unset p.identifier s r.starts) r.starts) r.ends) test)

pub lvalue_named : {ws ws' ws'' : List ℕ} (p : Place) (o : ℕ) → p.identifier < most_identifiers
    → ws' ≡ set ws (STARTS + p.identifier) (or_if_unset (get_or ws (STARTS + p.identifier) 0) o)
    → ws'' ≡ set ws' (ENDS + p.identifier) (or_if_unset (get_or ws' (ENDS + p.identifier) 0) (o + 1)) → Ranged (name_lvalue o p) ws ws''
unfolding name_lvalue set_unset
lvalue_named {ws} p o h e k =
    let r : Ranges = ranges_of ws in
    let x : ℕ = p.identifier in
    ranged_as (ranged_then (start-set (λ (w : ℕ). or_if_unset w o) h e) (end_set (λ (w : ℕ). or_if_unset w (o + 1)) h k))
    (ap (λ (v : ℕ). ranges (set_unset x o r.starts) (set_unset x v r.ends)) (add-one o))

pub store_taken : (ws : List ℕ) (x o : ℕ) {e : ℕ} → x < most_identifiers → e ≡ get_or (ranges_of ws).ends x 0 → e ≤ o → Ranged (store_value o (StoreContext x)) ws (set ws (ENDS + x) (o + 1))
unfolding store_value
store_taken ws x o {e} h n t =
    let r : Ranges = ranges_of ws in
    let test : true ≡ leb (get_or r.ends x 0) o = sym (le-leb e o t) ∙ ap (λ (w : ℕ). leb w o) n in
    ranged_as (end_set (λ (w : ℕ). o + 1) h refl)
    (ap (λ (v : ℕ). ranges r.starts (set r.ends x v)) (add-one o)
    ∙ ap (λ (b : Bool). ranges r.starts (set r.ends x (pick b (suc o) (get_or r.ends x 0)))) test)

pub store_left : {ws : List ℕ} (x o : ℕ) {e : ℕ} → e ≡ get_or (ranges_of ws).ends x 0 → o < e → Ranged (store_value o (StoreContext x)) ws ws
unfolding store_value
store_left {ws} x o {e} n t =
    let r : Ranges = ranges_of ws in
    let test : leb (get_or r.ends x 0) o ≡ false = sym (ap (λ (w : ℕ). leb w o) n) ∙ lt-leb e o t in
    ranged_none
    (ap (λ (b : Bool). ranges r.starts (set r.ends x (pick b (suc o) (get_or r.ends x 0)))) test
    ∙ ap (ranges r.starts) (set-get_or r.ends x 0))
