-- A step of the pass: what it leaves in the words, and what it writes of the section that is asked for.
use Prim.Native.Nat.{ℕ, ◌+◌, ◌≤◌}
use native.Mathlib.Omega.{arith}
use mathlib.Core.Bool.{Bool, true, false}
use mathlib.Core.Path.{◌≡◌, refl, sym, ap, subst, ◌∙◌}
use mathlib.Core.List.{List, []}
use lib.ListN.{length}
use denote.Enum.Bare.{sameb}
use Rattle.model.specs.Limits.{most_identifiers}
use Rattle.model.specs.Lists.{pick, gather, Every}
use Rattle.model.specs.Sheet.{EvaluationOrder, InnerFunction, Place, Phi, Terminal}
use Rattle.model.specs.Ranges.{PhiBelow}
use Rattle.model.specs.Reading.{Position}
use Rattle.model.specs.Answer.{place_words}
use Rattle.model.specs.Operands.{phis_marked, phi_starts, phis, terminal_places, terminal}
use Rattle.hir.specs.Words.{Part, phi_from, phis_from, terminal_from}
use Rattle.hir.specs.Parts.{ListAt}
use Rattle.hir.specs.declared.at.List.{List as Listed}
use Rattle.hir.proofs.Widths.{listed_rises}
use Rattle.hir.proofs.Several.{list_is, list_inside}
use Rattle.workspace.specs.Layout.{STARTS, PASSED}
use Rattle.workspace.proofs.Parts.{kept_none, kept_then}
use Rattle.writing.specs.declared.Writer.{Writer}
use Rattle.writing.proofs.Writing.{writes_none, writes_as, writes_long}
use Rattle.copies.proofs.Passing.{phi_follows}
use Rattle.operands.specs.declared.Section.{Section}
use Rattle.operands.specs.declared.Section.TheVariants.{Phis, Instructions, Terminals}
use Rattle.operands.specs.contracts.Section.{the_type}
use Rattle.operands.specs.Known.{InnerFunctions}
use Rattle.operands.specs.Ranges.{ranges_of, Ranged}
use Rattle.operands.specs.Phis.{phis_in, PhisBelow, PlacesPut}
use Rattle.operands.specs.Passes.{pass_of, forget, places_in, AnyTerminal, Passable, Steps, Passed}
use Rattle.operands.proofs.Staying.{contexts_stay}

-- ---- what was written
-- what is taken of places for section t, where the section is s
abbrev pub taken : Section → Section → List Place → List Place
taken t s ps = pick (sameb the_type s t) ps []

-- all, if it is t
pub put_taken : (t s : Section) {ps : List Place} {c d : Position} {o o' : Writer ℕ} {b : Bool} → b ≡ sameb the_type s t → b ≡ true → PlacesPut ps c d o o' → PlacesPut (taken t s ps) c d o o'
put_taken t s {ps} {c} {d} {o} {o'} e h p = subst (λ (x : Bool). PlacesPut (pick x ps []) c d o o') (sym h ∙ e) p

-- none, if it is not
pub put_left : (t s : Section) (ps : List Place) {c d : Position} {o : Writer ℕ} {b : Bool} → b ≡ sameb the_type s t → b ≡ false → c ≤ d → PlacesPut (taken t s ps) c d o o
put_left t s ps {c} {d} {o} e h k = subst (λ (x : Bool). PlacesPut (pick x ps []) c d o o) (sym h ∙ e) (record { wrote = writes_none o; few = omega (arith, k) })

-- the same by another name
pub put_as : {ps : List Place} {c d : Position} {a b b' : Writer ℕ} → PlacesPut ps c d a b → b' ≡ b → PlacesPut ps c d a b'
put_as {ps} {c} {d} {a} h e = subst (PlacesPut ps c d a) (sym e) h

-- ---- a terminal
terminal-section : (s : Section) (fe : Bool) (t : Terminal) (ws : List ℕ) (fs : List InnerFunction) → taken Terminals s (terminal_places fe t) ≡ places_in s (terminal fe t (pass_of ws fs))
unfolding terminal pass_of
terminal-section Phis fe t ws fs = refl
terminal-section Instructions fe t ws fs = refl
terminal-section Terminals fe t ws fs = refl

terminal_stays : (fe : Bool) (t : Terminal) (ws : List ℕ) (fs : List InnerFunction) → pass_of ws fs ≡ forget (terminal fe t (pass_of ws fs))
unfolding terminal pass_of forget
terminal_stays fe t ws fs = refl

pub terminal_passed : (s : Section) (fe : Bool) {sheet lists : List ℕ} {c : Position} (ws : List ℕ) {o o' : Writer ℕ} {d : Position}
    → PlacesPut (taken Terminals s (terminal_places fe (terminal_from sheet c).what)) c (terminal_from sheet c).next o o'
    → d ≡ (terminal_from sheet c).next → Passed terminal_from AnyTerminal (λ (fs : InnerFunctions). terminal fe) s sheet lists c ws o ws o' d
terminal_passed s fe {sheet} {c = c} ws h e = record {
  steps = λ fs k. record {
    pass = terminal_stays fe (terminal_from sheet c).what ws fs;
    wrote = writes_as h.wrote (ap (gather place_words) (terminal-section s fe (terminal_from sheet c).what ws fs));
  };
  kept = kept_none STARTS PASSED ws;
  after = e;
  few = omega (arith, h.few, e);
  long = writes_long h.wrote;
  same = h.wrote.same;
}

-- ---- the phis of a block
phis-section : (s : Section) (o : EvaluationOrder) (l : List Phi) (ws : List ℕ) (fs : List InnerFunction) → taken Phis s (phis_marked (ranges_of ws) o [] l) ≡ places_in s (phis o l (pass_of ws fs))
unfolding phis pass_of
phis-section Phis o l ws fs = refl
phis-section Instructions o l ws fs = refl
phis-section Terminals o l ws fs = refl

phis-step : (o : EvaluationOrder) (l : List Phi) (ws ws' : List ℕ) (fs : List InnerFunction) → Ranged (phi_starts o l) ws ws' → pass_of ws' fs ≡ forget (phis o l (pass_of ws fs))
unfolding phis pass_of forget
phis-step o l ws ws' fs r = rw (r.ranges, contexts_stay ws ws' r.kept.high fs)

module _ {sheet : List ℕ} {c : Position} {l : Listed} (h : ListAt sheet c l) where
  list_phis : phis_in sheet l ≡ phis_from sheet c
  list_phis = sym (list_is phi_from sheet c h)

  -- they can be passed over
  module _ {lists ws : List ℕ} {o : Writer ℕ} (p : Passable phis_from PhisBelow sheet lists ws c o) where
    pub phis_inside : (phis_in sheet l).next ≤ length sheet
    phis_inside = list_inside phi_from sheet c h p.inside

    pub phis-below : Every (PhiBelow most_identifiers) (phis_in sheet l).what
    phis-below = subst (λ (q : Part (List Phi)). Every (PhiBelow most_identifiers) q.what) (sym list_phis) p.ready.below

  -- they were
  pub phis_passed : (s : Section) (o : EvaluationOrder) {lists : List ℕ} (ws ws' : List ℕ) {out out' : Writer ℕ} {d : Position}
      → PlacesPut (taken Phis s (phis_marked (ranges_of ws) o [] (phis_in sheet l).what)) l.first (phis_in sheet l).next out out'
      → Ranged (phi_starts o (phis_in sheet l).what) ws ws' × (d ≡ (phis_in sheet l).next)
      → Passed phis_from PhisBelow (λ (fs : InnerFunctions). phis o) s sheet lists c ws out ws' out' d
  phis_passed s o ws ws' {out} {out'} w k = record {
    steps = λ fs _. subst (λ (q : Part (List Phi)). Steps (phis o q.what) s fs ws out ws' out') list_phis (record {
      pass = phis-step o (phis_in sheet l).what ws ws' fs k.0;
      wrote = writes_as w.wrote (ap (gather place_words) (phis-section s o (phis_in sheet l).what ws fs));
    });
    kept = kept_then STARTS PASSED k.0.kept (kept_none STARTS PASSED ws') (omega arith) (omega arith) (omega arith) (omega arith);
    after = k.1 ∙ ap (λ (q : Part (List Phi)). q.next) list_phis;
    few = omega (arith, w.few, k.1, h.first);
    long = writes_long w.wrote;
    same = w.wrote.same;
  }

-- there is a count to read
pub phis-count : (sheet : List ℕ) (c : Position) → (phis_from sheet c).next ≤ length sheet → c + 1 ≤ length sheet
phis-count sheet c i = omega (arith, listed_rises phi_from phi_follows sheet c, i)
