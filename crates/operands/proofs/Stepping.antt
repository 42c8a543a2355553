-- Steps of the pass one after another, and a loop of them: what is left to do from here makes what was to be done from the start.
use Prim.Native.Nat.{ℕ, ◌+◌, ◌-◌, ◌≤◌, ◌<◌}
use native.Mathlib.Omega.{arith}
use mathlib.Core.Path.{◌≡◌, sym, ap, subst, ◌∙◌}
use mathlib.Core.List.{List, ◌∷◌, ◌++◌}
use lib.ListN.{length}
use Rattle.model.specs.Lists.{gather, each, Every}
use Rattle.model.specs.Sheet.{InnerFunction}
use Rattle.model.specs.Reading.{Position}
use Rattle.model.specs.Operands.{Pass}
use Rattle.model.specs.Answer.{place_words}
use Rattle.model.proofs.Gathers.{gather_append}
use Rattle.hir.specs.Words.{Part, Standing, several, listed}
use Rattle.hir.specs.Parts.{ListAt}
use Rattle.hir.specs.declared.at.List.{List as Listed}
use Rattle.hir.proofs.Standing.{part-value, part_next}
use Rattle.hir.proofs.Widths.{Rises}
use Rattle.hir.proofs.Several.{several_next, several_none, first_inside, list_is}
use Rattle.workspace.specs.Layout.{STARTS, PASSED, FUNCTIONS}
use Rattle.workspace.specs.Rows.{Kept}
use Rattle.workspace.proofs.Parts.{kept_then, drop-word}
use Rattle.writing.specs.declared.Writer.{Writer}
use Rattle.writing.proofs.Writing.{writes_as, writes_then}
use Rattle.copies.proofs.Errors.{functions_kept}
use Rattle.copies.proofs.Loops.{Leaves, leaves_then, leaves_none}
use Rattle.operands.specs.declared.Section.{Section}
use Rattle.operands.specs.Known.{Known}
use Rattle.operands.specs.Passes.{pass_of, forget, places_in, Ready, Passable, Steps, Passed}
use Rattle.operands.proofs.Adding.{Adds, none_in, each_adds}

-- ---- the inner functions stay known
pub known_kept : {lists ws ws' : List ℕ} {fs : List InnerFunction} → Kept STARTS PASSED ws ws' → Known lists ws fs → Known lists ws' fs
known_kept {lists} {ws} {ws'} k h = record {
  size = omega (arith, h.size, k.same);
  functions = functions_kept (λ i z. drop-word PASSED (FUNCTIONS + i) ws ws' (omega arith) k.high) h.functions;
  contexts = h.contexts;
  count = h.count;
}

-- the words of a section's places
abbrev pub words_in : Section → Pass → List ℕ
words_in section p = gather place_words (places_in section p)

-- ---- one step after another
pub steps_then : {section : Section} {fs : List InnerFunction} {f g : Pass → Pass} → Adds section g → {ws ws₁ ws₂ : List ℕ} {o o₁ o₂ : Writer ℕ} → Steps f section fs ws o ws₁ o₁
    → Steps g section fs ws₁ o₁ ws₂ o₂ → Steps (λ (p : Pass). g (f p)) section fs ws o ws₂ o₂
steps_then {section} {fs} {f} {g} h {ws} s t =
    let q : Pass = f (pass_of ws fs) in
    record {
      pass = t.pass ∙ ap (λ (p : Pass). forget (g p)) s.pass ∙ sym (h.state q);
      wrote = writes_as (writes_then s.wrote t.wrote)
          (ap (λ (p : Pass). words_in section q ++ words_in section (g p)) s.pass
          ∙ sym (gather_append place_words (places_in section q) (places_in section (g (forget q))))
          ∙ ap (gather place_words) (sym (h.places q)));
    }

-- ---- n parts from c₀ on, of which i are passed over; the next stands at c
module _ {A : Type 0} (f : Standing A) (Below : List InnerFunction → A → Type 0) (step : List InnerFunction → A → Pass → Pass) (section : Section) (sheet lists : List ℕ) where
  -- so many of them can be passed over
  abbrev ReadyAll : List ℕ → ℕ → Position → List InnerFunction → Type 0
  ReadyAll ws k c = Ready (several k f) (λ (fs : List InnerFunction). Every (Below fs)) sheet lists ws c

  -- the pass over all of them
  abbrev all_from : ℕ → Position → List ℕ → List InnerFunction → Pass
  all_from k c ws fs = each (step fs) (several k f sheet c).what (pass_of ws fs)

  pub record Looping (n : ℕ) (c₀ : Position) (ws₀ : List ℕ) (o₀ : Writer ℕ) (i : ℕ) (c : Position) (ws : List ℕ) (o : Writer ℕ) : Type 0 where
    pub ready : (fs : List InnerFunction) → ReadyAll ws₀ n c₀ fs → ReadyAll ws (n - i) c fs
    pub state : (fs : List InnerFunction) → ReadyAll ws₀ n c₀ fs → forget (all_from (n - i) c ws fs) ≡ forget (all_from n c₀ ws₀ fs)
    pub leaves : (fs : List InnerFunction) → ReadyAll ws₀ n c₀ fs → Leaves (words_in section (all_from n c₀ ws₀ fs)) (words_in section (all_from (n - i) c ws fs)) o₀ o
    pub kept : Kept STARTS PASSED ws₀ ws
    pub next : (several (n - i) f sheet c).next ≡ (several n f sheet c₀).next
    pub few : o.at + c₀ ≤ o₀.at + c
    pub long : length o.buffer.now ≡ length o₀.buffer.now
    pub same : o.buffer.ghost_name ≡ o₀.buffer.ghost_name

  module _ {n : ℕ} {c₀ : Position} {ws₀ : List ℕ} {o₀ : Writer ℕ} {i : ℕ} {c : Position} {ws : List ℕ} {o : Writer ℕ} (v : Looping n c₀ ws₀ o₀ i c ws o) where
    module _ (z : i < n) where
      first : several (n - i) f sheet c ≡ record { what = (f sheet c).what ∷ (several (n - i - 1) f sheet (f sheet c).next).what; next = (several (n - i - 1) f sheet (f sheet c).next).next }
      first = several_next f sheet (n - i) c (omega arith)

      -- the next one can be passed over
      pub looping_first : (fs : List InnerFunction) → ReadyAll ws₀ n c₀ fs → Ready f Below sheet lists ws c fs
      looping_first fs h =
          let r : ReadyAll ws (n - i) c fs = v.ready fs h in
          record { known = r.known; below = (subst (Every (Below fs)) (part-value first) r.below).0 }

      pub looping_passable : Rises f → Passable (several n f) (λ (fs : List InnerFunction). Every (Below fs)) sheet lists ws₀ c₀ o₀ → Passable f Below sheet lists ws c o
      looping_passable r p = record {
        functions = p.functions;
        ready = looping_first p.functions p.ready;
        inside = first_inside f sheet (n - i) c r (omega arith) (omega (arith, v.next, p.inside));
        room = omega (arith, v.few, p.room);
      }

      pub looping_turn : ((fs : List InnerFunction) (x : A) → Adds section (step fs x)) → {ws' : List ℕ} {o' : Writer ℕ} {c' : Position} → Passed f Below step section sheet lists c ws o ws' o' c'
          → Looping n c₀ ws₀ o₀ (i + 1) c' ws' o'
      looping_turn adds {ws'} {o'} {c'} p =
          let x : A = (f sheet c).what in
          let rest : List A = (several (n - i - 1) f sheet c').what in
          let less : n - (i + 1) ≡ n - i - 1 = omega arith in
          let one : (several (n - i) f sheet c).what ≡ x ∷ rest =
          part-value first ∙ ap (λ (d : Position). x ∷ (several (n - i - 1) f sheet d).what) (sym p.after) in
          record {
            ready = rw less (λ fs h.
                let q : ReadyAll ws (n - i) c fs = v.ready fs h in
                record { known = known_kept p.kept q.known; below = (subst (Every (Below fs)) one q.below).1 });
            state = rw less (λ fs h.
                let q : Pass = pass_of ws fs in
                let more : Adds section (each (step fs) rest) = each_adds section (step fs) (adds fs) rest in
                ap (λ (y : Pass). forget (each (step fs) rest y)) (p.steps fs (looping_first fs h)).pass
                ∙ sym (more.state (step fs x q))
                ∙ ap (λ (l : List A). forget (each (step fs) l q)) (sym one)
                ∙ v.state fs h);
            leaves = rw less (λ fs h.
                let q : Pass = pass_of ws fs in
                let more : Adds section (each (step fs) rest) = each_adds section (step fs) (adds fs) rest in
                leaves_then (v.leaves fs h) (p.steps fs (looping_first fs h)).wrote
                (ap (λ (l : List A). words_in section (each (step fs) l q)) one
                ∙ ap (gather place_words) (more.places (step fs x q))
                ∙ gather_append place_words (places_in section (step fs x q)) (places_in section (each (step fs) rest (forget (step fs x q))))
                ∙ ap (λ (y : Pass). words_in section (step fs x q) ++ words_in section (each (step fs) rest y)) (sym (p.steps fs (looping_first fs h)).pass)));
            kept = kept_then STARTS PASSED v.kept p.kept (omega arith) (omega arith) (omega arith) (omega arith);
            next = rw less (ap (λ (d : Position). (several (n - i - 1) f sheet d).next) p.after ∙ sym (part_next first) ∙ v.next);
            few = omega (arith, v.few, p.few);
            long = p.long ∙ v.long;
            same = p.same ∙ v.same;
          }

    pub looping_end : n ≤ i → Passed (several n f) (λ (fs : List InnerFunction). Every (Below fs)) (λ (fs : List InnerFunction). each (step fs)) section sheet lists c₀ ws₀ o₀ ws o c
    unfolding pass_of forget
    looping_end z =
        let none = several_none f sheet (n - i) c (omega arith) in
        record {
          steps = λ fs h. record {
            pass = sym (ap (λ (l : List A). forget (each (step fs) l (pass_of ws fs))) (part-value none)) ∙ v.state fs h;
            wrote = leaves_none (v.leaves fs h)
                (ap (λ (l : List A). words_in section (each (step fs) l (pass_of ws fs))) (part-value none)
                ∙ ap (gather place_words) (none_in section (pass_of ws fs)));
          };
          kept = v.kept;
          after = sym (part_next none) ∙ v.next;
          few = v.few;
          long = v.long;
          same = v.same;
        }

-- ---- a count, then that many parts
module _ {A : Type 0} (f : Standing A) (Below : List InnerFunction → A → Type 0) (step : List InnerFunction → A → Pass → Pass) (section : Section) {sheet : List ℕ} {c : Position} {l : Listed} (h : ListAt sheet c l) where
  abbrev EveryOf : List InnerFunction → List A → Type 0
  EveryOf fs = Every (Below fs)

  pub listed_passable : {lists ws : List ℕ} {o : Writer ℕ} → Passable (listed f) EveryOf sheet lists ws c o → Passable (several l.count f) EveryOf sheet lists ws l.first o
  listed_passable p = record {
    functions = p.functions;
    ready = record { known = p.ready.known; below = subst (λ (q : Part (List A)). EveryOf p.functions q.what) (list_is f sheet c h) p.ready.below };
    inside = subst (λ (q : Part (List A)). q.next ≤ length sheet) (list_is f sheet c h) p.inside;
    room = omega (arith, p.room, h.first);
  }

  pub listed_passed : {lists ws ws' : List ℕ} {o o' : Writer ℕ} {r : Position} → Passed (several l.count f) EveryOf (λ (fs : List InnerFunction). each (step fs)) section sheet lists l.first ws o ws' o' r
      → Passed (listed f) EveryOf (λ (fs : List InnerFunction). each (step fs)) section sheet lists c ws o ws' o' r
  listed_passed {ws = ws} {ws'} {o} {o'} p =
      let e = list_is f sheet c h in
      record {
        steps = λ fs q.
            subst (λ (y : Part (List A)). Steps (each (step fs) y.what) section fs ws o ws' o') (sym e)
            (p.steps fs (record { known = q.known; below = subst (λ (y : Part (List A)). EveryOf fs y.what) e q.below }));
        kept = p.kept;
        after = p.after ∙ sym (ap (λ (y : Part (List A)). y.next) e);
        few = omega (arith, p.few, h.first);
        long = p.long;
        same = p.same;
      }
