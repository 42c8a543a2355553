-- The phis of a block, one after another: of those with one identifier only the first is marked.
use Prim.Native.Nat.{ℕ, ◌+◌, ◌-◌, ◌≤◌, ◌<◌}
use native.Mathlib.Omega.{arith}
use mathlib.Core.Bool.{Bool, true, false}
use mathlib.Core.Path.{◌≡◌, refl, sym, ap, subst, ◌∙◌}
use mathlib.Core.List.{List, [], ◌∷◌, ◌++◌, map, map-append}
use lib.ListN.{length, get_or}
use Rattle.model.specs.Limits.{most_identifiers}
use Rattle.model.specs.Lists.{pick, gather, among, Every}
use Rattle.model.specs.Sheet.{IdentifierId, EvaluationOrder, Place, Operand, Phi}
use Rattle.model.specs.Reading.{Position}
use Rattle.model.specs.Ranges.{PhiBelow}
use Rattle.model.specs.Answer.{place_words}
use Rattle.model.specs.Marks.{with_effect, capture_or_read}
use Rattle.model.specs.Operands.{Ranges, phi_places, marked_phi, phis_marked}
use Rattle.model.proofs.Gathers.{gather_append}
use Rattle.hir.specs.Numbers.{effect_number}
use Rattle.hir.specs.Words.{Part, several, phi_from}
use Rattle.hir.specs.Parts.{PhiAt}
use Rattle.hir.specs.declared.Effect.{Effect}
use Rattle.hir.specs.declared.Effect.TheVariants.{Store}
use Rattle.hir.specs.declared.at.List.{List as Listed}
use Rattle.hir.specs.declared.at.Phi.{Phi as Hir}
use Rattle.hir.proofs.Several.{several_next, first_inside, several_none}
use Rattle.hir.proofs.Widths.{several_rises}
use Rattle.writing.specs.declared.Writer.{Writer}
use Rattle.writing.specs.Wrote.{Writes}
use Rattle.copies.proofs.Loops.{Leaves, leaves_all, leaves_then, leaves_none}
use Rattle.copies.proofs.Passing.{phi_follows}
use Rattle.std.specs.Prelude.{None, Some}
use Rattle.operands.specs.Given.{given_phi}
use Rattle.operands.specs.Phis.{phi_identifier, phis_in, PlacesPut}
use Rattle.operands.proofs.PhiNames.{several_more, phi-identifier}
use Rattle.operands.proofs.PhiPlaces.{phi_put}

-- ---- one phi, behind phis with these identifiers
abbrev pub marks_phi : Ranges → EvaluationOrder → List IdentifierId → Phi → List Place
marks_phi r o used p = pick (among p.place.identifier used) (phi_places p) (marked_phi r o p)

-- one of them has its identifier
phi_kept : (r : Ranges) (o : EvaluationOrder) (used : List IdentifierId) (p : Phi) → among p.place.identifier used ≡ true → given_phi None None p ≡ marks_phi r o used p
phi_kept r o used p e = rw e

-- none has
phi-marked : (r : Ranges) (o : EvaluationOrder) (used : List IdentifierId) (p : Phi) (m : Effect) → among p.place.identifier used ≡ false
    → effect_number m ≡ capture_or_read (get_or r.ends p.place.identifier 0) o → given_phi (Some Store) (Some m) p ≡ marks_phi r o used p
phi-marked r o used p m e f = rw e (ap (λ (k : ℕ). with_effect (effect_number Store) p.place ∷ map (λ (a : Operand). with_effect k a.place) p.operands) f)

-- ---- the phis of a list, with the first `done` of them written
module _ (sheet : List ℕ) (l : Listed) (r : Ranges) (o : EvaluationOrder) where
  -- the identifiers of the first `done` phis
  abbrev used_by : ℕ → List IdentifierId
  used_by done = map phi_identifier (several done phi_from sheet l.first).what

  -- the words of k phis from c on
  abbrev words_of : List IdentifierId → ℕ → Position → List ℕ
  words_of used k c = gather place_words (phis_marked r o used (several k phi_from sheet c).what)

  pub record MarkingPhis (o₀ : Writer ℕ) (done : ℕ) (c : Position) (out : Writer ℕ) : Type 0 where
    pub leaves : Leaves (gather place_words (phis_marked r o [] (phis_in sheet l).what)) (words_of (used_by done) (l.count - done) c) o₀ out
    pub here : c ≡ (several done phi_from sheet l.first).next
    pub next : (several (l.count - done) phi_from sheet c).next ≡ (phis_in sheet l).next
    pub below : Every (PhiBelow most_identifiers) (several (l.count - done) phi_from sheet c).what
    pub few : out.at + l.first ≤ o₀.at + c

  pub marking_start : (out : Writer ℕ) → Every (PhiBelow most_identifiers) (phis_in sheet l).what → MarkingPhis out 0 l.first out
  unfolding several
  marking_start out b =
      let e : l.count ≡ l.count - 0 = omega arith in
      record {
        leaves = subst (λ (k : ℕ). Leaves (gather place_words (phis_marked r o [] (phis_in sheet l).what)) (words_of [] k l.first) out out) e (leaves_all (gather place_words (phis_marked r o [] (phis_in sheet l).what)) out);
        here = refl;
        next = ap (λ (k : ℕ). (several k phi_from sheet l.first).next) (sym e);
        below = subst (λ (k : ℕ). Every (PhiBelow most_identifiers) (several k phi_from sheet l.first).what) e b;
        few = omega arith;
      }

  -- one phi more
  used_more : (done : ℕ) (c : Position) → c ≡ (several done phi_from sheet l.first).next → used_by done ++ (phi_identifier (phi_from sheet c).what ∷ []) ≡ used_by (done + 1)
  used_more done c e =
      ap (λ (d : Position). used_by done ++ (phi_identifier (phi_from sheet d).what ∷ [])) e
      ∙ sym (map-append phi_identifier (several done phi_from sheet l.first).what ((phi_from sheet (several done phi_from sheet l.first).next).what ∷ []))
      ∙ ap (λ (q : Part (List Phi)). map phi_identifier q.what) (sym (several_more phi_from sheet done l.first))

  words_next : (used : List IdentifierId) (p : Phi) (ps : List Phi)
      → gather place_words (phis_marked r o used (p ∷ ps)) ≡ gather place_words (marks_phi r o used p) ++ gather place_words (phis_marked r o (used ++ (phi_identifier p ∷ [])) ps)
  unfolding phis_marked
  words_next used p ps = gather_append place_words (marks_phi r o used p) (phis_marked r o (used ++ (phi_identifier p ∷ [])) ps)

  words_none : (used : List IdentifierId) → gather place_words (phis_marked r o used []) ≡ []
  unfolding phis_marked
  words_none used = refl

module _ {sheet : List ℕ} {l : Listed} {r : Ranges} {o : EvaluationOrder} {o₀ : Writer ℕ} {done : ℕ} {c : Position} {out : Writer ℕ} (v : MarkingPhis sheet l r o o₀ done c out) where
  -- what was written stands in the sheet, and the next phi too
  pub done_inside : (phis_in sheet l).next ≤ length sheet → (several done phi_from sheet l.first).next ≤ length sheet
  done_inside i = omega (arith, v.here, v.next, i, several_rises (l.count - done) phi_from phi_follows sheet c)

  -- the same by another name
  pub marking_as : {out' : Writer ℕ} → out' ≡ out → MarkingPhis sheet l r o o₀ done c out'
  marking_as e = subst (MarkingPhis sheet l r o o₀ done c) (sym e) v

  pub marking_end : l.count ≤ done → PlacesPut (phis_marked r o [] (phis_in sheet l).what) l.first (phis_in sheet l).next o₀ out
  marking_end h =
      let e = several_none phi_from sheet (l.count - done) c (omega (arith, h)) in
      record {
        wrote = leaves_none v.leaves (ap (λ (q : Part (List Phi)). gather place_words (phis_marked r o (used_by sheet l r o done) q.what)) e ∙ words_none sheet l r o (used_by sheet l r o done));
        few = omega (arith, v.few, ap (λ (q : Part (List Phi)). q.next) e, v.next);
      }

  module _ (h : done < l.count) where
    first : several (l.count - done) phi_from sheet c
        ≡ record { what = (phi_from sheet c).what ∷ (several (l.count - done - 1) phi_from sheet (phi_from sheet c).next).what; next = (several (l.count - done - 1) phi_from sheet (phi_from sheet c).next).next }
    first = several_next phi_from sheet (l.count - done) c (omega (arith, h))

    fewer : l.count - done - 1 ≡ l.count - (done + 1)
    fewer = omega arith

    pub marking_inside : (phis_in sheet l).next ≤ length sheet → (phi_from sheet c).next ≤ length sheet
    marking_inside i = first_inside phi_from sheet (l.count - done) c phi_follows (omega (arith, h)) (omega (arith, v.next, i))

    both : Every (PhiBelow most_identifiers) ((phi_from sheet c).what ∷ (several (l.count - done - 1) phi_from sheet (phi_from sheet c).next).what)
    both = subst (λ (q : Part (List Phi)). Every (PhiBelow most_identifiers) q.what) first v.below

    pub marking_below : {p : Hir} → PhiAt sheet c p → p.place.identifier.0 < most_identifiers
    marking_below k = omega (arith, phi-identifier sheet c k, both.0.0)

    turn : {ps : List Place} {out' : Writer ℕ} {c' : ℕ} → PlacesPut ps c (phi_from sheet c).next out out' → ps ≡ marks_phi r o (used_by sheet l r o done) (phi_from sheet c).what → c' ≡ (phi_from sheet c).next
        → MarkingPhis sheet l r o o₀ (done + 1) c' out'
    turn {ps} {c' = c'} w e n =
        let used = used_by sheet l r o done in
        let p = (phi_from sheet c).what in
        let more = used ++ (phi_identifier p ∷ []) in
        let words = words_of sheet l r o in
        let k = l.count - done - 1 in
        record {
          leaves =
              leaves_then v.leaves w.wrote
              (ap (λ (q : Part (List Phi)). gather place_words (phis_marked r o used q.what)) first
              ∙ words_next sheet l r o used p (several k phi_from sheet (phi_from sheet c).next).what
              ∙ ap (λ (qs : List Place). gather place_words qs ++ words more k (phi_from sheet c).next) (sym e)
              ∙ ap (λ (d : Position). gather place_words ps ++ words more k d) (sym n)
              ∙ ap (λ (j : ℕ). gather place_words ps ++ words more j c') fewer
              ∙ ap (λ (u : List IdentifierId). gather place_words ps ++ words u (l.count - (done + 1)) c') (used_more sheet l r o done c v.here));
          here = n ∙ ap (λ (d : Position). (phi_from sheet d).next) v.here ∙ ap (λ (q : Part (List Phi)). q.next) (sym (several_more phi_from sheet done l.first));
          next =
              ap (λ (j : ℕ). (several j phi_from sheet c').next) (sym fewer) ∙ ap (λ (d : Position). (several k phi_from sheet d).next) n ∙ ap (λ (q : Part (List Phi)). q.next) (sym first) ∙ v.next;
          below =
              subst (λ (j : ℕ). Every (PhiBelow most_identifiers) (several j phi_from sheet c').what) fewer
              (subst (λ (d : Position). Every (PhiBelow most_identifiers) (several k phi_from sheet d).what) (sym n) both.1);
          few = omega (arith, v.few, w.few, n);
        }

    -- its identifier as it was read, and whether it was named before
    module _ {p : Hir} {c' : Position} {b : Bool} (k : PhiAt sheet c p) (n : c' ≡ (phi_from sheet c).next) (t : b ≡ among p.place.identifier.0 (map phi_identifier (several done phi_from sheet l.first).what)) where
      before : {b' : Bool} → b ≡ b' → among (phi_identifier (phi_from sheet c).what) (used_by sheet l r o done) ≡ b'
      before e = ap (λ (x : IdentifierId). among x (used_by sheet l r o done)) (sym (phi-identifier sheet c k)) ∙ sym t ∙ e

      pub kept_turn : b ≡ true → {out' : Writer ℕ} → Writes (gather place_words (given_phi None None (phi_from sheet c).what)) out out' → MarkingPhis sheet l r o o₀ (done + 1) c' out'
      kept_turn e w = turn (phi_put sheet c None None w) (phi_kept r o (used_by sheet l r o done) (phi_from sheet c).what (before e)) n

      pub marked_turn : b ≡ false → (m : Effect) → effect_number m ≡ capture_or_read (get_or r.ends p.place.identifier.0 0) o → {out' : Writer ℕ}
          → Writes (gather place_words (given_phi (Some Store) (Some m) (phi_from sheet c).what)) out out' → MarkingPhis sheet l r o o₀ (done + 1) c' out'
      marked_turn e m f w =
          turn (phi_put sheet c (Some Store) (Some m) w)
          (phi-marked r o (used_by sheet l r o done) (phi_from sheet c).what m (before e) (f ∙ ap (λ (x : IdentifierId). capture_or_read (get_or r.ends x 0) o) (phi-identifier sheet c k))) n
