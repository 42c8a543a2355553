-- The ends that an accepted call leaves in the answer buffer are those of demand 3's run of all mutations, in sheet order, taken through the pass over operands.
use Prim.Native.Nat.{ℕ, zero, suc, ◌+◌, ◌*◌, ◌-◌, ◌<◌}
use native.Mathlib.Omega.{arith}
use mathlib.Core.Path.{◌≡◌, refl, sym, ap, ◌∙◌}
use mathlib.Core.Bool.{Bool, true, false, true≢false}
use mathlib.Core.List.{List, [], ◌∷◌, ◌++◌, append_assoc}
use lib.ListN.{length, get_or, replicate}
use lib.Dec.{ltb}
use Rattle.model.specs.Limits.{least_workspace, most_relations}
use Rattle.model.specs.Lists.{pick, gather, each}
use Rattle.model.specs.Sheet.{Sheet}
use Rattle.model.specs.Reading.{Position, Result, got, refused}
use Rattle.model.specs.Building.{build}
use Rattle.model.specs.Runs.{after}
use Rattle.model.specs.Summary.{built}
use Rattle.model.specs.Answer.{Range, range_words, answer, answer_words}
use Rattle.model.specs.Call.{Outcome, refusal, accepted, read, IsSheet, applies, fits, answered, holds, admit, outcome, answer_after}
use Rattle.model.specs.Demand3.{how}
use Rattle.model.specs.CallEnds.{end_at, CallEnds}
use Rattle.model.proofs.ReadLaws.{is_got}
use Rattle.model.specs.Operands.{before_pass}
use Rattle.model.specs.EndsSet.{instructions_of, end_after}
use Rattle.model.specs.SecondProperty.{no_range, SecondProperty}
use Rattle.model.proofs.Demand3.{demand3}
use Rattle.model.proofs.SecondProperty.{answer_ranges, second_property}

abbrev is_accepted : Outcome → Bool
is_accepted (refusal k) = false
is_accepted (accepted a) = true

abbrev words_of : Outcome → List ℕ
words_of (refusal k) = []
words_of (accepted a) = a

module _ (ws : List ℕ) (workspace room : ℕ) (a : List ℕ) where
  fits-words : (b : List ℕ) → fits room b ≡ accepted a → b ≡ a
  unfolding fits
  fits-words b e = go (ltb room (length b)) e
    where
      go : (t : Bool) → pick t (refusal 9) (accepted b) ≡ accepted a → b ≡ a
      go true y = absurd (true≢false (sym (ap is_accepted y)))
      go false y = ap words_of y

  admitted : (s : Sheet) (c : Position) → admit ws workspace ≡ got s c → IsSheet ws s
  unfolding admit holds
  admitted s c e = go (ltb workspace least_workspace) e
    where
      held : (r : Result Sheet) → holds r ≡ got s c → r ≡ got s c
      held (refused k) y = y
      held (got t d) y = passed (ltb most_relations (build t).held) y
        where
          passed : (b : Bool) → pick b (refused 8) (got t d) ≡ got s c → got t d ≡ got s c
          passed true z = absurd (true≢false (sym (ap is_got z)))
          passed false z = z

      go : (t : Bool) → pick t (refused 1) (holds (read ws)) ≡ got s c → IsSheet ws s
      go true y = absurd (true≢false (sym (ap is_got y)))
      go false y = (c, held (read ws) y)

  answered-sheet : (r : Result Sheet) → admit ws workspace ≡ r → answered room r ≡ accepted a → (s : Sheet) × IsSheet ws s × (answer_words (answer s) ≡ a)
  unfolding answered
  answered-sheet (got s c) h e = (s, admitted s c h, go (applies s) e)
    where
      go : (t : Bool) → pick t (refusal 10) (fits room (answer_words (answer s))) ≡ accepted a → answer_words (answer s) ≡ a
      go true y = absurd (true≢false (sym (ap is_accepted y)))
      go false y = fits-words (answer_words (answer s)) y
  answered-sheet (refused k) h e = absurd (true≢false (sym (ap is_accepted e)))

  -- the sheet of an accepted call, whose answer it is
  pub accepted_sheet : outcome ws workspace room ≡ accepted a → (s : Sheet) × IsSheet ws s × (answer_words (answer s) ≡ a)
  unfolding outcome
  accepted_sheet e = answered-sheet (admit ws workspace) refl e

-- the ends stand at every second word
range_end : (l : List Range) (rest : List ℕ) (x : ℕ) → x < length l → get_or (gather range_words l ++ rest) (2 * x + 1) 0 ≡ (get_or l x no_range).end
range_end [] rest x h = absurd (omega (arith, h))
range_end (r ∷ l) rest zero h = refl
range_end (r ∷ l) rest (suc x) h =
    let p : 2 * suc x + 1 ≡ suc (suc (2 * x + 1)) = omega arith in
    ap (λ (k : ℕ). get_or (r.start ∷ r.end ∷ (gather range_words l ++ rest)) k 0) p ∙ range_end l rest x (omega (arith, h))

module _ (s : Sheet) where
  -- the run's end, taken through the instructions
  abbrev last_end : ℕ → ℕ
  last_end x = each (end_after x) (instructions_of s.blocks) (get_or (after (how s) (build s).mutations (built s)).ends x 0)

  answer_end : (rest : List ℕ) (x : ℕ) → x < length s.identifiers → get_or (answer_words (answer s) ++ rest) (end_at x) 0 ≡ last_end x
  unfolding answer_words before_pass
  answer_end rest x h =
      let p : end_at x ≡ suc (2 * x + 1) = omega arith in
      let more : List ℕ = answer_words (answer s) ++ rest in
      let v : SecondProperty s = second_property s in
      ap (λ (k : ℕ). get_or more k 0) p
      ∙ ap (λ (l : List ℕ). get_or l (2 * x + 1) 0) (append_assoc (gather range_words (answer s).ranges) _ rest)
      ∙ range_end (answer s).ranges _ x (omega (arith, h, answer_ranges s))
      ∙ ap (λ (r : Range). r.end) (v.ranges x h)
      ∙ v.set.which x (v.known x h)
      ∙ ap (λ (l : List ℕ). each (end_after x) (instructions_of s.blocks) (get_or l x 0)) v.before

-- whatever is lent: the ends in the buffer of an accepted call
pub call_ends : (ws : List ℕ) (workspace room : ℕ) (a : List ℕ) → outcome ws workspace room ≡ accepted a → CallEnds ws (answer_after room (outcome ws workspace room))
unfolding answer_after
call_ends ws workspace room a e =
    let w = accepted_sheet ws workspace room a e in
    let s : Sheet = w.0 in
    let rest : List ℕ = replicate (room - length a) 0 in
    record {
      sheet = s;
      read = w.1;
      claim = demand3 s (build s).mutations;
      ends = λ x h. ap (λ (o : Outcome). get_or (answer_after room o) (end_at x) 0) e ∙ ap (λ (l : List ℕ). get_or (l ++ rest) (end_at x) 0) (sym w.2) ∙ answer_end s rest x h;
    }
