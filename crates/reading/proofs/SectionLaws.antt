-- A section of which only the length goes on: its count, if all of its parts are read.
use Prim.Native.Nat.{ℕ, zero, suc}
use mathlib.Core.Path.{◌≡◌, ◌∙◌, refl, sym}
use mathlib.Core.List.{List, ◌∷◌}
use lib.ListN.{length}
use Rattle.model.specs.Lists.{each}
use Rattle.model.specs.Reading.{Position, Result, got, refused, and_then, Read, count, times, counted, times_from}
use Rattle.model.proofs.ReadLaws.{times_length}
use Rattle.reading.specs.Judging.{map_result, telling}
use Rattle.reading.proofs.JudgeLaws.{result_case, got_judged, refused_judged, times_keeps}
use Rattle.reading.specs.Whole.{length_of, skip, passing}

-- parts that are read with a tally of nothing
plain : {A : Type 0} (k : ℕ) (f : Read A) (ws : List ℕ) (d : Position) → times_from k (λ (u : Unit {0}). f) skip tt ws d ≡ times k f ws d
plain k f ws d = times_keeps skip tt (λ a. refl) k (λ (u : Unit {0}). f) ws d

module _ {A : Type 0} (most : ℕ) (f : Read A) (ws : List ℕ) (c : Position) where
  pub section-read : (k : ℕ) (d e : Position) → count most ws c ≡ got k d → passing k f ws d ≡ got tt e →
      length_of (counted most f) ws c ≡ got k e
  unfolding length_of counted
  section-read k d e x y = got_judged (times_from k (λ (u : Unit {0}). f) skip tt) (each skip) tt ws d tt e y (λ l z u. let w = sym (plain k f ws d) ∙ z in rw (x, w, times_length k f ws d l e w))

  pub section_stopped : (k : ℕ) (d : Position) (r : ℕ) → count most ws c ≡ got k d → passing k f ws d ≡ refused r →
      length_of (counted most f) ws c ≡ refused r
  unfolding length_of counted
  section_stopped k d r x y = rw (x, sym (plain k f ws d) ∙ refused_judged (times_from k (λ (u : Unit {0}). f) skip tt) (each skip) tt ws d r y)

  pub count_stopped : (r : ℕ) → count most ws c ≡ refused r → length_of (counted most f) ws c ≡ refused r
  unfolding length_of counted
  count_stopped r x = rw x

-- a part that gives nothing is one of which nothing goes on
pub skipped : (f : Read (Unit {0})) (ws : List ℕ) (c : Position) → f ws c ≡ telling f skip tt ws c
unfolding telling
skipped f ws c = result_case (f ws c) (λ a d e. rw e) (λ n e. rw e)

-- of a section only how many parts it has goes on, whatever they are
module _ {A : Type 0} (f : Read A) (ws : List ℕ) where
  longer : {B : Type 0} (b : B) (x : Result (List B)) → map_result length (and_then x (λ (l : List B) (d : Position). got (b ∷ l) d)) ≡ map_result suc (map_result length x)
  longer b (got l d) = refl
  longer b (refused k) = refl

  times_skipped : (k : ℕ) (c : Position) → map_result length (times k (telling f skip tt) ws c) ≡ map_result length (times k f ws c)
  unfolding times telling
  times_skipped zero c = refl
  times_skipped (suc k) c =
      result_case (f ws c)
      (λ a d e. rw (e, longer tt (times k (telling f skip tt) ws d), longer a (times k f ws d), times_skipped k d))
      (λ n e. rw e)

  pub counted_skipped : (most : ℕ) (c : Position) → length_of (counted most (telling f skip tt)) ws c ≡ length_of (counted most f) ws c
  unfolding length_of counted
  counted_skipped most c = result_case (count most ws c) (λ k d e. rw (e, times_skipped k d)) (λ n e. rw e)
