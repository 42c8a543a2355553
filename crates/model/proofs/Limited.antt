-- Totals within their limits, and over one of them.
use Prim.Native.Nat.{◌≤◌}
use native.Mathlib.Omega.{arith}
use mathlib.Core.Path.{◌≡◌, refl, sym, ◌∙◌}
use mathlib.Core.Bool.{Bool, true, false, false≢true}
use lib.Dec.{ltb}
use borrow.Author.Tests.{ltb-false, le-ltb}
use Rattle.model.specs.Limits.{most_mutations, most_renders}
use Rattle.model.specs.Totals.{Totals, over}
use Rattle.model.specs.Counting.{no_totals}
use Rattle.model.proofs.Either.{or_left, or_right}

pub not-over : (t : Totals) → over t ≡ false → (t.mutations ≤ most_mutations) × (t.renders ≤ most_renders)
unfolding over
not-over t h =
    let b : Bool = ltb most_mutations t.mutations in
    let c : Bool = ltb most_renders t.renders in
    (ltb-false _ _ (or_left b c h), ltb-false _ _ (or_right b c h))

-- and the other way
pub few_not-over : (t : Totals) → t.mutations ≤ most_mutations → t.renders ≤ most_renders → over t ≡ false
unfolding over
few_not-over t m k = rw (le-ltb most_mutations t.mutations m, le-ltb most_renders t.renders k)

-- none is lower
pub record Above (t u : Totals) : Type 0 where
  pub relations : t.relations ≤ u.relations
  pub mutations : t.mutations ≤ u.mutations
  pub renders : t.renders ≤ u.renders

-- a limit that nothing passes at first; what is over it stays so
pub record Limit (over : Totals → Bool) : Type 0 where
  pub none : over no_totals ≡ false
  pub stays : (t u : Totals) → Above t u → over t ≡ true → over u ≡ true

over_above : (t u : Totals) → Above t u → over t ≡ true → over u ≡ true
over_above t u h o = go (over u) refl
  where
    go : (b : Bool) → over u ≡ b → over u ≡ true
    go true e = e
    go false e =
        let l = not-over u e in
        absurd (false≢true (sym (few_not-over t (omega (arith, h.mutations, l.0)) (omega (arith, h.renders, l.1))) ∙ o))

-- refusal 8's, of mutations and renders
pub over_limit : Limit over
over_limit = record { none = few_not-over no_totals (omega arith) (omega arith); stays = over_above }
