-- Each identifier's end goes its own way through the pass; starts move only from 0; no list changes its length.
use Prim.Native.Nat.{ℕ, zero, suc, ◌<◌}
use native.Mathlib.Omega.{arith}
use mathlib.Core.Path.{◌≡◌, refl, sym, ap, ◌∙◌, subst}
use mathlib.Core.Bool.{Bool, true, false, ◌||◌, ◌&&◌}
use mathlib.Core.List.{List, [], ◌∷◌, ◌++◌, map}
use lib.ListN.{length, get_or, set, length-set}
use lib.Seq.{get_or-set_same, get_or-set_other}
use lib.Dec.{eqb}
use borrow.Author.Tests.{eqb-true, eqb-false}
use Rattle.model.specs.Lists.{pick, each, among}
use Rattle.model.specs.Sheet.{InnerFunction, Place, InstructionValue, Plain, Function, StoreContext, Instruction, is_listed, lvalues_of, Block}
use Rattle.model.specs.Operands.{Ranges, Pass, or_if_unset, set_unset, ends_after, start_if, name_lvalue, end_past, store_value, name_lvalues, context_of, operand_ranges, instruction_ranges, block}
use Rattle.model.specs.EndsSet.{instructions_of, is_lvalue, is_stored, stores, lvalue_end, store_end, end_after, end_of, start_of}
use Rattle.model.proofs.BuiltKeeps.{each_keeps}
use Rattle.model.proofs.PassRanges.{Follows, pass_follows, Kept, pass_keeps}

-- one entry, after an entry was changed by g
changed_at : (g : ℕ → ℕ) (l : List ℕ) (y x : ℕ) → x < length l → get_or (set l y (g (get_or l y 0))) x 0 ≡ pick (eqb x y) (g (get_or l x 0)) (get_or l x 0)
changed_at g l y x h = go (eqb x y) refl
  where
    go : (b : Bool) → eqb x y ≡ b → get_or (set l y (g (get_or l y 0))) x 0 ≡ pick b (g (get_or l x 0)) (get_or l x 0)
    go true e = subst (λ (z : ℕ). get_or (set l z (g (get_or l z 0))) x 0 ≡ g (get_or l x 0)) (eqb-true x y e) (get_or-set_same l x (g (get_or l x 0)) 0 h)
    go false e = get_or-set_other l y x (g (get_or l y 0)) 0 (eqb-false x y e)

lvalue_pick : (b : Bool) (o e : ℕ) → pick b (or_if_unset e (suc o)) e ≡ lvalue_end b o e
lvalue_pick true o e = refl
lvalue_pick false o e = refl

store_pick : (b : Bool) (o e : ℕ) → pick b (end_past o e) e ≡ store_end b o e
store_pick true o e = refl
store_pick false o e = refl

-- an lvalue that stands twice is as one
lvalue_or : (a b : Bool) (o e : ℕ) → lvalue_end (a || b) o e ≡ lvalue_end b o (lvalue_end a o e)
lvalue_or true true o zero = refl
lvalue_or true true o (suc e) = refl
lvalue_or true false o e = refl
lvalue_or false b o e = refl

module _ (x : ℕ) where
  -- x has a range, and its end is e
  abbrev Has : ℕ → Ranges → Type 0
  Has e r = (x < length r.ends) × (get_or r.ends x 0 ≡ e)

  start_has : (o s : ℕ) (p : Place) (e : ℕ) (r : Ranges) → Has e r → Has e (start_if o s p r)
  unfolding start_if
  start_has o s p e r h = h

  lvalue_has : (o : ℕ) (p : Place) (e : ℕ) (r : Ranges) → Has e r → Has (lvalue_end (eqb x p.identifier) o e) (name_lvalue o p r)
  unfolding name_lvalue set_unset
  lvalue_has o p e r h = (
    subst (λ (n : ℕ). x < n) (sym (length-set r.ends p.identifier (or_if_unset (get_or r.ends p.identifier 0) (suc o)))) h.0,
    changed_at (λ (n : ℕ). or_if_unset n (suc o)) r.ends p.identifier x h.0
        ∙ lvalue_pick (eqb x p.identifier) o (get_or r.ends x 0)
        ∙ ap (λ (n : ℕ). lvalue_end (eqb x p.identifier) o n) h.1,
  )

  lvalues_has : (o : ℕ) (l : List Place) (e : ℕ) (r : Ranges) → Has e r → Has (lvalue_end (among x (map (λ (p : Place). p.identifier) l)) o e) (each (name_lvalue o) l r)
  lvalues_has o [] e r h = h
  lvalues_has o (p ∷ l) e r h =
      subst (λ (n : ℕ). Has n (each (name_lvalue o) l (name_lvalue o p r)))
      (sym (lvalue_or (eqb x p.identifier) (among x (map (λ (p : Place). p.identifier) l)) o e))
      (lvalues_has o l (lvalue_end (eqb x p.identifier) o e) (name_lvalue o p r) (lvalue_has o p e r h))

  store_has : (o : ℕ) (v : InstructionValue) (e : ℕ) (r : Ranges) → Has e r → Has (store_end (is_stored x v) o e) (store_value o v r)
  unfolding store_value
  store_has o Plain e r h = h
  store_has o (Function k) e r h = h
  store_has o (StoreContext y) e r h = (
    subst (λ (n : ℕ). x < n) (sym (length-set r.ends y (end_past o (get_or r.ends y 0)))) h.0,
    changed_at (λ (n : ℕ). end_past o n) r.ends y x h.0
        ∙ store_pick (eqb x y) o (get_or r.ends x 0)
        ∙ ap (λ (n : ℕ). store_end (eqb x y) o n) h.1,
  )

  named_has : (i : Instruction) (e : ℕ) (r : Ranges) → Has e r → Has (lvalue_end (is_lvalue x i) i.order e) (name_lvalues i r)
  unfolding name_lvalues is_lvalue
  named_has i e r h = lvalues_has i.order (lvalues_of i) e r h

  step_has : (fs : List InnerFunction) (i : Instruction) (e : ℕ) (r : Ranges) → Has e r → Has (end_after x i e) (instruction_ranges fs i r)
  unfolding end_after stores instruction_ranges operand_ranges
  step_has fs i e r h = go (is_listed i)
    where
      d : ℕ
      d = lvalue_end (is_lvalue x i) i.order e

      named : Ranges
      named = name_lvalues i r

      go : (b : Bool) → Has (store_end (b && is_stored x i.value) i.order d) (pick b (operand_ranges fs i named) named)
      go true =
          store_has i.order i.value d (each (start_if i.order i.order) (i.operands ++ context_of fs i.value) named)
          (each_keeps (start_if i.order i.order) (Has d) (i.operands ++ context_of fs i.value) named (λ p m r h. start_has i.order i.order p d r h) (named_has i e r h))
      go false = named_has i e r h

  end_follows : (fs : List InnerFunction) → Follows fs (end_after x) Has
  end_follows fs = record { start = start_has; step = step_has fs }

  -- the end after the pass is the end before it, taken through the instructions
  pub end_alone : (fe : Bool) (fs : List InnerFunction) (bs : List Block) (p : Pass) → x < length p.ranges.ends → end_of (each (block fe fs) bs p).ranges x ≡ each (end_after x) (instructions_of bs) (end_of p.ranges x)
  end_alone fe fs bs p h = (pass_follows fs (end_after x) Has (end_follows fs) fe bs (end_of p.ranges x) p (h, refl)).1

-- as many ranges as before
module _ (n m : ℕ) where
  abbrev Long : Ranges → Type 0
  Long r = (length r.starts ≡ n) × (length r.ends ≡ m)

  length-unset : (y o : ℕ) (l : List ℕ) → length (set_unset y o l) ≡ length l
  unfolding set_unset
  length-unset y o l = length-set l y (or_if_unset (get_or l y 0) o)

  length_pick : (b : Bool) (y o : ℕ) (l : List ℕ) → length (pick b (set_unset y o l) l) ≡ length l
  length_pick true y o l = length-unset y o l
  length_pick false y o l = refl

  store_long : (o : ℕ) (v : InstructionValue) (r : Ranges) → Long r → Long (store_value o v r)
  unfolding store_value
  store_long o Plain r h = h
  store_long o (Function k) r h = h
  store_long o (StoreContext y) r h = (h.0, length-set r.ends y (end_past o (get_or r.ends y 0)) ∙ h.1)

  long_kept : Kept Long
  unfolding start_if name_lvalue
  long_kept = record {
    start = λ o s p r h. (length_pick (ends_after r o p.identifier) p.identifier s r.starts ∙ h.0, h.1);
    lvalue = λ o p r h. (length-unset p.identifier o r.starts ∙ h.0, length-unset p.identifier (suc o) r.ends ∙ h.1);
    store = store_long;
  }

pub pass_long : (fe : Bool) (fs : List InnerFunction) (bs : List Block) (p : Pass) → Long (length p.ranges.starts) (length p.ranges.ends) (each (block fe fs) bs p).ranges
pass_long fe fs bs p = pass_keeps _ (long_kept (length p.ranges.starts) (length p.ranges.ends)) fs fe bs p (refl, refl)

-- a start that is set stays
module _ (x s : ℕ) where
  abbrev Begins : Ranges → Type 0
  Begins r = get_or r.starts x 0 ≡ suc s

  unset_begins : (y o : ℕ) (l : List ℕ) → get_or l x 0 ≡ suc s → get_or (set_unset y o l) x 0 ≡ suc s
  unfolding set_unset
  unset_begins y o l h = go (eqb x y) refl
    where
      inside : (l : List ℕ) (x : ℕ) → get_or l x 0 ≡ suc s → x < length l
      inside [] x h = absurd (omega (arith, h))
      inside (a ∷ l) zero h = omega arith
      inside (a ∷ l) (suc x) h = let k : x < length l = inside l x h in omega (arith, k)

      kept : (e : ℕ) → e ≡ suc s → or_if_unset e o ≡ suc s
      kept zero p = absurd (omega (arith, p))
      kept (suc e) p = p

      go : (b : Bool) → eqb x y ≡ b → get_or (set l y (or_if_unset (get_or l y 0) o)) x 0 ≡ suc s
      go true e = subst (λ (z : ℕ). get_or (set l z (or_if_unset (get_or l z 0) o)) x 0 ≡ suc s) (eqb-true x y e) (get_or-set_same l x (or_if_unset (get_or l x 0) o) 0 (inside l x h) ∙ kept (get_or l x 0) h)
      go false e = get_or-set_other l y x (or_if_unset (get_or l y 0) o) 0 (eqb-false x y e) ∙ h

  pick_begins : (b : Bool) (y o : ℕ) (l : List ℕ) → get_or l x 0 ≡ suc s → get_or (pick b (set_unset y o l) l) x 0 ≡ suc s
  pick_begins true y o l h = unset_begins y o l h
  pick_begins false y o l h = h

  store_begins : (o : ℕ) (v : InstructionValue) (r : Ranges) → Begins r → Begins (store_value o v r)
  unfolding store_value
  store_begins o Plain r h = h
  store_begins o (Function k) r h = h
  store_begins o (StoreContext y) r h = h

  begins_kept : Kept Begins
  unfolding start_if name_lvalue
  begins_kept = record {
    start = λ o t p r h. pick_begins (ends_after r o p.identifier) p.identifier t r.starts h;
    lvalue = λ o p r h. unset_begins p.identifier o r.starts h;
    store = store_begins;
  }

  pub pass_begins : (fe : Bool) (fs : List InnerFunction) (bs : List Block) (p : Pass) → start_of p.ranges x ≡ suc s → start_of (each (block fe fs) bs p).ranges x ≡ suc s
  pass_begins fe fs bs p h = pass_keeps Begins begins_kept fs fe bs p h
