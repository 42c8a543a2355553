-- What the pass over operands does to ranges: an induction principle. The ranges go from step to step with a value that only instructions change.
use Prim.Native.Nat.{ℕ, ◌-◌}
use mathlib.Core.Path.{◌≡◌, refl, sym, subst}
use mathlib.Core.Bool.{Bool, true, false}
use mathlib.Core.List.{List, [], ◌∷◌, ◌++◌}
use Rattle.model.specs.Lists.{pick, each}
use Rattle.model.specs.Sheet.{InnerFunction, Place, Phi, InstructionValue, Instruction, is_listed, lvalues_of, Block}
use Rattle.model.specs.Operands.{Ranges, Pass, start_if, name_lvalue, name_lvalues, store_value, operand_ranges, instruction_ranges, context_of, phi_starts, phis, first_order, instruction, terminal, block}
use Rattle.model.specs.EndsSet.{instructions_of}
use Rattle.model.proofs.BuiltKeeps.{each_keeps}

module _ {A B : Type 0} where
  pub each_append : (f : A → B → B) (k l : List A) (b : B) → each f (k ++ l) b ≡ each f l (each f k b)
  each_append f [] l b = refl
  each_append f (a ∷ k) l b = each_append f k l (f a b)

module _ (fs : List InnerFunction) where
  -- the statement follows the pass: starts leave the value, an instruction changes it by f
  pub record Follows {A : Type 0} (f : Instruction → A → A) (R : A → Ranges → Type 0) : Type 0 where
    pub start : (o s : ℕ) (p : Place) (a : A) (r : Ranges) → R a r → R a (start_if o s p r)
    pub step : (i : Instruction) (a : A) (r : Ranges) → R a r → R (f i a) (instruction_ranges fs i r)

  module _ {A : Type 0} (f : Instruction → A → A) (R : A → Ranges → Type 0) (k : Follows f R) where
    phis_follow : (o : ℕ) (l : List Phi) (a : A) (p : Pass) → R a p.ranges → R a (phis o l p).ranges
    unfolding phis phi_starts
    phis_follow o l a p h = each_keeps (λ (q : Phi). start_if o (o - 1) q.place) (R a) l p.ranges (λ q m r h. k.start o (o - 1) q.place a r h) h

    instructions_follow : (l : List Instruction) (a : A) (p : Pass) → R a p.ranges → R (each f l a) (each (instruction fs) l p).ranges
    unfolding instruction
    instructions_follow [] a p h = h
    instructions_follow (i ∷ l) a p h = instructions_follow l (f i a) (instruction fs i p) (k.step i a p.ranges h)

    block_follows : (fe : Bool) (b : Block) (a : A) (p : Pass) → R a p.ranges → R (each f b.instructions a) (block fe fs b p).ranges
    unfolding block terminal
    block_follows fe b a p h =
        let o : ℕ = first_order b.instructions b.terminal in
        instructions_follow b.instructions a (phis o b.phis p) (phis_follow o b.phis a p h)

    pub pass_follows : (fe : Bool) (bs : List Block) (a : A) (p : Pass) → R a p.ranges → R (each f (instructions_of bs) a) (each (block fe fs) bs p).ranges
    unfolding instructions_of
    pass_follows fe [] a p h = h
    pass_follows fe (b ∷ bs) a p h =
        subst (λ (c : A). R c (each (block fe fs) bs (block fe fs b p)).ranges) (sym (each_append f b.instructions (instructions_of bs) a))
        (pass_follows fe bs (each f b.instructions a) (block fe fs b p) (block_follows fe b a p h))

-- a statement about ranges alone, kept by each of the three steps
pub record Kept (P : Ranges → Type 0) : Type 0 where
  pub start : (o s : ℕ) (p : Place) (r : Ranges) → P r → P (start_if o s p r)
  pub lvalue : (o : ℕ) (p : Place) (r : Ranges) → P r → P (name_lvalue o p r)
  pub store : (o : ℕ) (v : InstructionValue) (r : Ranges) → P r → P (store_value o v r)

module _ (P : Ranges → Type 0) (k : Kept P) (fs : List InnerFunction) where
  pub instruction_keeps : (i : Instruction) (r : Ranges) → P r → P (instruction_ranges fs i r)
  unfolding instruction_ranges operand_ranges name_lvalues
  instruction_keeps i r h = go (is_listed i)
    where
      named : P (name_lvalues i r)
      named = each_keeps (name_lvalue i.order) P (lvalues_of i) r (λ p m r h. k.lvalue i.order p r h) h

      go : (b : Bool) → P (pick b (operand_ranges fs i (name_lvalues i r)) (name_lvalues i r))
      go true =
          k.store i.order i.value _
          (each_keeps (start_if i.order i.order) P (i.operands ++ context_of fs i.value) (name_lvalues i r) (λ p m r h. k.start i.order i.order p r h) named)
      go false = named

  kept_follows : Follows fs (λ (i : Instruction) (u : Unit {0}). u) (λ (u : Unit {0}). P)
  kept_follows = record {
    start = λ o s p u r h. k.start o s p r h;
    step = λ i u r h. instruction_keeps i r h;
  }

  pub pass_keeps : (fe : Bool) (bs : List Block) (p : Pass) → P p.ranges → P (each (block fe fs) bs p).ranges
  pass_keeps fe bs p h = pass_follows fs (λ (i : Instruction) (u : Unit {0}). u) (λ (u : Unit {0}). P) kept_follows fe bs tt p h
