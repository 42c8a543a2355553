-- The parts of a block, judged: what is left to read once the words so far were read.
use Prim.Native.Nat.{ℕ}
use mathlib.Core.Path.{◌≡◌, ◌∙◌, refl, sym, ap}
use mathlib.Core.Bool.{Bool, true, false}
use mathlib.Core.List.{List, []}
use lib.ListN.{length}
use Rattle.model.specs.Limits.{most_count, most_kind, most_order, most_lvalues, most_operands, no_operands, most_terminal, most_blocks}
use Rattle.model.specs.Lists.{each}
use Rattle.model.specs.Sheet.{Place, EffectKind, Effect, Phi, Instruction, Terminal, BlockId}
use Rattle.model.specs.Reading.{Position, got, refused, ◌>>=◌, pure, Read, count, fixed, at_most, numbered, counted, optional, numbered_from, counted_from}
use Rattle.model.specs.Sections.{place, effect_after, operand, phi, instruction_value}
use Rattle.model.specs.Effects.{kind_of}
use Rattle.model.proofs.SheetAhead.{after_kind}
use Rattle.model.specs.Asking as asking
use Rattle.model.specs.Asking.{effect, effects, instruction, terminal_of, terminal, block, tell_effect, tell_operand, tell_phi, tell_instruction, tell_terminal, tell_block}
use Rattle.hir.proofs.AtLaws.{row_kind, own_row}
use Rattle.reading.specs.Judging.{Told, telling, judge, tell_kind, over_told, Tally, within, standing, count_kind, ask_tally, counting, terminal_effects, blocks_of}
use Rattle.reading.specs.Whole.{length_of, skip, passing_numbered, uses, judged_instruction}
use Rattle.reading.proofs.JudgeLaws.{result_case, judge_got, judge_refused, got_judged, refused_judged, then_got, then_refused, then_made, each_keeps, counted_keeps, numbered_keeps}
use Rattle.reading.proofs.TallyLaws.{standing_within, asked_on, asked_off}

-- a section of phis, and one of instructions
abbrev phis : ℕ → Tally → Read (List Phi)
phis n = counted_from most_count (asking.phi counting n) (tell_phi counting)

abbrev instructions : ℕ → ℕ → Tally → Read (List Instruction)
instructions n m = counted_from most_count (instruction counting n m) (tell_instruction counting)

-- an effect: its kind, the question, the rest
module _ (n m : ℕ) (terminal : Bool) (t : Told) (ws : List ℕ) (c : Position) where
  -- the totals with an effect of this kind
  abbrev kind_told : EffectKind → Told
  kind_told k = tell_kind terminal k t

  -- they are the tally, where none is over its limit
  kind_counted : (k : EffectKind) → over_told (kind_told k) ≡ false → count_kind terminal k (within t) ≡ within (kind_told k)
  unfolding count_kind
  kind_counted k o = standing_within (kind_told k) o

  effect_on_lem : (w : ℕ) (d : Position) → at_most most_kind ws c ≡ got w d → over_told (kind_told (kind_of w)) ≡ false
      → judge (effect counting terminal n m) (tell_effect counting terminal) (within t) ws c ≡ telling (effect_after n m (kind_of w)) (tell_effect counting terminal) (within t) ws d
  unfolding effect count_kind
  effect_on_lem w d e o =
      then_got (at_most most_kind) _ (tell_effect counting terminal) (within t) ws c w d e
      ∙ then_got (ask_tally (standing (kind_told (kind_of w)))) _ (tell_effect counting terminal) (within t) ws d tt d (asked_on (kind_told (kind_of w)) ws d o)

  module _ (w : ℕ) (d : Position) (e : at_most most_kind ws c ≡ got w d) (k : EffectKind) (is : k ≡ kind_of w) where
    pub effect_got : (x : Effect) (f : Position) → over_told (kind_told k) ≡ false → effect_after n m k ws d ≡ got x f
        → judge (effect counting terminal n m) (tell_effect counting terminal) (within t) ws c ≡ got (within (kind_told k)) f
    effect_got x f o r =
        effect_on_lem w d e (ap (λ (j : EffectKind). over_told (kind_told j)) (sym is) ∙ o)
        ∙ ap (λ (j : EffectKind). telling (effect_after n m j) (tell_effect counting terminal) (within t) ws d) (sym is)
        ∙ judge_got (effect_after n m k) (tell_effect counting terminal) (within t) ws d x f r
        ∙ ap (λ (j : EffectKind). got (count_kind terminal j (within t)) f) (after_kind n m k ws d x f r)
        ∙ ap (λ (y : Tally). got y f) (kind_counted k o)

    pub effect_refused : (i : ℕ) → over_told (kind_told k) ≡ false → effect_after n m k ws d ≡ refused i → judge (effect counting terminal n m) (tell_effect counting terminal) (within t) ws c ≡ refused i
    effect_refused i o r =
        effect_on_lem w d e (ap (λ (j : EffectKind). over_told (kind_told j)) (sym is) ∙ o)
        ∙ ap (λ (j : EffectKind). telling (effect_after n m j) (tell_effect counting terminal) (within t) ws d) (sym is)
        ∙ judge_refused (effect_after n m k) (tell_effect counting terminal) (within t) ws d i r

    pub effect_8 : over_told (kind_told k) ≡ true → judge (effect counting terminal n m) (tell_effect counting terminal) (within t) ws c ≡ refused 8
    unfolding effect count_kind
    effect_8 o =
        then_got (at_most most_kind) _ (tell_effect counting terminal) (within t) ws c w d e
        ∙ then_refused (ask_tally (standing (kind_told (kind_of w)))) _ (tell_effect counting terminal) (within t) ws d 8
        (asked_off (kind_told (kind_of w)) ws d (ap (λ (j : EffectKind). over_told (kind_told j)) (sym is) ∙ o))

  pub effect_kind_refused : (k : ℕ) → at_most most_kind ws c ≡ refused k → judge (effect counting terminal n m) (tell_effect counting terminal) (within t) ws c ≡ refused k
  unfolding effect
  effect_kind_refused k e = then_refused (at_most most_kind) _ (tell_effect counting terminal) (within t) ws c k e

-- ---- a phi, of which nothing goes on
module _ (n : ℕ) (ws : List ℕ) (c : Position) where
  pub operand_got : (x : BlockId) (p : Place) (d : Position) → place n ws c ≡ got p d → telling (operand n x) skip tt ws c ≡ got tt d
  unfolding operand telling
  operand_got x p d e = rw e

  pub operand_refused : (x : BlockId) (k : ℕ) → place n ws c ≡ refused k → telling (operand n x) skip tt ws c ≡ refused k
  unfolding operand telling
  operand_refused x k e = rw e

  pub phi_got : (p : Place) (d : Position) (k : ℕ) (e : Position) → place n ws c ≡ got p d → count most_count ws d ≡ got k e → telling (phi n) skip tt ws c ≡ passing_numbered k [] (operand n) ws e
  unfolding phi telling
  phi_got p d k e x y =
      result_case (numbered k [] (operand n) ws e)
      (λ l f z. rw (x, y, z, numbered_keeps skip tt (λ o. refl) k [] (λ (b : BlockId) (u : Unit {0}). operand n b) ws e, z))
      (λ r z. rw (x, y, z, numbered_keeps skip tt (λ o. refl) k [] (λ (b : BlockId) (u : Unit {0}). operand n b) ws e, z))

  pub phi-place_refused : (k : ℕ) → place n ws c ≡ refused k → telling (phi n) skip tt ws c ≡ refused k
  unfolding phi
  phi-place_refused k x = then_refused (place n) _ skip tt ws c k x

  pub phi-count_refused : (p : Place) (d : Position) (k : ℕ) → place n ws c ≡ got p d → count most_count ws d ≡ refused k → telling (phi n) skip tt ws c ≡ refused k
  unfolding phi
  phi-count_refused p d k x y = then_got (place n) _ skip tt ws c p d x ∙ then_refused (count most_count) _ skip tt ws d k y

-- it counts nothing
pub phi_keeps : (t : Tally) (p : Phi) → tell_phi counting p t ≡ t
phi_keeps t p = each_keeps (tell_operand counting) t (λ o. refl) p.operands

-- so phis are read as if nothing was counted before
module _ (n : ℕ) (t : Told) (ws : List ℕ) where
  operands_plain : (k : ℕ) (c : Position) → numbered_from k [] (asking.operand counting n) (tell_operand counting) (within t) ws c ≡ numbered k [] (operand n) ws c
  unfolding asking.operand operand
  operands_plain k c = numbered_keeps (tell_operand counting) (within t) (λ o. refl) k [] (asking.operand counting n) ws c

  phi-plain : (c : Position) → asking.phi counting n (within t) ws c ≡ phi n ws c
  unfolding asking.phi phi
  phi-plain c =
      result_case (place n ws c)
      (λ p d x. result_case (count most_count ws d) (λ k e y. rw (x, y, operands_plain k e)) (λ r y. rw (x, y)))
      (λ r x. rw x)

module _ (n : ℕ) (t : Told) (ws : List ℕ) (c : Position) where
  phis-plain : phis n (within t) ws c ≡ counted most_count (phi n) ws c
  phis-plain =
      counted_keeps (tell_phi counting) (within t) (phi_keeps (within t)) most_count (asking.phi counting n) ws c
      ∙ (λ j. counted most_count (λ (l : List ℕ) (d : Position). phi-plain n t l d j) ws c)

  pub phis_got : (k : ℕ) (d : Position) → length_of (counted most_count (phi n)) ws c ≡ got k d → judge (phis n) (each (tell_phi counting)) (within t) ws c ≡ got (within t) d
  unfolding length_of telling
  phis_got k d q =
      got_judged (counted most_count (phi n)) (λ (l : List Phi) (i : ℕ). length l) 0 ws c k d q
      (λ l x w. judge_got (phis n (within t)) (each (tell_phi counting)) (within t) ws c l d (phis-plain ∙ x) ∙ ap (λ (y : Tally). got y d) (each_keeps (tell_phi counting) (within t) (phi_keeps (within t)) l))

  pub phis_refused : (r : ℕ) → length_of (counted most_count (phi n)) ws c ≡ refused r → judge (phis n) (each (tell_phi counting)) (within t) ws c ≡ refused r
  unfolding length_of telling
  phis_refused r q = judge_refused (phis n (within t)) (each (tell_phi counting)) (within t) ws c r (phis-plain ∙ refused_judged (counted most_count (phi n)) (λ (l : List Phi) (i : ℕ). length l) 0 ws c r q)

-- a block's totals: those of its phis, then of its instructions, then of its terminal
block-told : (n m : ℕ) (x : BlockId) (t u v : Tally) (ws : List ℕ) (c : Position) (ps : List Phi) (is : List Instruction) → each (tell_phi counting) ps t ≡ u →
    each (tell_instruction counting) is u ≡ v →
    telling (terminal counting n m (each (tell_instruction counting) is (each (tell_phi counting) ps t))) (λ (z : Terminal). tell_block counting (record { number = x; phis = ps; instructions = is; terminal = z })) t ws c
    ≡ judge (terminal counting n m) (tell_terminal counting) v ws c
unfolding telling tell_block
block-told n m x t u v ws c ps is g k = rw (g, k)

module _ (n m : ℕ) (t : Tally) (ws : List ℕ) (c : Position) where
  -- an instruction: of its words before the effects nothing goes on
  pub instruction-judged : judge (instruction counting n m) (tell_instruction counting) t ws c ≡ judged_instruction n m t ws c
  unfolding instruction judged_instruction uses length_of telling
  instruction-judged =
      result_case (at_most most_order ws c)
      (λ o d1 e1. result_case (place n ws d1)
      (λ p d2 e2. result_case (counted most_lvalues (place n) ws d2)
      (λ ls d3 e3. result_case (counted most_operands (place n) ws d3)
      (λ ps d4 e4. result_case (instruction_value n m ws d4)
      (λ v d5 e5. result_case (optional (effects counting false n m t) ws d5)
      (λ l d6 e6. rw (e1, e2, e3, e4, e5, e6))
      (λ k e6. rw (e1, e2, e3, e4, e5, e6)))
      (λ k e5. rw (e1, e2, e3, e4, e5)))
      (λ k e4. rw (e1, e2, e3, e4)))
      (λ k e3. rw (e1, e2, e3)))
      (λ k e2. rw (e1, e2)))
      (λ k e1. rw e1)

  pub terminal_kind_refused : (r : ℕ) → at_most most_terminal ws c ≡ refused r → judge (terminal counting n m) (tell_terminal counting) t ws c ≡ refused r
  unfolding terminal
  terminal_kind_refused r x = then_refused (at_most most_terminal) _ (tell_terminal counting) t ws c r x

  pub terminal_order_refused : (k : ℕ) (d : Position) (r : ℕ) → at_most most_terminal ws c ≡ got k d → at_most most_order ws d ≡ refused r →
      judge (terminal counting n m) (tell_terminal counting) t ws c ≡ refused r
  unfolding terminal
  terminal_order_refused k d r x y = then_got (at_most most_terminal) _ (tell_terminal counting) t ws c k d x ∙ then_refused (at_most most_order) _ (tell_terminal counting) t ws d r y

  -- each kind of terminal, after its kind and order
  module _ (o : ℕ) (d e : Position) (y : at_most most_order ws d ≡ got o e) where
    -- what is left to read
    terminal_got : (k : ℕ) → at_most most_terminal ws c ≡ got k d → judge (terminal counting n m) (tell_terminal counting) t ws c ≡ telling (terminal_of counting n m t k o) (tell_terminal counting) t ws e
    unfolding terminal
    terminal_got k x = then_got (at_most most_terminal) _ (tell_terminal counting) t ws c k d x ∙ then_got (at_most most_order) _ (tell_terminal counting) t ws d o e y

    pub other-judged : at_most most_terminal ws c ≡ got 0 d → judge (terminal counting n m) (tell_terminal counting) t ws c ≡ (length_of (counted most_operands (place n)) >>= λ (k : ℕ). pure t) ws e
    unfolding terminal_of length_of telling
    other-judged x = terminal_got 0 x ∙ result_case (counted most_operands (place n) ws e) (λ ps f z. rw z) (λ k z. rw z)

    pub throw_judged : at_most most_terminal ws c ≡ got 2 d → judge (terminal counting n m) (tell_terminal counting) t ws c ≡ terminal_effects n m t ws e
    unfolding terminal_of terminal_effects telling
    throw_judged x =
        terminal_got 2 x
        ∙ result_case (effects counting true n m t ws e)
        (λ l d1 e1. result_case (fixed no_operands ws d1)
        (λ k d2 e2. rw (e1, e2))
        (λ k e2. rw (e1, e2)))
        (λ k e1. rw e1)

  pub block_got : (x : BlockId) (u v : Tally) (d e : Position) → judge (phis n) (each (tell_phi counting)) t ws c ≡ got u d →
      judge (instructions n m) (each (tell_instruction counting)) u ws d ≡ got v e →
      judge (block counting n m x) (tell_block counting) t ws c ≡ judge (terminal counting n m) (tell_terminal counting) v ws e
  unfolding block
  block_got x u v d e p q =
      got_judged (phis n t) (each (tell_phi counting)) t ws c u d p
      (λ ps f g. got_judged (instructions n m u) (each (tell_instruction counting)) u ws d v e q
      (λ is h k. then_got (phis n t) _ (tell_block counting) t ws c ps d f
      ∙ then_got (instructions n m (each (tell_phi counting) ps t)) _ (tell_block counting) t ws d is e (rw g h)
      ∙ then_made (terminal counting n m (each (tell_instruction counting) is (each (tell_phi counting) ps t))) (λ (z : Terminal). record { number = x; phis = ps; instructions = is; terminal = z }) (tell_block counting) t ws e
      ∙ block-told n m x t u v ws e ps is g k))

  pub block-phis_refused : (x : BlockId) (r : ℕ) → judge (phis n) (each (tell_phi counting)) t ws c ≡ refused r → judge (block counting n m x) (tell_block counting) t ws c ≡ refused r
  unfolding block
  block-phis_refused x r p = then_refused (phis n t) _ (tell_block counting) t ws c r (refused_judged (phis n t) (each (tell_phi counting)) t ws c r p)

  pub block_instructions_refused : (x : BlockId) (u : Tally) (d : Position) (r : ℕ) → judge (phis n) (each (tell_phi counting)) t ws c ≡ got u d →
      judge (instructions n m) (each (tell_instruction counting)) u ws d ≡ refused r → judge (block counting n m x) (tell_block counting) t ws c ≡ refused r
  unfolding block
  block_instructions_refused x u d r p q =
      got_judged (phis n t) (each (tell_phi counting)) t ws c u d p
      (λ ps f g. then_got (phis n t) _ (tell_block counting) t ws c ps d f
      ∙ then_refused (instructions n m (each (tell_phi counting) ps t)) _ (tell_block counting) t ws d r
      (rw g (refused_judged (instructions n m u) (each (tell_instruction counting)) u ws d r q)))

  -- the blocks after their count
  pub blocks_got : (k : ℕ) (d : Position) → count most_blocks ws c ≡ got k d →
      judge (blocks_of n m) (each (tell_block counting)) t ws c ≡ judge (numbered_from k [] (block counting n m) (tell_block counting)) (each (tell_block counting)) t ws d
  unfolding blocks_of
  blocks_got k d x = then_got (count most_blocks) (λ (k : ℕ). numbered_from k [] (block counting n m) (tell_block counting) t) (each (tell_block counting)) t ws c k d x

  pub blocks_refused : (r : ℕ) → count most_blocks ws c ≡ refused r → judge (blocks_of n m) (each (tell_block counting)) t ws c ≡ refused r
  unfolding blocks_of
  blocks_refused r x = then_refused (count most_blocks) (λ (k : ℕ). numbered_from k [] (block counting n m) (tell_block counting) t) (each (tell_block counting)) t ws c r x

-- a Return: its value counts nothing
pub return_judged : (n m : ℕ) (t : Told) (ws : List ℕ) (c : Position) (o : ℕ) (d e : Position) → at_most most_order ws d ≡ got o e → at_most most_terminal ws c ≡ got 1 d →
    judge (terminal counting n m) (tell_terminal counting) (within t) ws c ≡ (place n >>= λ (p : Place). terminal_effects n m (within t)) ws e
unfolding terminal_of terminal_effects telling place
return_judged n m t ws c o d e y x =
    terminal_got n m (within t) ws c o d e y 1 x
    ∙ result_case (place n ws e)
    (λ p d1 e1. result_case (effects counting true n m (within t) ws d1)
    (λ l d2 e2. result_case (fixed no_operands ws d2)
    (λ k d3 e3. rw (e1, e2, e3))
    (λ k e3. rw (e1, e2, e3)))
    (λ k e2. rw (e1, e2)))
    (λ k e1. rw e1)

-- ---- the laws that each function of `blocks` and `phis` stands on
pub ruleset effect_laws = (row_kind, own_row, effect_got, effect_refused, effect_8, effect_kind_refused)

pub ruleset terminal_laws = (terminal_kind_refused, terminal_order_refused, other-judged, return_judged, throw_judged)

pub ruleset block_laws = (phis_got, phis_refused, block_got, block-phis_refused, block_instructions_refused)

pub ruleset phi_laws = (phi_got, phi-place_refused, phi-count_refused)

pub ruleset instruction_laws = (instruction-judged)
