-- The parts of a sheet, read with two kinds of questions side by side.
use Prim.Native.Nat.{ℕ, zero, suc}
use mathlib.Core.Path.{◌≡◌, refl, sym, subst}
use mathlib.Core.Bool.{Bool, true, false}
use mathlib.Core.List.{List, []}
use mathlib.Core.Option.{Option, none}
use lib.ListN.{length}
use lib.Dec.{leb}
use Rattle.model.specs.Limits.{most_identifiers, most_functions, most_params, most_context, returns_count, most_blocks, most_count, most_order, most_lvalues, most_operands, no_operands, most_terminal, most_kind}
use Rattle.model.specs.Lists.{pick, each}
use Rattle.model.specs.Sheet.{BlockId, Place, EffectKind, Effect, EffectList, present, Operand, Phi, Instruction, Terminal, Other, Return, MaybeThrow, Block, InnerFunction, Sheet}
use Rattle.model.specs.Effects.{kind_of, row_of}
use Rattle.model.specs.Reading.{Position, got, refused, Read, ◌>>=◌, pure, count, fixed, at_most, below, counted, optional, numbered_from, counted_from}
use Rattle.model.specs.Sections.{flags, identifier, place, unused, extra, place_asking, effect_after, instruction_value, sheet_of}
use Rattle.model.specs.Asking.{Asks, tell_effect, tell_operand, tell_phi, tell_instruction, tell_terminal, tell_block}
use Rattle.model.specs.Asking as asking
use Rattle.model.proofs.ReadLaws.{Reads, pure_reads, then_reads}
use Rattle.model.proofs.Ahead.{Ahead, neither, stopped, then_ahead, bind_ahead, pure_ahead, alike, optional_ahead, worse_each, counted_ahead, numbered_ahead}

-- an effect after its kind has that kind
pub after_kind : (n m : ℕ) (k : EffectKind) → Reads (effect_after n m k) (λ (e : Effect). e.kind ≡ k)
after_kind n m k =
    then_reads (pick (leb 1 (row_of k).places) (place n) (unused 0)) _ _
    (λ p. then_reads (pick (leb 2 (row_of k).places) (place n) (unused (row_of k).instance)) _ _
    (λ q. then_reads (extra m k) _ _ (λ x. pure_reads _ (λ (e : Effect). e.kind ≡ k) refl)))

-- ---- the parts of a sheet, read with two kinds of questions
module _ (a b : Asks) (May : Type 0) (R : a.Tally → b.Tally → Type 0) (Bad : b.Tally → Type 0) where
  -- what is asked at a counted word, with that word counted: both go on, both are refused with 8, or only the first is, and the second's tally is bad
  pub data Asked (t : a.Tally) (u : b.Tally) : Type 0 where
    on : ((ws : List ℕ) (c : Position) → a.ask t ws c ≡ got tt c) → ((ws : List ℕ) (c : Position) → b.ask u ws c ≡ got tt c) → R t u → Asked t u
    off : ((ws : List ℕ) (c : Position) → a.ask t ws c ≡ refused 8) → ((ws : List ℕ) (c : Position) → b.ask u ws c ≡ refused 8) → Asked t u
    apart : May → ((ws : List ℕ) (c : Position) → a.ask t ws c ≡ refused 8) → Bad u → Asked t u

  -- what each count asks; a bad tally stays bad
  pub record Related : Type 0 where
    pub effect : (terminal : Bool) (k : EffectKind) (t : a.Tally) (u : b.Tally) → R t u → Asked (a.effect terminal k t) (b.effect terminal k u)
    pub relation : (t : a.Tally) (u : b.Tally) → R t u → Asked (a.relation t) (b.relation u)
    pub worse_effect : (terminal : Bool) (k : EffectKind) (u : b.Tally) → Bad u → Bad (b.effect terminal k u)
    pub worse_relation : (u : b.Tally) → Bad u → Bad (b.relation u)

  module _ (h : Related) where
    -- a question, and then what both read alike
    ask_ahead : {A : Type 0} {t : a.Tally} {u : b.Tally} → Asked t u → (f : Read A) (p : A → a.Tally) (q : A → b.Tally)
        → (R t u → Reads f (λ (v : A). R (p v) (q v))) → (Bad u → Reads f (λ (v : A). Bad (q v))) → Ahead May R Bad p q (a.ask t >>= λ (i : Unit {0}). f) (b.ask u >>= λ (i : Unit {0}). f)
    ask_ahead (on x y r) f p q k l ws c = rw (x ws c, y ws c) (alike May R Bad f p q (k r) ws c)
    ask_ahead (off x y) f p q k l ws c = neither 8 (rw (x ws c)) (rw (y ws c))
    ask_ahead {u = u} (apart m x w) f p q k l ws c = stopped m (rw (x ws c)) (then_reads (b.ask u) (λ (i : Unit {0}). f) _ (λ i. l w) ws c)

    effect_ahead : (terminal : Bool) (n m : ℕ) (t : a.Tally) (u : b.Tally) → R t u
        → Ahead May R Bad (λ (e : Effect). tell_effect a terminal e t) (λ (e : Effect). tell_effect b terminal e u) (asking.effect a terminal n m t) (asking.effect b terminal n m u)
    unfolding asking.effect
    effect_ahead terminal n m t u r =
        then_ahead May R Bad (at_most most_kind) _ _ _ _
        (λ w. ask_ahead (h.effect terminal (kind_of w) t u r) _ _ _
        (λ s ws c v d e. subst (λ (k : EffectKind). R (a.effect terminal k t) (b.effect terminal k u)) (sym (after_kind n m (kind_of w) ws c v d e)) s)
        (λ s ws c v d e. subst (λ (k : EffectKind). Bad (b.effect terminal k u)) (sym (after_kind n m (kind_of w) ws c v d e)) s))

    effects_ahead : (terminal : Bool) (n m : ℕ) (t : a.Tally) (u : b.Tally) → R t u
        → Ahead May R Bad (λ (l : EffectList). each (tell_effect a terminal) l t) (λ (l : EffectList). each (tell_effect b terminal) l u) (asking.effects a terminal n m t) (asking.effects b terminal n m u)
    unfolding asking.effects
    effects_ahead terminal n m =
        counted_ahead May R Bad (tell_effect a terminal) (tell_effect b terminal) (λ e u s. h.worse_effect terminal e.kind u s) (asking.effect a terminal n m) (asking.effect b terminal n m) (effect_ahead terminal n m) most_count

    worse_effects : (terminal : Bool) (l : EffectList) (u : b.Tally) → Bad u → Bad (each (tell_effect b terminal) l u)
    worse_effects terminal = worse_each May R Bad (tell_effect b terminal) (λ e u s. h.worse_effect terminal e.kind u s)

    operand_ahead : (n : ℕ) (x : BlockId) (t : a.Tally) (u : b.Tally) → R t u
        → Ahead May R Bad (λ (o : Operand). tell_operand a o t) (λ (o : Operand). tell_operand b o u) (asking.operand a n x t) (asking.operand b n x u)
    unfolding asking.operand
    operand_ahead n x t u r = ask_ahead (h.relation t u r) _ _ _ (λ s ws c v d e. s) (λ s ws c v d e. s)

    phi_ahead : (n : ℕ) (t : a.Tally) (u : b.Tally) → R t u → Ahead May R Bad (λ (p : Phi). tell_phi a p t) (λ (p : Phi). tell_phi b p u) (asking.phi a n t) (asking.phi b n u)
    unfolding asking.phi
    phi_ahead n t u r =
        then_ahead May R Bad (place n) _ _ _ _
        (λ p. then_ahead May R Bad (count most_count) _ _ _ _
        (λ k. bind_ahead May R Bad (numbered_from k [] (asking.operand a n) (tell_operand a) t) (numbered_from k [] (asking.operand b n) (tell_operand b) u) _ _
        (λ (l : List Operand). each (tell_operand a) l t) (λ (l : List Operand). each (tell_operand b) l u) _ _
        (numbered_ahead May R Bad (tell_operand a) (tell_operand b) (λ o u s. h.worse_relation u s) (asking.operand a n) (asking.operand b n) (operand_ahead n) k [] t u r)
        (λ l s. pure_ahead May R Bad (record { place = p; operands = l }) _ _ s) (λ l s. pure_reads (record { place = p; operands = l }) _ s)))

    worse_phi : (p : Phi) (u : b.Tally) → Bad u → Bad (tell_phi b p u)
    worse_phi p = worse_each May R Bad (tell_operand b) (λ o u s. h.worse_relation u s) p.operands

    instruction_ahead : (n m : ℕ) (t : a.Tally) (u : b.Tally) → R t u
        → Ahead May R Bad (λ (i : Instruction). tell_instruction a i t) (λ (i : Instruction). tell_instruction b i u) (asking.instruction a n m t) (asking.instruction b n m u)
    unfolding asking.instruction
    instruction_ahead n m t u r =
        then_ahead May R Bad (at_most most_order) _ _ _ _
        (λ o. then_ahead May R Bad (place n) _ _ _ _
        (λ p. then_ahead May R Bad (counted most_lvalues (place n)) _ _ _ _
        (λ ls. then_ahead May R Bad (counted most_operands (place n)) _ _ _ _
        (λ ps. then_ahead May R Bad (instruction_value n m) _ _ _ _
        (λ v. bind_ahead May R Bad (optional (asking.effects a false n m t)) (optional (asking.effects b false n m u)) _ _
        (λ (l : Option EffectList). each (tell_effect a false) (present l) t) (λ (l : Option EffectList). each (tell_effect b false) (present l) u) _ _
        (optional_ahead May R Bad (asking.effects a false n m t) (asking.effects b false n m u) _ _ r (effects_ahead false n m t u r))
        (λ l s. pure_ahead May R Bad (record { order = o; lvalue = p; value_lvalues = ls; operands = ps; value = v; effects = l }) _ _ s)
        (λ l s. pure_reads (record { order = o; lvalue = p; value_lvalues = ls; operands = ps; value = v; effects = l }) _ s))))))

    worse_instruction : (i : Instruction) (u : b.Tally) → Bad u → Bad (tell_instruction b i u)
    worse_instruction i = worse_effects false (present i.effects)

    -- the effects of a terminal, and the count of operands behind them
    last_ahead : {A : Type 0} (n m : ℕ) (f : EffectList → A) (p : A → a.Tally) (q : A → b.Tally) (t : a.Tally) (u : b.Tally) → R t u
        → ((l : EffectList) → R (each (tell_effect a true) l t) (each (tell_effect b true) l u) → R (p (f l)) (q (f l))) → ((l : EffectList) → Bad (each (tell_effect b true) l u) → Bad (q (f l)))
        → Ahead May R Bad p q (asking.effects a true n m t >>= λ (l : EffectList). fixed no_operands >>= λ (k : ℕ). pure (f l)) (asking.effects b true n m u >>= λ (l : EffectList). fixed no_operands >>= λ (k : ℕ). pure (f l))
    last_ahead n m f p q t u r x y =
        bind_ahead May R Bad (asking.effects a true n m t) (asking.effects b true n m u) _ _
        (λ (l : EffectList). each (tell_effect a true) l t) (λ (l : EffectList). each (tell_effect b true) l u) p q (effects_ahead true n m t u r)
        (λ l s. then_ahead May R Bad (fixed no_operands) _ _ _ _ (λ k. pure_ahead May R Bad (f l) p q (x l s)))
        (λ l s. then_reads (fixed no_operands) _ _ (λ k. pure_reads (f l) _ (y l s)))

    -- a Return value: asked after its first word
    value_ahead : (n : ℕ) (t : a.Tally) (u : b.Tally) → R t u
        → Ahead May R Bad (λ (p : Place). a.relation t) (λ (p : Place). b.relation u) (place_asking (a.ask (a.relation t)) n) (place_asking (b.ask (b.relation u)) n)
    value_ahead n t u r = then_ahead May R Bad (below n) _ _ _ _ (λ i. ask_ahead (h.relation t u r) _ _ _ (λ s ws c v d e. s) (λ s ws c v d e. s))

    terminal_of_ahead : (n m k o : ℕ) (t : a.Tally) (u : b.Tally) → R t u
        → Ahead May R Bad (λ (z : Terminal). tell_terminal a z t) (λ (z : Terminal). tell_terminal b z u) (asking.terminal_of a n m t k o) (asking.terminal_of b n m u k o)
    unfolding asking.terminal_of
    terminal_of_ahead n m zero o t u r = then_ahead May R Bad (counted most_operands (place n)) _ _ _ _ (λ ps. pure_ahead May R Bad (Other o ps) _ _ r)
    terminal_of_ahead n m (suc zero) o t u r =
        bind_ahead May R Bad (place_asking (a.ask (a.relation t)) n) (place_asking (b.ask (b.relation u)) n) _ _ (λ (p : Place). a.relation t) (λ (p : Place). b.relation u) _ _ (value_ahead n t u r)
        (λ p s. last_ahead n m (λ (l : EffectList). Return o p l) _ _ (a.relation t) (b.relation u) s (λ l x. x) (λ l x. x))
        (λ p s. then_reads (asking.effects b true n m (b.relation u)) _ _ (λ l. then_reads (fixed no_operands) _ _ (λ k. pure_reads (Return o p l) _ (worse_effects true l (b.relation u) s))))
    terminal_of_ahead n m (suc (suc k)) o t u r = last_ahead n m (λ (l : EffectList). MaybeThrow o l) _ _ t u r (λ l x. x) (λ l x. x)

    terminal_ahead : (n m : ℕ) (t : a.Tally) (u : b.Tally) → R t u
        → Ahead May R Bad (λ (z : Terminal). tell_terminal a z t) (λ (z : Terminal). tell_terminal b z u) (asking.terminal a n m t) (asking.terminal b n m u)
    unfolding asking.terminal
    terminal_ahead n m t u r =
        then_ahead May R Bad (at_most most_terminal) _ _ _ _ (λ k. then_ahead May R Bad (at_most most_order) _ _ _ _ (λ o. terminal_of_ahead n m k o t u r))

    worse_terminal : (z : Terminal) (u : b.Tally) → Bad u → Bad (tell_terminal b z u)
    worse_terminal (Other o ps) u s = s
    worse_terminal (Return o p l) u s = worse_effects true l (b.relation u) (h.worse_relation u s)
    worse_terminal (MaybeThrow o l) u s = worse_effects true l u s

    worse_phis : (l : List Phi) (u : b.Tally) → Bad u → Bad (each (tell_phi b) l u)
    worse_phis = worse_each May R Bad (tell_phi b) worse_phi

    worse_instructions : (l : List Instruction) (u : b.Tally) → Bad u → Bad (each (tell_instruction b) l u)
    worse_instructions = worse_each May R Bad (tell_instruction b) worse_instruction

    block_ahead : (n m : ℕ) (x : BlockId) (t : a.Tally) (u : b.Tally) → R t u → Ahead May R Bad (λ (k : Block). tell_block a k t) (λ (k : Block). tell_block b k u) (asking.block a n m x t) (asking.block b n m x u)
    unfolding asking.block tell_block
    block_ahead n m x t u r =
        bind_ahead May R Bad (counted_from most_count (asking.phi a n) (tell_phi a) t) (counted_from most_count (asking.phi b n) (tell_phi b) u) _ _
        (λ (l : List Phi). each (tell_phi a) l t) (λ (l : List Phi). each (tell_phi b) l u) _ _
        (counted_ahead May R Bad (tell_phi a) (tell_phi b) worse_phi (asking.phi a n) (asking.phi b n) (phi_ahead n) most_count t u r)
        (λ ps s. bind_ahead May R Bad (counted_from most_count (asking.instruction a n m) (tell_instruction a) (each (tell_phi a) ps t)) (counted_from most_count (asking.instruction b n m) (tell_instruction b) (each (tell_phi b) ps u)) _ _
        (λ (l : List Instruction). each (tell_instruction a) l (each (tell_phi a) ps t)) (λ (l : List Instruction). each (tell_instruction b) l (each (tell_phi b) ps u)) _ _
        (counted_ahead May R Bad (tell_instruction a) (tell_instruction b) worse_instruction (asking.instruction a n m) (asking.instruction b n m) (instruction_ahead n m) most_count (each (tell_phi a) ps t) (each (tell_phi b) ps u) s)
        (λ is v. bind_ahead May R Bad (asking.terminal a n m (each (tell_instruction a) is (each (tell_phi a) ps t))) (asking.terminal b n m (each (tell_instruction b) is (each (tell_phi b) ps u))) _ _
        (λ (z : Terminal). tell_terminal a z (each (tell_instruction a) is (each (tell_phi a) ps t))) (λ (z : Terminal). tell_terminal b z (each (tell_instruction b) is (each (tell_phi b) ps u))) _ _
        (terminal_ahead n m (each (tell_instruction a) is (each (tell_phi a) ps t)) (each (tell_instruction b) is (each (tell_phi b) ps u)) v)
        (λ z w. pure_ahead May R Bad (record { number = x; phis = ps; instructions = is; terminal = z }) _ _ w)
        (λ z w. pure_reads (record { number = x; phis = ps; instructions = is; terminal = z }) _ w))
        (λ is v. then_reads (asking.terminal b n m (each (tell_instruction b) is (each (tell_phi b) ps u))) _ _
        (λ z. pure_reads (record { number = x; phis = ps; instructions = is; terminal = z }) _ (worse_terminal z (each (tell_instruction b) is (each (tell_phi b) ps u)) v))))
        (λ ps s. then_reads (counted_from most_count (asking.instruction b n m) (tell_instruction b) (each (tell_phi b) ps u)) _ _
        (λ is. then_reads (asking.terminal b n m (each (tell_instruction b) is (each (tell_phi b) ps u))) _ _
        (λ z. pure_reads (record { number = x; phis = ps; instructions = is; terminal = z }) _ (worse_terminal z (each (tell_instruction b) is (each (tell_phi b) ps u)) (worse_instructions is (each (tell_phi b) ps u) s)))))

    worse_block : (k : Block) (u : b.Tally) → Bad u → Bad (tell_block b k u)
    unfolding tell_block
    worse_block k u s = worse_terminal k.terminal _ (worse_instructions k.instructions _ (worse_phis k.phis u s))

    abbrev first_blocks : ℕ → ℕ → ℕ → Read (List Block)
    first_blocks n m k = numbered_from k [] (asking.block a n m) (tell_block a) a.none

    abbrev second_blocks : ℕ → ℕ → ℕ → Read (List Block)
    second_blocks n m k = numbered_from k [] (asking.block b n m) (tell_block b) b.none

    abbrev first_told : Sheet → a.Tally
    first_told s = each (tell_block a) s.blocks a.none

    abbrev second_told : Sheet → b.Tally
    second_told s = each (tell_block b) s.blocks b.none

    -- with one way to read an inner function
    sections_ahead : (inner : ℕ → Read InnerFunction) → R a.none b.none → Ahead May R Bad first_told second_told (sheet_of inner first_blocks) (sheet_of inner second_blocks)
    sections_ahead inner r =
        then_ahead May R Bad flags _ _ _ _
        (λ fs. then_ahead May R Bad (counted most_identifiers identifier) _ _ _ _
        (λ ids. then_ahead May R Bad (counted most_functions (inner (length ids))) _ _ _ _
        (λ fns. then_ahead May R Bad (counted most_params (place (length ids))) _ _ _ _
        (λ ps. then_ahead May R Bad (counted most_context (place (length ids))) _ _ _ _
        (λ cs. then_ahead May R Bad (fixed returns_count) _ _ _ _
        (λ k. then_ahead May R Bad (place (length ids)) _ _ _ _
        (λ p. then_ahead May R Bad (count most_blocks) _ _ _ _
        (λ j. bind_ahead May R Bad (first_blocks (length ids) (length fns) j) (second_blocks (length ids) (length fns) j) _ _
        (λ (l : List Block). each (tell_block a) l a.none) (λ (l : List Block). each (tell_block b) l b.none) _ _
        (numbered_ahead May R Bad (tell_block a) (tell_block b) worse_block (asking.block a (length ids) (length fns)) (asking.block b (length ids) (length fns)) (block_ahead (length ids) (length fns)) j [] a.none b.none r)
        (λ bs s. pure_ahead May R Bad (record { flags = fs; identifiers = ids; functions = fns; params = ps; context = cs; returns = p; blocks = bs }) _ _ s)
        (λ bs s. pure_reads (record { flags = fs; identifiers = ids; functions = fns; params = ps; context = cs; returns = p; blocks = bs }) _ s)))))))))

    -- a sheet, where both read inner functions alike
    pub sheet_ahead : a.inner ≡ b.inner → R a.none b.none → Ahead May R Bad first_told second_told (asking.sheet a) (asking.sheet b)
    unfolding asking.sheet
    sheet_ahead e r = subst (λ (inner : ℕ → Read InnerFunction). Ahead May R Bad first_told second_told (sheet_of a.inner first_blocks) (sheet_of inner second_blocks)) e (sections_ahead a.inner r)
