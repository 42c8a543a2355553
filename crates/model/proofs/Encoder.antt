-- Every sheet within its limits is read back from its words.
use Prim.Native.Nat.{ℕ, ◌+◌, ◌≤◌}
use native.Mathlib.Omega.{arith}
use mathlib.Core.Path.{◌≡◌, refl, sym, ap, subst, ◌∙◌}
use mathlib.Core.Bool.{false}
use mathlib.Core.List.{List, [], ◌∷◌, ◌++◌, append-nil}
use mathlib.Core.Option.{Option}
use lib.ListN.{length}
use borrow.Author.Tests.{le-ltb}
use Rattle.model.specs.Limits.{most_identifiers, most_functions, most_params, most_context, returns_count, most_blocks, most_count, most_order, most_lvalues, most_operands, no_operands, most_value, most_terminal, most_sheet}
use Rattle.model.specs.Lists.{gather, among, Every}
use Rattle.model.specs.Sheet.{EffectList, Operand, Phi, InstructionValue, Plain, Function, StoreContext, Instruction, Terminal, Other, Return, MaybeThrow, BlockId, Block, Sheet}
use Rattle.model.specs.Reading.{got, ◌>>=◌, pure, count, fixed, at_most, below, numbered, counted, optional}
use Rattle.model.specs.Sections.{flags, identifier, inner_function, place, effects, operand, phi, value_by, instruction_value, instruction, terminal_of, terminal, block, sheet}
use Rattle.model.specs.Answer.{place_words, section}
use Rattle.model.specs.Totals.{totals, over}
use Rattle.model.specs.Call.{ended, read, IsSheet}
use Rattle.model.specs.Encoder.{flags_words, identifier_words, function_words, effects_words, listed_words, operand_words, phi_words, value_words, instruction_words, terminal_words, block_rest, block_words, sheet_words, IdentifierFits, FunctionFits, EffectsFit, OperandFits, PhiFits, ValueFits, InstructionFits, TerminalFits, BlockFits, SheetFits}
use Rattle.model.proofs.Everywhere.{every_mem}
use Rattle.model.proofs.CountedSheet.{counted_within}
use Rattle.model.proofs.BackLaws.{Back, pure_back, bind_back, at_most_back, below_back, count_back, fixed_back, counted_back, numbered_back}
use Rattle.model.proofs.EncoderParts.{flags_back, identifier_back, place_back, places_back, last_back, function_back, effects_back, listed_back}

-- ---- blocks
operand_back : (n : ℕ) (o : Operand) → OperandFits n o → Back (operand n o.predecessor) (place_words o.place) o
unfolding operand
operand_back n o h =
    subst (λ (vs : List ℕ). Back (operand n o.predecessor) vs o) (append-nil (place_words o.place))
    (bind_back (place n) _ (place_words o.place) [] o.place o (place_back n o.place h.1) (pure_back o))

-- no number was used before the first
none_used : {A : Type 0} (number : A → BlockId) (l : List A) → Every (λ (a : A). among (number a) [] ≡ false) l
none_used number [] = tt
none_used number (a ∷ l) = (refl, none_used number l)

phi_back : (n : ℕ) (p : Phi) → PhiFits n p → Back (phi n) (phi_words p) p
unfolding phi
phi_back n p h =
    let l : List Operand = p.operands in
    let words : List ℕ = gather operand_words l in
    bind_back (place n) _ (place_words p.place) (length l ∷ words) p.place p (place_back n p.place h.0)
    (bind_back (count most_count) _ (length l ∷ []) words (length l) p (count_back most_count (length l) h.1)
    (subst (λ (vs : List ℕ). Back (numbered (length l) [] (operand n) >>= λ (r : List Operand). pure (record { place = p.place; operands = r })) vs p) (append-nil words)
    (bind_back (numbered (length l) [] (operand n)) _ words [] l p
    (numbered_back (operand n) (λ (o : Operand). o.predecessor) (λ (o : Operand). place_words o.place) l [] (every_mem (OperandFits n) _ l (λ o k f. (f.0, operand_back n o f)) h.2) (none_used (λ (o : Operand). o.predecessor) l) h.3)
    (pure_back p))))

value_back : (n m : ℕ) (v : InstructionValue) → ValueFits n m v → Back (instruction_value n m) (value_words v) v
unfolding instruction_value
value_back n m Plain h = bind_back (at_most most_value) (value_by n m) (0 ∷ []) [] 0 Plain (at_most_back most_value 0 (omega arith)) (pure_back Plain)
value_back n m (Function k) h =
    bind_back (at_most most_value) (value_by n m) (1 ∷ []) (k ∷ []) 1 (Function k) (at_most_back most_value 1 (omega arith)) (last_back (below m) Function (k ∷ []) k (below_back m k h))
value_back n m (StoreContext x) h =
    bind_back (at_most most_value) (value_by n m) (2 ∷ []) (x ∷ []) 2 (StoreContext x) (at_most_back most_value 2 (omega arith)) (last_back (below n) StoreContext (x ∷ []) x (below_back n x h))

instruction_back : (n m : ℕ) (i : Instruction) → InstructionFits n m i → Back (instruction n m) (instruction_words i) i
unfolding instruction
instruction_back n m i h =
    let es : List ℕ = listed_words i.effects in
    let vs : List ℕ = value_words i.value ++ es in
    let ps : List ℕ = section place_words i.operands ++ vs in
    let ls : List ℕ = section place_words i.value_lvalues ++ ps in
    bind_back (at_most most_order) _ (i.order ∷ []) (place_words i.lvalue ++ ls) i.order i (at_most_back most_order i.order h.order)
    (bind_back (place n) _ (place_words i.lvalue) ls i.lvalue i (place_back n i.lvalue h.lvalue)
    (bind_back (counted most_lvalues (place n)) _ (section place_words i.value_lvalues) ps i.value_lvalues i (places_back n most_lvalues i.value_lvalues h.value_lvalues)
    (bind_back (counted most_operands (place n)) _ (section place_words i.operands) vs i.operands i (places_back n most_operands i.operands h.operands)
    (bind_back (instruction_value n m) _ (value_words i.value) es i.value i (value_back n m i.value h.value)
    (last_back (optional (effects n m)) (λ (l : Option EffectList). instruction_by l) es i.effects (listed_back n m i.effects h.effects))))))
  where
    instruction_by : Option EffectList → Instruction
    instruction_by l = record { order = i.order; lvalue = i.lvalue; value_lvalues = i.value_lvalues; operands = i.operands; value = i.value; effects = l }

-- effects, and then no operands
last_effects : {A : Type 0} (n m : ℕ) (l : EffectList) (f : EffectList → A) → EffectsFit n m l
    → Back (effects n m >>= λ (k : EffectList). fixed no_operands >>= λ (z : ℕ). pure (f k)) (effects_words l ++ (no_operands ∷ [])) (f l)
last_effects {A} n m l f h =
    bind_back (effects n m) (λ (k : EffectList). fixed no_operands >>= λ (z : ℕ). pure (f k)) (effects_words l) (no_operands ∷ []) l (f l) (effects_back n m l h)
    (last_back (fixed no_operands) (λ (z : ℕ). f l) (no_operands ∷ []) no_operands (fixed_back no_operands))

terminal_back : (n m : ℕ) (t : Terminal) → TerminalFits n m t → Back (terminal n m) (terminal_words t) t
unfolding terminal terminal_of
terminal_back n m (Other o ps) h =
    bind_back (at_most most_terminal) _ (0 ∷ []) (o ∷ section place_words ps) 0 (Other o ps) (at_most_back most_terminal 0 (omega arith))
    (bind_back (at_most most_order) _ (o ∷ []) (section place_words ps) o (Other o ps) (at_most_back most_order o h.0)
    (last_back (counted most_operands (place n)) (Other o) (section place_words ps) ps (places_back n most_operands ps h.1)))
terminal_back n m (Return o p l) h =
    let es : List ℕ = effects_words l ++ (no_operands ∷ []) in
    bind_back (at_most most_terminal) _ (1 ∷ []) (o ∷ (place_words p ++ es)) 1 (Return o p l) (at_most_back most_terminal 1 (omega arith))
    (bind_back (at_most most_order) _ (o ∷ []) (place_words p ++ es) o (Return o p l) (at_most_back most_order o h.0)
    (bind_back (place n) _ (place_words p) es p (Return o p l) (place_back n p h.1) (last_effects n m l (Return o p) h.2)))
terminal_back n m (MaybeThrow o l) h =
    let es : List ℕ = effects_words l ++ (no_operands ∷ []) in
    bind_back (at_most most_terminal) _ (2 ∷ []) (o ∷ es) 2 (MaybeThrow o l) (at_most_back most_terminal 2 (omega arith))
    (bind_back (at_most most_order) _ (o ∷ []) es o (MaybeThrow o l) (at_most_back most_order o h.0) (last_effects n m l (MaybeThrow o) h.1))

block_back : (n m : ℕ) (b : Block) → BlockFits n m b → Back (block n m b.number) (block_rest b) b
unfolding block
block_back n m b h =
    let ps : List ℕ = section phi_words b.phis in
    let is : List ℕ = section instruction_words b.instructions in
    let t : List ℕ = terminal_words b.terminal in
    bind_back (counted most_count (phi n)) _ ps (is ++ t) b.phis b (counted_back most_count (phi n) phi_words b.phis h.phi_count (every_mem (PhiFits n) _ b.phis (λ p k f. phi_back n p f) h.phis))
    (bind_back (counted most_count (instruction n m)) _ is t b.instructions b
    (counted_back most_count (instruction n m) instruction_words b.instructions h.instruction_count (every_mem (InstructionFits n m) _ b.instructions (λ i k f. instruction_back n m i f) h.instructions))
    (subst (λ (vs : List ℕ). Back (terminal n m >>= λ (x : Terminal). pure (record { number = b.number; phis = b.phis; instructions = b.instructions; terminal = x })) vs b) (append-nil t)
    (bind_back (terminal n m) _ t [] b.terminal b (terminal_back n m b.terminal h.terminal) (pure_back b))))

-- ---- the sheet
abbrev with_blocks : Sheet → List Block → Sheet
with_blocks s l = record { flags = s.flags; identifiers = s.identifiers; functions = s.functions; params = s.params; context = s.context; returns = s.returns; blocks = l }

pub sheet_back : (s : Sheet) → SheetFits s → Back sheet (sheet_words s) s
unfolding sheet sheet_words
sheet_back s h =
    let n : ℕ = length s.identifiers in
    let m : ℕ = length s.functions in
    let bs : List ℕ = gather block_words s.blocks in
    let w₇ : List ℕ = length s.blocks ∷ bs in
    let w₆ : List ℕ = place_words s.returns ++ w₇ in
    let w₅ : List ℕ = returns_count ∷ w₆ in
    let w₄ : List ℕ = section place_words s.context ++ w₅ in
    let w₃ : List ℕ = section place_words s.params ++ w₄ in
    let w₂ : List ℕ = section function_words s.functions ++ w₃ in
    let w₁ : List ℕ = section identifier_words s.identifiers ++ w₂ in
    bind_back flags _ (flags_words s.flags) w₁ s.flags s (flags_back s.flags)
    (bind_back (counted most_identifiers identifier) _ (section identifier_words s.identifiers) w₂ s.identifiers s
    (counted_back most_identifiers identifier identifier_words s.identifiers h.identifier_count (every_mem IdentifierFits _ s.identifiers (λ i k f. identifier_back i f) h.identifiers))
    (bind_back (counted most_functions (inner_function n)) _ (section function_words s.functions) w₃ s.functions s
    (counted_back most_functions (inner_function n) function_words s.functions h.function_count (every_mem (FunctionFits n) _ s.functions (λ f k g. function_back n f g) h.functions))
    (bind_back (counted most_params (place n)) _ (section place_words s.params) w₄ s.params s (places_back n most_params s.params (h.param_count, h.params))
    (bind_back (counted most_context (place n)) _ (section place_words s.context) w₅ s.context s (places_back n most_context s.context (h.context_count, h.context))
    (bind_back (fixed returns_count) _ (returns_count ∷ []) w₆ returns_count s (fixed_back returns_count)
    (bind_back (place n) _ (place_words s.returns) w₇ s.returns s (place_back n s.returns h.returns)
    (bind_back (count most_blocks) _ (length s.blocks ∷ []) bs (length s.blocks) s (count_back most_blocks (length s.blocks) h.block_count)
    (subst (λ (vs : List ℕ). Back (numbered (length s.blocks) [] (block n m) >>= λ (l : List Block). pure (with_blocks s l)) vs s) (append-nil bs)
    (bind_back (numbered (length s.blocks) [] (block n m)) _ bs [] s.blocks s
    (numbered_back (block n m) (λ (b : Block). b.number) block_rest s.blocks [] (every_mem (BlockFits n m) _ s.blocks (λ b k f. (f.number, block_back n m b f)) h.blocks) (none_used (λ (b : Block). b.number) s.blocks) h.numbers)
    (pure_back s))))))))))

-- its words are read as the sheet, to their end
pub reads_back : (s : Sheet) → SheetFits s → sheet (sheet_words s) 0 ≡ got s (length (sheet_words s))
reads_back s h =
    let n : 0 + length (sheet_words s) ≡ length (sheet_words s) = omega arith in
    sheet_back s h (sheet_words s) 0 [] (sym (append-nil (sheet_words s))) ∙ ap (got s) n

-- so a sheet of no more words and no higher totals than a call allows is accepted
pub accepts-words : (s : Sheet) → SheetFits s → length (sheet_words s) ≤ most_sheet → over (totals s) ≡ false → IsSheet (sheet_words s) s
unfolding read ended
accepts-words s h short few =
    let n : ℕ = length (sheet_words s) in
    (n, rw (le-ltb most_sheet n short, counted_within (sheet_words s) 0 s n (reads_back s h) few, le-ltb n n (omega arith)))
