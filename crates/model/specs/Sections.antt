-- Document 01, "The sheet": how each part stands in words, in the document's order.
use Rattle.std.specs.Prelude.{ℕ, zero, suc, Bool, List, [], ◌∷◌, length, get_or, leb, eqb}
use Rattle.model.specs.Limits.{flag_count, most_flag, most_identifiers, most_range, most_type, most_functions, most_inner_diagnostics, most_inner_context, most_diagnostic, most_params, most_context, returns_count, most_blocks, most_count, most_order, most_lvalues, most_operands, no_operands, most_value, most_terminal, most_traits, most_kind}
use Rattle.model.specs.Lists.{pick}
use Rattle.model.specs.Sheet.{Flags, IdentifierType, other, primitive, jsx, Identifier, Diagnostic, InnerFunction, Place, unused_place, EffectKind, Effect, Operand, Phi, EffectList, InstructionValue, Plain, Function, StoreContext, Instruction, Terminal, Other, Return, MaybeThrow, Block, BlockId, Sheet}
use Rattle.model.specs.Traits.{effect_of, reactive_of}
use Rattle.model.specs.Effects.{kind_of, row_of, is_create_function}
use Rattle.model.specs.Reading.{Read, ◌>>=◌, pure, word, count, fixed, at_most, below, numbered, counted, optional}

-- "each 0 or 1"
unfoldable pub flag : Read Bool
flag = do
  w ← at_most most_flag
  pure (eqb w 1)

-- "Flags, count 2: function expression, validations"
unfoldable pub flags : Read Flags
flags = do
  k ← fixed flag_count
  e ← flag
  v ← flag
  pure (record { function_expression = e; validations = v })

-- 0 other, 1 primitive, 2 JSX
abbrev pub type_of : ℕ → IdentifierType
type_of t = get_or (other ∷ primitive ∷ jsx ∷ []) t other

-- "range start, range end (each at most 1,000,000), type"
unfoldable pub identifier : Read Identifier
identifier = do
  s ← at_most most_range
  e ← at_most most_range
  t ← at_most most_type
  pure (record { start = s; end = e; type = type_of t })

-- "pairs, identity first", "each at most 65,535"
unfoldable pub diagnostic : Read Diagnostic
diagnostic = do
  i ← at_most most_diagnostic
  k ← at_most most_diagnostic
  pure (record { identity = i; instance = k })

-- ---- Parts with words that refusal 8 counts: the kind of an effect, the first word of a phi operand and of a Return value. After such a word's own
-- checks a question can stand (document 02, order 7). A part by its plain name asks nothing; Asking has the same parts with questions.
-- no question
abbrev pub no_question : Read (Unit {0})
no_question = pure tt

-- "identifier (below N); traits; span"
abbrev pub place_asking : Read (Unit {0}) → ℕ → Read Place
place_asking ask n = do
  i ← below n
  u ← ask
  t ← at_most most_traits
  s ← word
  pure (record { identifier = i; effect = effect_of t; reactive = reactive_of t; span = s })

-- the place, with no question
unfoldable pub place : ℕ → Read Place
place n = place_asking no_question n

-- "a count (at most 64)", then that many pairs; "after its diagnostics, a count of context places (at most 64) and those places"
unfoldable pub inner_function : ℕ → Read InnerFunction
inner_function n = do
  l ← counted most_inner_diagnostics diagnostic
  cs ← counted most_inner_context (place n)
  pure (record { diagnostics = l; context = cs })

-- "unused places are 0", but for an instance as the first word
unfoldable pub unused : ℕ → Read Place
unused instance = do
  i ← at_most instance
  t ← at_most 0
  s ← at_most 0
  pure (unused_place i)

-- the extra word: for CreateFunction an inner function "below their count", else "at most" what the table says
unfoldable pub extra : ℕ → EffectKind → Read ℕ
extra m k = pick (is_create_function k) (below m) (at_most (row_of k).extra)

-- an effect of this kind after its kind: "first place, second place, extra"
abbrev pub effect_after : ℕ → ℕ → EffectKind → Read Effect
effect_after n m k = do
  p ← pick (leb 1 (row_of k).places) (place n) (unused 0)
  q ← pick (leb 2 (row_of k).places) (place n) (unused (row_of k).instance)
  x ← extra m k
  pure (record { kind = k; first = p; second = q; extra = x })

-- "An effect is eight words: kind, first place, second place, extra"
abbrev pub effect_asking : (EffectKind → Read (Unit {0})) → ℕ → ℕ → Read Effect
effect_asking ask n m = do
  w ← at_most most_kind
  u ← ask (kind_of w)
  effect_after n m (kind_of w)

-- the effect, over n identifiers and m inner functions
unfoldable pub effect : ℕ → ℕ → Read Effect
effect n m = effect_asking (λ k. no_question) n m

-- "an effect count and the effects"
unfoldable pub effects : ℕ → ℕ → Read EffectList
effects n m = counted most_count (effect n m)

-- "for each operand a predecessor's number and a place"
abbrev pub operand_asking : Read (Unit {0}) → ℕ → BlockId → Read Operand
operand_asking ask n b = do
  u ← ask
  p ← place n
  pure (record { predecessor = b; place = p })

-- the operand
unfoldable pub operand : ℕ → BlockId → Read Operand
operand n b = operand_asking no_question n b

-- "each phi a place, an operand count, and the operands"
abbrev pub phi_of : (ℕ → Read (List Operand)) → ℕ → Read Phi
phi_of operands n = do
  p ← place n
  k ← count most_count
  l ← operands k
  pure (record { place = p; operands = l })

-- the phi: no predecessor is named twice
unfoldable pub phi : ℕ → Read Phi
phi n = phi_of (λ k. numbered k [] (operand n)) n

-- by the value word: "0 plain, 1 then an inner function number, 2 then the identifier that StoreContext stores"
abbrev pub value_by : ℕ → ℕ → ℕ → Read InstructionValue
value_by n m zero = pure Plain
value_by n m (suc zero) = do
  k ← below m
  pure (Function k)
value_by n m (suc (suc w)) = do
  x ← below n
  pure (StoreContext x)

-- "and a value word"
unfoldable pub instruction_value : ℕ → ℕ → Read InstructionValue
instruction_value n m = do
  w ← at_most most_value
  value_by n m w

-- "each an order, an effect count and the effects"; after the order "its lvalue place; its value lvalues, then its operands; and a value word"
abbrev pub instruction_of : ℕ → ℕ → Read EffectList → Read Instruction
instruction_of n m effects = do
  o ← at_most most_order
  p ← place n
  ls ← counted most_lvalues (place n)
  ps ← counted most_operands (place n)
  v ← instruction_value n m
  l ← optional effects
  pure (record { order = o; lvalue = p; value_lvalues = ls; operands = ps; value = v; effects = l })

-- the instruction
unfoldable pub instruction : ℕ → ℕ → Read Instruction
instruction n m = instruction_of n m (effects n m)

-- "for 1 a place; for 1 and 2 an effect count and effects"; at its end "its operands; for Return and MaybeThrow that count is 0"
abbrev pub terminal_by : ℕ → Read Place → Read EffectList → Read EffectList → ℕ → ℕ → Read Terminal
terminal_by n value returned thrown zero o = do
  ps ← counted most_operands (place n)
  pure (Other o ps)
terminal_by n value returned thrown (suc zero) o = do
  p ← value
  l ← returned
  k ← fixed no_operands
  pure (Return o p l)
terminal_by n value returned thrown (suc (suc w)) o = do
  l ← thrown
  k ← fixed no_operands
  pure (MaybeThrow o l)

-- the terminal of this kind and order
unfoldable pub terminal_of : ℕ → ℕ → ℕ → ℕ → Read Terminal
terminal_of n m k o = terminal_by n (place n) (effects n m) (effects n m) k o

-- "terminal kind (0 other, 1 Return, 2 MaybeThrow) and order"
abbrev pub terminal_after : (ℕ → ℕ → Read Terminal) → Read Terminal
terminal_after rest = do
  k ← at_most most_terminal
  o ← at_most most_order
  rest k o

-- the terminal
unfoldable pub terminal : ℕ → ℕ → Read Terminal
terminal n m = terminal_after (terminal_of n m)

-- a block after its number: "phi count, phis; instruction count, instructions; terminal"
abbrev pub block_of : Read (List Phi) → (List Phi → Read (List Instruction)) → (List Phi → List Instruction → Read Terminal) → BlockId → Read Block
block_of phis instructions terminal b = do
  ps ← phis
  is ← instructions ps
  t ← terminal ps is
  pure (record { number = b; phis = ps; instructions = is; terminal = t })

-- the block
unfoldable pub block : ℕ → ℕ → BlockId → Read Block
block n m b = block_of (counted most_count (phi n)) (λ ps. counted most_count (instruction n m)) (λ ps is. terminal n m) b

-- "Sections in a fixed order, each after its count": an inner function may need N; the blocks need N, the count of inner functions and their own
abbrev pub sheet_of : (ℕ → Read InnerFunction) → (ℕ → ℕ → ℕ → Read (List Block)) → Read Sheet
sheet_of inner blocks = do
  fs ← flags
  ids ← counted most_identifiers identifier
  fns ← counted most_functions (inner (length ids))
  ps ← counted most_params (place (length ids))
  cs ← counted most_context (place (length ids))
  k ← fixed returns_count
  r ← place (length ids)
  b ← count most_blocks
  bs ← blocks (length ids) (length fns) b
  pure (record { flags = fs; identifiers = ids; functions = fns; params = ps; context = cs; returns = r; blocks = bs })

-- the sheet
unfoldable pub sheet : Read Sheet
sheet = sheet_of inner_function (λ n m k. numbered k [] (block n m))
