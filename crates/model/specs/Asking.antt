-- The reading of Sections with a question at each counted word, which is asked with the tally of the counted words so far, that one included.
-- Document 02, order 7, asks for the totals there (Counting). Where nothing is asked this is the reading of Sections (proofs/Asked).
use Rattle.std.specs.Prelude.{ℕ, Bool, true, false, []}
use Rattle.model.specs.Limits.{most_count}
use Rattle.model.specs.Lists.{each}
use Rattle.model.specs.Sheet.{InnerFunction, EffectKind, Effect, Operand, Phi, EffectList, Instruction, list_of, Terminal, Other, Return, MaybeThrow, Block, BlockId, Sheet}
use Rattle.model.specs.Reading.{Read, numbered_from, counted_from}
use Rattle.model.specs.Sections.{place_asking, effect_asking, operand_asking, phi_of, instruction_of, terminal_by, terminal_after, block_of, sheet_of}

-- what is counted, what is asked, and how an inner function is read
pub record Asks : Type 1 where
  -- what is counted
  pub Tally : Type 0
  -- before the first block
  pub none : Tally
  -- one more effect of this kind, of a terminal or of an instruction
  pub effect : Bool → EffectKind → Tally → Tally
  -- one more phi operand or Return value
  pub relation : Tally → Tally
  -- the question
  pub ask : Tally → Read (Unit {0})
  -- an inner function, over N identifiers
  pub inner : ℕ → Read InnerFunction

module _ (a : Asks) where
  -- ---- what a part adds to the tally
  -- an effect, by its kind
  abbrev pub tell_effect : Bool → Effect → a.Tally → a.Tally
  tell_effect terminal e t = a.effect terminal e.kind t

  -- a phi operand
  abbrev pub tell_operand : Operand → a.Tally → a.Tally
  tell_operand o t = a.relation t

  -- a phi: its operands
  abbrev pub tell_phi : Phi → a.Tally → a.Tally
  tell_phi p t = each tell_operand p.operands t

  -- an instruction: its effects
  abbrev pub tell_instruction : Instruction → a.Tally → a.Tally
  tell_instruction i t = each (tell_effect false) (list_of i) t

  -- a terminal: the Return value, then its effects
  abbrev pub tell_terminal : Terminal → a.Tally → a.Tally
  tell_terminal (Other o ps) t = t
  tell_terminal (Return o p l) t = each (tell_effect true) l (a.relation t)
  tell_terminal (MaybeThrow o l) t = each (tell_effect true) l t

  -- a block: phis, instructions, terminal
  unfoldable pub tell_block : Block → a.Tally → a.Tally
  tell_block b t = tell_terminal b.terminal (each tell_instruction b.instructions (each tell_phi b.phis t))

  -- ---- the parts that have counted words
  -- an effect: asked after its kind
  unfoldable pub effect : Bool → ℕ → ℕ → a.Tally → Read Effect
  effect terminal n m t = effect_asking (λ k. a.ask (a.effect terminal k t)) n m

  -- an effect list
  unfoldable pub effects : Bool → ℕ → ℕ → a.Tally → Read EffectList
  effects terminal n m t = counted_from most_count (effect terminal n m) (tell_effect terminal) t

  -- an operand: asked after its number
  unfoldable pub operand : ℕ → BlockId → a.Tally → Read Operand
  operand n b t = operand_asking (a.ask (a.relation t)) n b

  -- a phi
  unfoldable pub phi : ℕ → a.Tally → Read Phi
  phi n t = phi_of (λ k. numbered_from k [] (operand n) tell_operand t) n

  -- an instruction
  unfoldable pub instruction : ℕ → ℕ → a.Tally → Read Instruction
  instruction n m t = instruction_of n m (effects false n m t)

  -- a terminal of this kind and order: asked after the first word of a Return value
  unfoldable pub terminal_of : ℕ → ℕ → a.Tally → ℕ → ℕ → Read Terminal
  terminal_of n m t = terminal_by n (place_asking (a.ask (a.relation t)) n) (effects true n m (a.relation t)) (effects true n m t)

  -- a terminal
  unfoldable pub terminal : ℕ → ℕ → a.Tally → Read Terminal
  terminal n m t = terminal_after (terminal_of n m t)

  -- a block
  unfoldable pub block : ℕ → ℕ → BlockId → a.Tally → Read Block
  block n m b t =
      block_of (counted_from most_count (phi n) tell_phi t) (λ ps. counted_from most_count (instruction n m) tell_instruction (each tell_phi ps t))
      (λ ps is. terminal n m (each tell_instruction is (each tell_phi ps t))) b

  -- a sheet
  unfoldable pub sheet : Read Sheet
  sheet = sheet_of a.inner (λ n m k. numbered_from k [] (block n m) tell_block a.none)
