-- An instruction, step by step: its marks by the ends in the words, the context places that it marks, and the starts and the store that come last.
use Rattle.std.specs.Prelude.{ℕ, ◌≡◌, List, [], ◌++◌, length}
use Rattle.model.specs.Limits.{most_identifiers}
use Rattle.model.specs.Lists.{pick, each}
use Rattle.model.specs.Sheet.{InnerFunction, Place, Instruction as ModelInstruction}
use Rattle.model.specs.Ranges.{InstructionBelow}
use Rattle.model.specs.Marks.{Mark, operand_effects}
use Rattle.model.specs.Operands.{Ranges, start_if, store_value, context_of, context_marked}
use Rattle.hir.specs.Says.{value_is}
use Rattle.hir.specs.declared.at.Instruction.{Instruction}
use Rattle.workspace.specs.Layout.{STARTS, CONTEXTS, PASSED}
use Rattle.workspace.specs.Rows.{Kept}
use Rattle.operands.specs.declared.Section.{Section}
use Rattle.operands.specs.declared.Section.TheVariants.{Phis, Instructions, Terminals}
use Rattle.operands.specs.Ranges.{ranges_of}
use Rattle.operands.specs.Contexts.{contexts_of}
use Rattle.operands.specs.Known.{places_at, effects_in, InstructionKnown}

-- every identifier of the instruction has a word, and an inner function that it makes is one of these
abbrev pub BelowOf : List InnerFunction → ModelInstruction → Type 0
BelowOf fs = InstructionBelow most_identifiers (length fs)

-- what its effects say of identifiers, by the ends as they stand
abbrev pub marks_now : List ℕ → List ℕ → Instruction → List Mark
marks_now sheet ws i = operand_effects (ranges_of ws).ends i.order.0 (effects_in sheet i.effects).what

-- the places, where the section is that of instructions
abbrev pub of_instructions : Section → List Place → List Place
of_instructions Phis l = []
of_instructions Instructions l = l
of_instructions Terminals l = []

-- the context places of the inner function that it makes got their marks
pub record ValueMarked (sheet lists : List ℕ) (i : Instruction) (ws ws' : List ℕ) : Type 0 where
  pub contexts : (fs : List InnerFunction) → InstructionKnown sheet lists ws fs i → contexts_of ws' fs ≡ context_marked (marks_now sheet ws i) (value_is i.value) (contexts_of ws fs)
  pub kept : Kept CONTEXTS PASSED ws ws'

-- the starts of its operands and of those context places, then what it stores
abbrev pub last_ranges : List InnerFunction → List ℕ → Instruction → Ranges → Ranges
last_ranges fs sheet i r =
    store_value i.order.0 (value_is i.value) (each (start_if i.order.0 i.order.0) ((places_at sheet i.operands).what ++ context_of fs (value_is i.value)) r)

-- they were set
pub record AllStarted (sheet lists : List ℕ) (i : Instruction) (ws ws' : List ℕ) : Type 0 where
  pub ranges : (fs : List InnerFunction) → InstructionKnown sheet lists ws fs i → ranges_of ws' ≡ last_ranges fs sheet i (ranges_of ws)
  pub kept : Kept STARTS CONTEXTS ws ws'

-- both, if there is a list of effects
pub record ListedPassed (sheet lists : List ℕ) (i : Instruction) (ws ws' : List ℕ) : Type 0 where
  pub contexts : (fs : List InnerFunction) → InstructionKnown sheet lists ws fs i → contexts_of ws' fs ≡ pick i.listed (context_marked (marks_now sheet ws i) (value_is i.value) (contexts_of ws fs)) (contexts_of ws fs)
  pub ranges : (fs : List InnerFunction) → InstructionKnown sheet lists ws fs i → ranges_of ws' ≡ pick i.listed (last_ranges fs sheet i (ranges_of ws)) (ranges_of ws)
  pub kept : Kept STARTS PASSED ws ws'
