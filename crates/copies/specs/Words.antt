-- Document 01, "While building, kinds 14 to 17 are copied to the effects and the diagnostics of 14 to 16 recorded": the words that an effect of an instruction leaves in either section.
use Rattle.std.specs.Prelude.{ℕ, Bool, ◌||◌, List}
use Rattle.model.specs.Lists.{gather, list_if}
use Rattle.model.specs.Sheet.{Effect, Instruction, list_of, Block}
use Rattle.model.specs.Effects.{Role, row_of, is_render, is_diagnosis, diagnostic_of}
use Rattle.model.specs.Answer.{diagnostic_words, effect_words}
use Rattle.copies.specs.declared.effect_lists.Section.{Section}
use Rattle.copies.specs.declared.effect_lists.Section.TheVariants.{Diagnostics, Effects}

-- whether the section takes an effect of this role: kinds 14 to 16 are diagnoses, 17 is the render
abbrev pub takes : Section → Role → Bool
takes Diagnostics r = is_diagnosis r
takes Effects r = is_diagnosis r || is_render r

-- the words that it then takes
abbrev pub taken_words : Section → Effect → List ℕ
taken_words Diagnostics e = diagnostic_words (diagnostic_of e)
taken_words Effects e = effect_words e

-- what the section takes of an effect
unfoldable pub copy_words : Section → Effect → List ℕ
copy_words s e = list_if (takes s (row_of e.kind).role) (taken_words s e)

-- of an instruction
unfoldable pub instruction_words : Section → Instruction → List ℕ
instruction_words s i = gather (copy_words s) (list_of i)

-- of a block
unfoldable pub block_words : Section → Block → List ℕ
block_words s b = gather (instruction_words s) b.instructions
