-- A whole sheet judged: the heading, the lists of places, an instruction, the blocks; and the verdict.
use Rattle.std.specs.Prelude.{ℕ, List, length, ltb}
use Rattle.model.specs.Limits.{most_identifiers, most_functions, most_params, most_context, returns_count, most_order, most_lvalues, most_operands}
use Rattle.model.specs.Lists.{each, tally, one_if}
use Rattle.model.specs.Sheet.{Place, BlockId, Block, Sheet}
use Rattle.model.specs.Effects.{is_diagnosis}
use Rattle.model.specs.Reading.{Result, got, refused, Read, ◌>>=◌, pure, fixed, at_most, counted, times_from, numbered_from}
use Rattle.model.specs.Sections.{flags, identifier, inner_function, place, instruction_value}
use Rattle.model.specs.Asking.{tell_block}
use Rattle.model.specs.Totals.{with_role, totals}
use Rattle.model.specs.Call.{applies}
use Rattle.reading.specs.Judging.{map_result, judge, Told, Tally, nothing_yet, counting, instruction_effects, blocks_of}

module _ {A : Type 0} where
  -- a list of which only the length goes on
  unfoldable pub length_of : Read (List A) → Read ℕ
  length_of f ws c = map_result length (f ws c)

  -- a part of which nothing goes on
  abbrev pub skip : A → Unit {0} → Unit {0}
  skip a u = u

  -- k of them
  abbrev pub passing : ℕ → Read A → Read (Unit {0})
  passing k f = judge (times_from k (λ u. f) skip) (each skip) tt

  -- k of them, each after a number that is not among those used
  abbrev pub passing_numbered : ℕ → List BlockId → (BlockId → Read A) → Read (Unit {0})
  passing_numbered k used f = judge (numbered_from k used (λ b u. f b) skip) (each skip) tt

-- how many identifiers and inner functions there are
pub record Heading : Type 0 where
  pub identifiers : ℕ
  pub functions : ℕ

-- "Flags", "Identifiers", "Inner functions"
unfoldable pub heading : Read Heading
heading = do
  fs ← flags
  n ← length_of (counted most_identifiers identifier)
  m ← length_of (counted most_functions (inner_function n))
  pure (record { identifiers = n; functions = m })

-- "Parameters, then context", "Returns, count 1: a place"
unfoldable pub place_lists : ℕ → Read Place
place_lists n = do
  ps ← length_of (counted most_params (place n))
  cs ← length_of (counted most_context (place n))
  k ← fixed returns_count
  place n

-- what stands between an instruction's order and its effects: "its lvalue place; its value lvalues, then its operands; and a value word"
unfoldable pub uses : ℕ → ℕ → Read (Unit {0})
uses n m = do
  p ← place n
  ls ← length_of (counted most_lvalues (place n))
  ps ← length_of (counted most_operands (place n))
  v ← instruction_value n m
  pure tt

-- an instruction, of which only its effects are told
unfoldable pub judged_instruction : ℕ → ℕ → Tally → Read Tally
judged_instruction n m t = do
  o ← at_most most_order
  u ← uses n m
  instruction_effects n m t

-- the sections in their order, with what refusal 8 counts
unfoldable pub judged_sheet : Read Tally
judged_sheet = do
  h ← heading
  r ← place_lists h.identifiers
  judge (blocks_of h.identifiers h.functions) (each (tell_block counting)) nothing_yet

-- a sheet: its blocks
abbrev pub tell_sheet : Sheet → Tally → Tally
tell_sheet s t = each (tell_block counting) s.blocks t

-- how many effects of instructions have a kind from 14 to 16
unfoldable pub diagnoses : Sheet → ℕ
diagnoses s = tally (λ (b : Block). with_role is_diagnosis b.instructions) s.blocks

-- what is told of an accepted sheet: its totals, whether there is a diagnosis, and whether refusal 10 applies
unfoldable pub told : Sheet → Told
told s = record { mutations = (totals s).mutations; renders = (totals s).renders; diagnoses = one_if (ltb 0 (diagnoses s)); applies = one_if (applies s) }

-- what is said of a sheet: a refusal's number, or what is told of it
pub data Judgement : Type 0 where
  refusal : ℕ → Judgement
  acceptance : Told → Judgement

-- what document 01 says of a sheet that was read, or was not
abbrev pub judgement_of : Result Sheet → Judgement
judgement_of (got s c) = acceptance (told s)
judgement_of (refused k) = refusal k
