-- Document 02, order 2, "A class load from a seed": "The generator takes a 32-bit seed, n identifiers (2 to 512) and m effects (1 to 512)."
-- Left out: the words of the sheet, which are the encoder's (Encoder).
use Rattle.std.specs.Prelude.{ℕ, zero, suc, ◌+◌, ◌*◌, ◌-◌, ◌/◌, ◌%◌, Bool, true, false, ◌&&◌, List, [], ◌∷◌, length, get_or, replicate, leb}
use Rattle.std.proofs.Math.Option.{some}
use Rattle.model.specs.Limits.{least_load_identifiers, most_identifiers, least_load_effects, most_load_effects}
use Rattle.model.specs.Lists.{pick}
use Rattle.model.specs.Sheet.{EvaluationOrder, Flags, Identifier, other, Place, plain_place, no_place, EffectKind, Mutate, MutateConditionally, MutateTransitive, MutateTransitiveConditionally, Capture, Alias, MaybeAlias, Assign, CreateFrom, Effect, Plain, Instruction, Other, Block, Sheet}
use Rattle.model.specs.Effects.{row_of}
use Rattle.model.specs.Encoder.{sheet_words}
use Rattle.model.specs.Call.{Outcome, refusal, fits}

-- ---- the draws
-- what a draw gives: the number, and the state for the next draw
pub record Draw : Type 0 where
  pub number : ℕ
  pub state : ℕ

-- "Each draw sets the state to state × 1,664,525 + 1,013,904,223 modulo 2^32"
unfoldable pub next_state : ℕ → ℕ
next_state state = (state * 1664525 + 1013904223) % 4294967296

-- "a draw below k is the state divided by 65,536, modulo k": the state that the draw has set
unfoldable pub draw_below : ℕ → ℕ → Draw
draw_below k state = record { number = next_state state / 65536 % k; state = next_state state }

-- ---- the effects
-- "A kind is drawn below 9 from 1 to 8 and 10 in that order"
abbrev pub load_kinds : List EffectKind
load_kinds = Mutate ∷ MutateConditionally ∷ MutateTransitive ∷ MutateTransitiveConditionally ∷ Capture ∷ Alias ∷ MaybeAlias ∷ Assign ∷ CreateFrom ∷ []

-- the kind of a draw
unfoldable pub load_kind : ℕ → EffectKind
load_kind k = get_or load_kinds k Mutate

-- an effect, and the state after its draws
pub record DrawnEffect : Type 0 where
  pub effect : Effect
  pub state : ℕ

-- an effect of this kind and these places; "All other words are 0"
abbrev pub load_effect : EffectKind → Place → Place → Effect
load_effect k p q = record { kind = k; first = p; second = q; extra = 0 }

-- "then the second's where the kind has two"
unfoldable pub draw_second : Bool → ℕ → EffectKind → Place → ℕ → DrawnEffect
draw_second true n k p state = record { effect = load_effect k p (plain_place (draw_below n state).number); state = (draw_below n state).state }
draw_second false n k p state = record { effect = load_effect k p no_place; state = state }

-- "then the first place's identifier below n"
unfoldable pub draw_places : ℕ → EffectKind → ℕ → DrawnEffect
draw_places n k state = draw_second (leb 2 (row_of k).places) n k (plain_place (draw_below n state).number) (draw_below n state).state

-- one effect: its kind, then its places
unfoldable pub draw_effect : ℕ → ℕ → DrawnEffect
draw_effect n state = draw_places n (load_kind (draw_below (length load_kinds) state).number) (draw_below (length load_kinds) state).state

-- an instruction of one effect; "Generated loads use lvalue place 0, empty lists and value 0" (order 4)
abbrev pub load_instruction : EvaluationOrder → Effect → Instruction
load_instruction o e = record { order = o; lvalue = plain_place 0; value_lvalues = []; operands = []; value = Plain; effects = some (e ∷ []) }

-- "instructions with orders 1 to m of one effect each": as many as are left, from this order on
unfoldable pub load_instructions : ℕ → EvaluationOrder → ℕ → ℕ → List Instruction
load_instructions n o zero state = []
load_instructions n o (suc left) state = load_instruction o (draw_effect n state).effect ∷ load_instructions n (suc o) left (draw_effect n state).state

-- ---- the sheet
-- "block 0 without phis"; "the terminal is kind 0 with order m + 1"
abbrev pub load_block : ℕ → ℕ → ℕ → Block
load_block seed n m = record { number = 0; phis = []; instructions = load_instructions n 1 m seed; terminal = Other (m + 1) [] }

-- "flags 0 and 1"
abbrev pub load_flags : Flags
load_flags = record { function_expression = false; validations = true }

-- "ranges and types 0"
abbrev pub load_identifier : Identifier
load_identifier = record { start = 0; end = 0; type = other }

-- "The sheet has flags 0 and 1, ranges and types 0, no inner functions, parameter 0, no context, returns n − 1, block 0"
unfoldable pub class_load : ℕ → ℕ → ℕ → Sheet
class_load seed n m = record {
  flags = load_flags;
  identifiers = replicate n load_identifier;
  functions = [];
  params = plain_place 0 ∷ [];
  context = [];
  returns = plain_place (n - 1);
  blocks = load_block seed n m ∷ [];
}

-- ---- the call
-- "n identifiers (2 to 512) and m effects (1 to 512)"
unfoldable pub loadable : ℕ → ℕ → Bool
loadable n m = (leb least_load_identifiers n && leb n most_identifiers) && (leb least_load_effects m && leb m most_load_effects)

-- "Checks: 5 for arguments outside those bounds, then 9 for a too short output"; else the sheet's words
unfoldable pub load : ℕ → ℕ → ℕ → ℕ → Outcome
load seed n m room = pick (loadable n m) (fits room (sheet_words (class_load seed n m))) (refusal 5)
