-- What each answer of a reader says: the value as the definitions have it with the next position, or the refusal's number.
use Rattle.std.specs.Prelude.{ℕ, ◌≡◌, Bool, Result, Ok, Err}
use Rattle.model.specs.Lists.{pick}
use Rattle.model.specs.Sheet.{Place as ModelPlace, Effect as ModelEffect, Flags as ModelFlags, Identifier as ModelIdentifier, Diagnostic as ModelDiagnostic, InstructionValue as ModelValue, Plain as IsPlain, Function as IsFunction, StoreContext as IsStoreContext, EvaluationOrder as ModelOrder, BlockId as ModelBlock}
use Rattle.model.specs.Reading.{Result as Got, got, refused, Read, ◌>>=◌, pure, refuse, word}
use Rattle.model.specs.Sections.{place, unused}
use Rattle.hir.specs.Numbers.{effect_number, kind_says, terminal_number, type_says}
use Rattle.hir.specs.Refusals.{refusal_number}
use Rattle.hir.specs.declared.Cursor.{Cursor}
use Rattle.hir.specs.declared.refusal.Refusal.{Refusal}
use Rattle.hir.specs.declared.EvaluationOrder.{EvaluationOrder}
use Rattle.hir.specs.declared.BlockId.{BlockId}
use Rattle.hir.specs.declared.TerminalKind.{TerminalKind}
use Rattle.hir.specs.declared.Place.{Place}
use Rattle.hir.specs.declared.AliasingEffect.{AliasingEffect}
use Rattle.hir.specs.declared.Flags.{Flags}
use Rattle.hir.specs.declared.Identifier.{Identifier}
use Rattle.hir.specs.declared.Diagnostic.{Diagnostic}
use Rattle.hir.specs.declared.InstructionValue.{InstructionValue}
use Rattle.hir.specs.declared.InstructionValue.TheVariants.{Plain, Function, StoreContext}

-- the place as the definitions have it
abbrev pub place_is : Place → ModelPlace
place_is p = record { identifier = p.identifier.0; effect = effect_number p.effect; reactive = p.reactive; span = p.span }

-- the effect
abbrev pub effect_is : AliasingEffect → ModelEffect
effect_is e = record { kind = kind_says e.kind; first = place_is e.first; second = place_is e.second; extra = e.extra }

-- the flags
abbrev pub flags_are : Flags → ModelFlags
flags_are f = record { function_expression = f.function_expression; validations = f.validations }

-- the identifier
abbrev pub identifier_is : Identifier → ModelIdentifier
identifier_is i = record { start = i.mutable_range.start.0; end = i.mutable_range.end.0; type = type_says i.kind }

-- the diagnostic
abbrev pub diagnostic_is : Diagnostic → ModelDiagnostic
diagnostic_is d = record { identity = d.identity; instance = d.instance }

-- an instruction's value
abbrev pub value_is : InstructionValue → ModelValue
value_is Plain = IsPlain
value_is (Function f) = IsFunction f.0
value_is (StoreContext x) = IsStoreContext x.0

-- a part as the definitions have it with the next position, or the refusal's number
abbrev pub says : {T A : Type 0} → (T → A) → Result (T × Cursor) Refusal → Got A
says f (Ok p) = got (f p.0) p.1.at
says f (Err k) = refused (refusal_number k)

-- a word
abbrev pub word_says : Result (ℕ × Cursor) Refusal → Got ℕ
word_says = says (λ w. w)

-- a place
abbrev pub place_says : Result (Place × Cursor) Refusal → Got ModelPlace
place_says = says place_is

-- an effect
abbrev pub effect_says : Result (AliasingEffect × Cursor) Refusal → Got ModelEffect
effect_says = says effect_is

-- an order
abbrev pub order_says : Result (EvaluationOrder × Cursor) Refusal → Got ModelOrder
order_says = says (λ o. o.0)

-- a block's number
abbrev pub block_says : Result (BlockId × Cursor) Refusal → Got ModelBlock
block_says = says (λ b. b.0)

-- an instruction's value
abbrev pub value_says : Result (InstructionValue × Cursor) Refusal → Got ModelValue
value_says = says value_is

-- a terminal's kind, by its number
abbrev pub kind_step_says : Result (TerminalKind × Cursor) Refusal → Got ℕ
kind_step_says = says terminal_number

-- the flags
abbrev pub flags_says : Result (Flags × Cursor) Refusal → Got ModelFlags
flags_says = says flags_are

-- an identifier
abbrev pub identifier_says : Result (Identifier × Cursor) Refusal → Got ModelIdentifier
identifier_says = says identifier_is

-- a diagnostic
abbrev pub diagnostic_says : Result (Diagnostic × Cursor) Refusal → Got ModelDiagnostic
diagnostic_says = says diagnostic_is

-- what the code's test answers is the test
abbrev pub IsTest : (ℕ → Bool → Type 0) → (ℕ → Bool) → Type 0
IsTest post t = (w : ℕ) (b : Bool) → post w b → b ≡ t w

-- a word that passes the test, or this refusal: `count`, `fixed`, `at_most` and `below` of Reading are all this
abbrev pub tested : (ℕ → Bool) → ℕ → Read ℕ
tested t refusal = word >>= λ (w : ℕ). pick (t w) (pure w) (refuse refusal)

-- a place if the effect uses it, else three words 0, but for an instance as the first
abbrev pub place_or_unused : Bool → ℕ → ℕ → Read ModelPlace
place_or_unused used n instance = pick used (place n) (unused instance)
