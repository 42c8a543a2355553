-- The number that document 01 gives each case of the code's enums, and the definitions' own cases for effect kinds and identifier types.
use Rattle.std.specs.Prelude.{ℕ}
use Rattle.model.specs.Sheet.{IdentifierType as ModelType, other, primitive, jsx, EffectKind as ModelKind, Freeze as IsFreeze, Mutate as IsMutate, MutateConditionally as IsMutateConditionally, MutateTransitive as IsMutateTransitive, MutateTransitiveConditionally as IsMutateTransitiveConditionally, Capture as IsCapture, Alias as IsAlias, MaybeAlias as IsMaybeAlias, Assign as IsAssign, Create as IsCreate, CreateFrom as IsCreateFrom, ImmutableCapture as IsImmutableCapture, Apply as IsApply, CreateFunction as IsCreateFunction, MutateFrozen as IsMutateFrozen, MutateGlobal as IsMutateGlobal, Impure as IsImpure, Render as IsRender}
use Rattle.hir.specs.declared.Effect.{Effect}
use Rattle.hir.specs.declared.Effect.TheVariants.{Unknown as EffectUnknown, Freeze as EffectFreeze, Read as EffectRead, Capture as EffectCapture, ConditionallyMutateIterator as EffectConditionallyMutateIterator, ConditionallyMutate as EffectConditionallyMutate, Mutate as EffectMutate, Store as EffectStore}
use Rattle.hir.specs.declared.EffectKind.{EffectKind}
use Rattle.hir.specs.declared.EffectKind.TheVariants.{Freeze as KindFreeze, Mutate as KindMutate, MutateConditionally as KindMutateConditionally, MutateTransitive as KindMutateTransitive, MutateTransitiveConditionally as KindMutateTransitiveConditionally, Capture as KindCapture, Alias as KindAlias, MaybeAlias as KindMaybeAlias, Assign as KindAssign, Create as KindCreate, CreateFrom as KindCreateFrom, ImmutableCapture as KindImmutableCapture, Apply as KindApply, CreateFunction as KindCreateFunction, MutateFrozen as KindMutateFrozen, MutateGlobal as KindMutateGlobal, Impure as KindImpure, Render as KindRender}
use Rattle.hir.specs.declared.TerminalKind.{TerminalKind}
use Rattle.hir.specs.declared.TerminalKind.TheVariants.{Other as TerminalOther, Return as TerminalReturn, MaybeThrow as TerminalMaybeThrow}
use Rattle.hir.specs.declared.ValueKind.{ValueKind}
use Rattle.hir.specs.declared.ValueKind.TheVariants.{Mutable as ValueMutable, Frozen as ValueFrozen, Primitive as ValuePrimitive, MaybeFrozen as ValueMaybeFrozen, Global as ValueGlobal, Context as ValueContext}
use Rattle.hir.specs.declared.ValueReason.{ValueReason}
use Rattle.hir.specs.declared.ValueReason.TheVariants.{KnownReturnSignature as ReasonKnownReturnSignature, State as ReasonState, ReducerState as ReasonReducerState, Context as ReasonContext, Effect as ReasonEffect, HookCaptured as ReasonHookCaptured, HookReturn as ReasonHookReturn, Global as ReasonGlobal, JsxCaptured as ReasonJsxCaptured, StoreLocal as ReasonStoreLocal, ReactiveFunctionArgument as ReasonReactiveFunctionArgument, Other as ReasonOther}
use Rattle.hir.specs.declared.IdentifierType.{IdentifierType}
use Rattle.hir.specs.declared.IdentifierType.TheVariants.{Other as TypeOther, Primitive as TypePrimitive, Jsx as TypeJsx}

-- "the effect's position in `Effect` counted from 0"
abbrev pub effect_number : Effect → ℕ
effect_number EffectUnknown = 0
effect_number EffectFreeze = 1
effect_number EffectRead = 2
effect_number EffectCapture = 3
effect_number EffectConditionallyMutateIterator = 4
effect_number EffectConditionallyMutate = 5
effect_number EffectMutate = 6
effect_number EffectStore = 7

-- the kind of the same name
abbrev pub kind_says : EffectKind → ModelKind
kind_says KindFreeze = IsFreeze
kind_says KindMutate = IsMutate
kind_says KindMutateConditionally = IsMutateConditionally
kind_says KindMutateTransitive = IsMutateTransitive
kind_says KindMutateTransitiveConditionally = IsMutateTransitiveConditionally
kind_says KindCapture = IsCapture
kind_says KindAlias = IsAlias
kind_says KindMaybeAlias = IsMaybeAlias
kind_says KindAssign = IsAssign
kind_says KindCreate = IsCreate
kind_says KindCreateFrom = IsCreateFrom
kind_says KindImmutableCapture = IsImmutableCapture
kind_says KindApply = IsApply
kind_says KindCreateFunction = IsCreateFunction
kind_says KindMutateFrozen = IsMutateFrozen
kind_says KindMutateGlobal = IsMutateGlobal
kind_says KindImpure = IsImpure
kind_says KindRender = IsRender

-- "Kind is the position in `AliasingEffect`, Freeze 0 to Render 17"
abbrev pub kind_number : EffectKind → ℕ
kind_number KindFreeze = 0
kind_number KindMutate = 1
kind_number KindMutateConditionally = 2
kind_number KindMutateTransitive = 3
kind_number KindMutateTransitiveConditionally = 4
kind_number KindCapture = 5
kind_number KindAlias = 6
kind_number KindMaybeAlias = 7
kind_number KindAssign = 8
kind_number KindCreate = 9
kind_number KindCreateFrom = 10
kind_number KindImmutableCapture = 11
kind_number KindApply = 12
kind_number KindCreateFunction = 13
kind_number KindMutateFrozen = 14
kind_number KindMutateGlobal = 15
kind_number KindImpure = 16
kind_number KindRender = 17

-- "terminal kind (0 other, 1 Return, 2 MaybeThrow)"
abbrev pub terminal_number : TerminalKind → ℕ
terminal_number TerminalOther = 0
terminal_number TerminalReturn = 1
terminal_number TerminalMaybeThrow = 2

-- the value kind in Create's extra word, "6 × reason + value kind": the position in `ValueKind`
abbrev pub value_number : ValueKind → ℕ
value_number ValueMutable = 0
value_number ValueFrozen = 1
value_number ValuePrimitive = 2
value_number ValueMaybeFrozen = 3
value_number ValueGlobal = 4
value_number ValueContext = 5

-- the reason there: the position in `ValueReason`
abbrev pub reason_number : ValueReason → ℕ
reason_number ReasonKnownReturnSignature = 0
reason_number ReasonState = 1
reason_number ReasonReducerState = 2
reason_number ReasonContext = 3
reason_number ReasonEffect = 4
reason_number ReasonHookCaptured = 5
reason_number ReasonHookReturn = 6
reason_number ReasonGlobal = 7
reason_number ReasonJsxCaptured = 8
reason_number ReasonStoreLocal = 9
reason_number ReasonReactiveFunctionArgument = 10
reason_number ReasonOther = 11

-- "type (0 other, 1 primitive, 2 JSX)"
abbrev pub type_says : IdentifierType → ModelType
type_says TypeOther = other
type_says TypePrimitive = primitive
type_says TypeJsx = jsx
