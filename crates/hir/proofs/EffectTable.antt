-- The code's table of 18 rows is document 01's, by one test that is computed over all rows.
use Prim.Native.Nat.{ℕ, ◌≤◌, ◌<◌}
use mathlib.Core.Path.{◌≡◌, ◌∙◌, refl, sym, ap}
use mathlib.Core.Bool.{Bool}
use mathlib.Core.List.{List, [], ◌∷◌}
use native.Mathlib.Omega.{arith}
use lib.Dec.{T, eqb, eqb→eq}
use lib.ListN.{get_or, get_or-eq_default}
use Rattle.model.specs.Limits.{most_kind, most_diagnostic}
use Rattle.model.specs.Sheet.{Freeze}
use Rattle.model.specs.Effects.{kinds, kind_of, row_of}
use Rattle.hir.specs.Numbers.{kind_says, kind_number}
use Rattle.hir.specs.Table.{role_says, row_says, table_row}
use Rattle.hir.specs.declared.EffectKind.{EffectKind as Kind}
use Rattle.hir.specs.declared.EffectKind.TheVariants.{Freeze as KindFreeze, Mutate as KindMutate, MutateConditionally as KindMutateConditionally, MutateTransitive as KindMutateTransitive, MutateTransitiveConditionally as KindMutateTransitiveConditionally, Capture as KindCapture, Alias as KindAlias, MaybeAlias as KindMaybeAlias, Assign as KindAssign, Create as KindCreate, CreateFrom as KindCreateFrom, ImmutableCapture as KindImmutableCapture, Apply as KindApply, CreateFunction as KindCreateFunction, MutateFrozen as KindMutateFrozen, MutateGlobal as KindMutateGlobal, Impure as KindImpure, Render as KindRender}
use Rattle.hir.specs.declared.effects.Row.{Row}
use Rattle.hir.specs.declared.effects.Role.{Role}
use Rattle.hir.specs.declared.effects.Role.TheVariants.{Relation, Mutation, Render, Diagnosis, Nothing}
use Rattle.hir.proofs.Table.{at, both, both_left, both_right}
use Rattle.hir.proofs.EffectKinds.{kind_of_number}

abbrev row : Kind → ℕ → ℕ → ℕ → Row
row k p i e = record { kind = k; places = p; instance = i; extra = e }

-- the first row, which also stands for numbers above 17
abbrev pub first : Row
first = row KindFreeze 1 0 11

-- what stands for a row that is not there
abbrev none : Row
none = row KindFreeze 0 0 0

-- the rows as the code has them
abbrev pub rows : List Row
rows =
    row KindFreeze 1 0 11 ∷
    row KindMutate 1 0 1 ∷
    row KindMutateConditionally 1 0 0 ∷
    row KindMutateTransitive 1 0 0 ∷
    row KindMutateTransitiveConditionally 1 0 0 ∷
    row KindCapture 2 0 0 ∷
    row KindAlias 2 0 0 ∷
    row KindMaybeAlias 2 0 0 ∷
    row KindAssign 2 0 0 ∷
    row KindCreate 1 0 71 ∷
    row KindCreateFrom 2 0 0 ∷
    row KindImmutableCapture 2 0 0 ∷
    row KindApply 0 0 0 ∷
    row KindCreateFunction 1 0 63 ∷
    row KindMutateFrozen 1 most_diagnostic most_diagnostic ∷
    row KindMutateGlobal 1 most_diagnostic most_diagnostic ∷
    row KindImpure 1 most_diagnostic most_diagnostic ∷
    row KindRender 1 0 0 ∷ []

-- the row is that of its number
unfoldable right : ℕ → Row → Bool
right k r =
    both (eqb (kind_number r.kind) k) (both (eqb r.places (row_of (kind_of k)).places) (both (eqb r.instance (row_of (kind_of k)).instance) (eqb r.extra (row_of (kind_of k)).extra)))

same : (r : Row) (k : ℕ) → T (right k r) → row_says r ≡ table_row k
unfolding right table_row
same r k t =
    let a : Bool = eqb (kind_number r.kind) k in
    let b : Bool = eqb r.places (row_of (kind_of k)).places in
    let i : Bool = eqb r.instance (row_of (kind_of k)).instance in
    let x : Bool = eqb r.extra (row_of (kind_of k)).extra in
    let d : Bool = both i x in
    let p : kind_number r.kind ≡ k = eqb→eq _ _ (both_left a (both b d) t) in
    let q : r.places ≡ (row_of (kind_of k)).places = eqb→eq _ _ (both_left b d (both_right a (both b d) t)) in
    let n : r.instance ≡ (row_of (kind_of k)).instance = eqb→eq _ _ (both_left i x (both_right b d (both_right a (both b d) t))) in
    let e : r.extra ≡ (row_of (kind_of k)).extra = eqb→eq _ _ (both_right i x (both_right b d (both_right a (both b d) t))) in
    let s : kind_says r.kind ≡ kind_of k = sym (kind_of_number r.kind) ∙ ap kind_of p in
    rw (q, n, e, s)

-- every row of the table
pub row_right : (k : ℕ) → k ≤ most_kind → row_says (get_or rows k none) ≡ table_row k
unfolding right kind_of row_of
row_right k h = same (get_or rows k none) k (at none right rows tt k (omega arith))

-- a number above 17 has the first row, as in the definitions
pub row_beyond : (k : ℕ) → most_kind < k → row_says first ≡ table_row k
unfolding table_row kind_of row_of
row_beyond k h = rw (get_or-eq_default kinds Freeze {n = k} (omega arith))

-- ---- what the kinds are for, as the code has it
abbrev pub roles : List Role
roles =
    Nothing ∷ Mutation ∷ Mutation ∷ Mutation ∷ Mutation ∷ Relation ∷ Relation ∷ Relation ∷ Relation ∷ Nothing ∷ Relation ∷ Nothing ∷ Nothing ∷ Nothing ∷ Diagnosis ∷ Diagnosis ∷ Diagnosis ∷ Render ∷ []

pub role_right : (k : Kind) → role_says (get_or roles (kind_number k) Relation) ≡ (row_of (kind_says k)).role
unfolding row_of
role_right KindFreeze = refl
role_right KindMutate = refl
role_right KindMutateConditionally = refl
role_right KindMutateTransitive = refl
role_right KindMutateTransitiveConditionally = refl
role_right KindCapture = refl
role_right KindAlias = refl
role_right KindMaybeAlias = refl
role_right KindAssign = refl
role_right KindCreate = refl
role_right KindCreateFrom = refl
role_right KindImmutableCapture = refl
role_right KindApply = refl
role_right KindCreateFunction = refl
role_right KindMutateFrozen = refl
role_right KindMutateGlobal = refl
role_right KindImpure = refl
role_right KindRender = refl
