-- The judged sheet is the sheet, told.
use Prim.Native.Nat.{ℕ, suc, ◌+◌, ◌≤◌}
use native.Mathlib.Omega.{arith}
use mathlib.Core.Path.{◌≡◌, refl, sym, ap, subst, ◌∙◌}
use mathlib.Core.Bool.{Bool, true, false}
use mathlib.Core.List.{List, []}
use lib.ListN.{length}
use borrow.Author.Tests.{lt-ltb}
use Rattle.model.specs.Limits.{most_identifiers, most_functions, most_params, most_context, returns_count, most_blocks, most_mutations, most_renders}
use Rattle.model.specs.Lists.{pick, each}
use Rattle.model.specs.Sheet.{EffectKind, Sheet}
use Rattle.model.specs.Effects.{Role, relation, mutation, render, diagnosis, nothing, row_of, is_apply, is_alias}
use Rattle.model.specs.Totals.{Totals, over}
use Rattle.model.specs.Counting.{no_totals as no_model_totals, with_relation, count_role, count_kind as model_kind, counting as model_counting, counted_sheet}
use Rattle.model.specs.Reading.{Position, pure, refuse, count, fixed, counted, numbered_from}
use Rattle.model.specs.Sections.{flags, identifier, inner_function, place}
use Rattle.model.specs.Asking.{block, tell_block, sheet as asked_sheet}
use Rattle.model.proofs.Limited.{not-over, few_not-over}
use Rattle.model.proofs.Ahead.{Comes, same, neither, stopped}
use Rattle.model.proofs.SheetAhead.{Asked, on, off, Related, sheet_ahead}
use Rattle.reading.specs.Judging.{Told, telling, bump, with_mutation, with_render, with_diagnosis, with_apply, tell_role, tell_kind, over_told, Tally, within, passed, standing, nothing_yet, count_kind, counting, blocks_of}
use Rattle.reading.proofs.JudgeLaws.{result_case}
use Rattle.reading.proofs.TallyLaws.{Matches, told_over, standing_within, asked_on, asked_off}
use Rattle.reading.specs.Whole.{length_of, heading, place_lists, judged_sheet, tell_sheet}

asked-judged : (ws : List ℕ) (c : Position) → telling (asked_sheet counting) tell_sheet nothing_yet ws c ≡ judged_sheet ws c
unfolding asked_sheet judged_sheet heading place_lists length_of telling blocks_of
asked-judged ws c =
    result_case (flags ws c)
    (λ fs d1 e1. result_case (counted most_identifiers identifier ws d1)
    (λ ids d2 e2. result_case (counted most_functions (inner_function (length ids)) ws d2)
    (λ inner d3 e3. result_case (counted most_params (place (length ids)) ws d3)
    (λ ps d4 e4. result_case (counted most_context (place (length ids)) ws d4)
    (λ cs d5 e5. result_case (fixed returns_count ws d5)
    (λ k d6 e6. result_case (place (length ids) ws d6)
    (λ r d7 e7. result_case (count most_blocks ws d7)
    (λ b d8 e8. result_case (numbered_from b [] (block counting (length ids) (length inner)) (tell_block counting) nothing_yet ws d8)
    (λ bs d9 e9. rw (e1, e2, e3, e4, e5, e6, e7, e8, e9))
    (λ n e9. rw (e1, e2, e3, e4, e5, e6, e7, e8, e9)))
    (λ n e8. rw (e1, e2, e3, e4, e5, e6, e7, e8)))
    (λ n e7. rw (e1, e2, e3, e4, e5, e6, e7)))
    (λ n e6. rw (e1, e2, e3, e4, e5, e6)))
    (λ n e5. rw (e1, e2, e3, e4, e5)))
    (λ n e4. rw (e1, e2, e3, e4)))
    (λ n e3. rw (e1, e2, e3)))
    (λ n e2. rw (e1, e2)))
    (λ n e1. rw e1)

-- ---- the running totals are those of the definition, as long as none is over its limit
abbrev Same : Tally → Totals → Type 0
Same (within t) u = Matches t u × (over u ≡ false)
Same passed u = ⊥

-- one more, where no total was over its limit
bumped : (most n k : ℕ) → n ≡ k → k ≤ most → bump (most + 1) n ≡ suc k
bumped most n k e h = rw (e, lt-ltb k (most + 1) (omega (arith, h))) (omega arith)

role_same : (apply : Bool) (r : Role) (t : Told) (u : Totals) → Matches t u → over u ≡ false → Matches (tell_role apply r t) (count_role r u)
unfolding with_mutation with_render with_diagnosis with_apply
role_same apply relation t u e o = e
role_same apply mutation t u e o = (bumped most_mutations t.mutations u.mutations e.0 (not-over u o).0, e.1)
role_same apply render t u e o = (e.0, bumped most_renders t.renders u.renders e.1 (not-over u o).1)
role_same apply diagnosis t u e o = e
role_same true nothing t u e o = e
role_same false nothing t u e o = e

kind_same : (terminal : Bool) (k : EffectKind) (t : Told) (u : Totals) → Matches t u → over u ≡ false → Matches (tell_kind terminal k t) (model_kind terminal k u)
unfolding tell_kind model_kind
kind_same false k t u e o = role_same (is_apply k) (row_of k).role t u e o
kind_same true k t u e o = go (is_alias k)
  where
    go : (b : Bool) → Matches t (pick b (with_relation u) u)
    go true = e
    go false = e

asked-same : (t : Told) (u : Totals) → Matches t u → Asked counting model_counting ⊥ Same (λ (u : Totals). ⊥) (standing t) u
asked-same t u e = go (over u) refl
  where
    go : (b : Bool) → over u ≡ b → Asked counting model_counting ⊥ Same (λ (u : Totals). ⊥) (standing t) u
    go true o = off (λ ws c. asked_off t ws c (told_over t u e ∙ o)) (λ ws c. ap (λ (x : Bool). pick x (refuse 8) (pure tt) ws c) o)
    go false o =
        let n : over_told t ≡ false = told_over t u e ∙ o in
        on (λ ws c. asked_on t ws c n) (λ ws c. ap (λ (x : Bool). pick x (refuse 8) (pure tt) ws c) o) (subst (λ (y : Tally). Same y u) (sym (standing_within t n)) (e, o))

effect-same : (terminal : Bool) (k : EffectKind) (t : Tally) (u : Totals) → Same t u → Asked counting model_counting ⊥ Same (λ (u : Totals). ⊥) (count_kind terminal k t) (model_kind terminal k u)
unfolding count_kind
effect-same terminal k (within t) u r = asked-same (tell_kind terminal k t) (model_kind terminal k u) (kind_same terminal k t u r.0 r.1)
effect-same terminal k passed u r = absurd r

-- the definition's question is answered as at the effect before
relation_same : (t : Tally) (u : Totals) → Same t u → Asked counting model_counting ⊥ Same (λ (u : Totals). ⊥) t (with_relation u)
unfolding over
relation_same (within t) u r = on (λ ws c. refl) (λ ws c. ap (λ (x : Bool). pick x (refuse 8) (pure tt) ws c) r.1) r
relation_same passed u r = absurd r

related : Related counting model_counting ⊥ Same (λ (u : Totals). ⊥)
related = record { effect = effect-same; relation = relation_same; worse_effect = λ terminal k u x. x; worse_relation = λ u x. x }

-- so both readings are one
asked_counted : (ws : List ℕ) (c : Position) → asked_sheet counting ws c ≡ counted_sheet ws c
unfolding counted_sheet
asked_counted ws c = go (sheet_ahead counting model_counting ⊥ Same (λ (u : Totals). ⊥) related refl ((refl, refl), few_not-over no_model_totals (omega arith) (omega arith)) ws c)
  where
    first : Sheet → Tally
    first s = each (tell_block counting) s.blocks nothing_yet

    second : Sheet → Totals
    second s = each (tell_block model_counting) s.blocks no_model_totals

    go : Comes ⊥ Same (λ (u : Totals). ⊥) first second (asked_sheet counting ws c) (asked_sheet model_counting ws c) → asked_sheet counting ws c ≡ asked_sheet model_counting ws c
    go (same v d x y r) = x ∙ sym y
    go (neither k x y) = x ∙ sym y
    go (stopped m x l) = absurd m

pub sheet-judged : (ws : List ℕ) (c : Position) → telling counted_sheet tell_sheet nothing_yet ws c ≡ judged_sheet ws c
unfolding telling
sheet-judged ws c = rw (sym (asked_counted ws c)) (asked-judged ws c)
