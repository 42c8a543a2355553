-- The running totals are document 01's mutations and renders, each stopped one above its limit, and the counts of diagnoses and of Apply, stopped at 1; so without refusal 8 both are one.
use Prim.Native.Nat.{ℕ, zero, suc, ◌+◌, ◌≤◌, ◌<◌}
use native.Mathlib.Omega.{arith}
use mathlib.Core.Path.{◌≡◌, ◌∙◌, refl, sym, ap}
use mathlib.Core.Bool.{Bool, true, false}
use mathlib.Core.List.{List, [], ◌∷◌}
use lib.Dec.{ltb}
use borrow.Author.Tests.{ltb-true, ltb-false, lt-ltb, le-ltb}
use Rattle.model.specs.Lists.{pick, each, tally, one_if}
use Rattle.model.specs.Sheet.{EffectKind, Effect, Instruction, list_of, Terminal, Other, Return, MaybeThrow, Block, Sheet}
use Rattle.model.specs.Effects.{Role, relation, mutation, render, diagnosis, nothing, row_of, is_apply, is_mutation, is_render, is_diagnosis}
use Rattle.model.specs.Totals.{Totals, with_role, totals, over}
use Rattle.model.specs.Asking.{tell_effect, tell_phi, tell_instruction, tell_terminal, tell_block}
use Rattle.model.proofs.Limited.{not-over, over_limit}
use Rattle.reading.specs.Judging.{bump, mutation_stop, render_stop, Told, with_mutation, with_render, with_diagnosis, with_apply, tell_role, tell_kind, no_totals, over_told, Tally, within, standing, nothing_yet, count_kind, counting}
use Rattle.reading.specs.Whole.{tell_sheet, diagnoses, told}
use Rattle.reading.proofs.JudgeLaws.{each_keeps}
use Rattle.reading.proofs.TallyLaws.{standing_within, standing_passed}
use Rattle.reading.proofs.BlockLaws.{phi_keeps}
use Rattle.reading.proofs.EffectTallies.{tally_in}
use Rattle.reading.proofs.ApplyLaws.{if_nothing, apply_role, one_apply, count_applies, applies_counted}

-- a number, stopped
unfoldable up_to : ℕ → ℕ → ℕ
up_to stop n = pick (ltb n stop) n stop

-- totals, each stopped one above its limit, and diagnoses and Apply at 1
unfoldable capped : Told → Told
capped t = record { mutations = up_to mutation_stop t.mutations; renders = up_to render_stop t.renders; diagnoses = up_to 1 t.diagnoses; applies = up_to 1 t.applies }

up_below : (stop n : ℕ) → n < stop → up_to stop n ≡ n
unfolding up_to
up_below stop n h = rw (lt-ltb n stop h)

up_above : (stop n : ℕ) → stop ≤ n → up_to stop n ≡ stop
unfolding up_to
up_above stop n h = rw (le-ltb n stop h)

-- one more, stopped
bump_up : (stop n : ℕ) → bump stop (up_to stop n) ≡ up_to stop (1 + n)
bump_up stop n = go (ltb n stop) refl
  where
    next : (b : Bool) → ltb (n + 1) stop ≡ b → n < stop → n + 1 ≡ up_to stop (1 + n)
    next true e h = let k : n + 1 < stop = ltb-true (n + 1) stop e in rw (up_below stop (1 + n) (omega arith)) (omega arith)
    next false e h = let k : stop ≤ n + 1 = ltb-false (n + 1) stop e in rw (up_above stop (1 + n) (omega arith)) (omega arith)

    go : (b : Bool) → ltb n stop ≡ b → bump stop (up_to stop n) ≡ up_to stop (1 + n)
    go true e =
        let h : n < stop = ltb-true n stop e in
        rw (up_below stop n h, e) (next (ltb (n + 1) stop) refl h)
    go false e =
        let h : stop ≤ n = ltb-false n stop e in
        rw (up_above stop n h, up_above stop (1 + n) (omega arith), le-ltb stop stop (omega arith))

-- a higher number, stopped
up_more : (stop n k : ℕ) → up_to stop n ≤ up_to stop (k + n)
up_more stop n k = go (ltb (k + n) stop) refl (ltb n stop) refl
  where
    go : (b : Bool) → ltb (k + n) stop ≡ b → (d : Bool) → ltb n stop ≡ d → up_to stop n ≤ up_to stop (k + n)
    go true e d f = let h : k + n < stop = ltb-true (k + n) stop e in rw (up_below stop (k + n) h, up_below stop n (omega (arith, h))) (omega arith)
    go false e true f =
        let h : n < stop = ltb-true n stop f in
        rw (up_above stop (k + n) (ltb-false (k + n) stop e), up_below stop n h) (omega (arith, h))
    go false e false f = rw (up_above stop (k + n) (ltb-false (k + n) stop e), up_above stop n (ltb-false n stop f)) (omega arith)

-- totals are added part by part
unfoldable add : Told → Told → Told
add a b = record { mutations = a.mutations + b.mutations; renders = a.renders + b.renders; diagnoses = a.diagnoses + b.diagnoses; applies = a.applies + b.applies }

abbrev four : ℕ → ℕ → ℕ → ℕ → Told
four m d g y = record { mutations = m; renders = d; diagnoses = g; applies = y }

-- equal part by part
same-totals : (a b : Told) → a.mutations ≡ b.mutations → a.renders ≡ b.renders → a.diagnoses ≡ b.diagnoses → a.applies ≡ b.applies → a ≡ b
same-totals a b q r d y =
    let z : four a.mutations a.renders a.diagnoses a.applies ≡ four b.mutations b.renders b.diagnoses b.applies = rw (q, r, d, y) in z

same_capped : (a b : Told) → (a.mutations ≡ b.mutations) × ((a.renders ≡ b.renders) × ((a.diagnoses ≡ b.diagnoses) × (a.applies ≡ b.applies))) → capped a ≡ capped b
same_capped a b e = ap capped (same-totals a b e.0 e.1.0 e.1.1.0 e.1.1.1)

mutation_more : (t : Told) → with_mutation (capped t) ≡ capped (add (four 1 0 0 0) t)
unfolding with_mutation capped add
mutation_more t = same-totals _ _ (bump_up mutation_stop t.mutations) (ap (up_to render_stop) (omega arith)) (ap (up_to 1) (omega arith)) (ap (up_to 1) (omega arith))

render_more : (t : Told) → with_render (capped t) ≡ capped (add (four 0 1 0 0) t)
unfolding with_render capped add
render_more t = same-totals _ _ (ap (up_to mutation_stop) (omega arith)) (bump_up render_stop t.renders) (ap (up_to 1) (omega arith)) (ap (up_to 1) (omega arith))

diagnosis_more : (t : Told) → with_diagnosis (capped t) ≡ capped (add (four 0 0 1 0) t)
unfolding with_diagnosis capped add
diagnosis_more t =
    same-totals _ _ (ap (up_to mutation_stop) (omega arith)) (ap (up_to render_stop) (omega arith)) (sym (up_above 1 (1 + t.diagnoses) (omega arith))) (ap (up_to 1) (omega arith))

apply_more : (t : Told) → with_apply (capped t) ≡ capped (add (four 0 0 0 1) t)
unfolding with_apply capped add
apply_more t =
    same-totals _ _ (ap (up_to mutation_stop) (omega arith)) (ap (up_to render_stop) (omega arith)) (ap (up_to 1) (omega arith)) (sym (up_above 1 (1 + t.applies) (omega arith)))

nothing_more : (t : Told) → capped t ≡ capped (add (four 0 0 0 0) t)
unfolding add
nothing_more t = same_capped _ _ (omega arith)

-- a total that was passed stays so
abbrev limited : Told → Totals
limited t = record { relations = 0; mutations = t.mutations; renders = t.renders }

over_more : (a t : Told) → over_told (capped t) ≡ true → over_told (capped (add a t)) ≡ true
unfolding over_told over capped add
over_more a t o =
    over_limit.stays (limited (capped t)) (limited (capped (add a t)))
    (record { relations = omega arith; mutations = up_more mutation_stop t.mutations a.mutations; renders = up_more render_stop t.renders a.renders }) o

-- the totals that a part has of its own are those that telling it adds
abbrev Adds : {A : Type 0} → (A → Tally → Tally) → (A → Told) → Type 0
Adds {A} tell own = (a : A) (t : Told) → tell a (standing (capped t)) ≡ standing (capped (add (own a) t))

-- the own totals of a list, one after another
abbrev sum : {A : Type 0} → (A → Told) → List A → Told
sum {A} own l =
    four (tally (λ (a : A). (own a).mutations) l) (tally (λ (a : A). (own a).renders) l) (tally (λ (a : A). (own a).diagnoses) l) (tally (λ (a : A). (own a).applies) l)

add_add : (a b t : Told) → capped (add b (add a t)) ≡ capped (add (add a b) t)
unfolding add
add_add a b t = same_capped _ _ (omega arith)

each_adds : {A : Type 0} (tell : A → Tally → Tally) (own : A → Told) → Adds tell own → Adds (each tell) (sum own)
unfolding add
each_adds tell own h [] t = ap standing (nothing_more t)
each_adds tell own h (a ∷ l) t = rw (h a t) (each_adds tell own h l (add (own a) t) ∙ ap standing (add_add (own a) (sum own l) t))

-- an effect of an instruction
abbrev own_role : Role → Bool → Told
own_role r apply = four (one_if (is_mutation r)) (one_if (is_render r)) (one_if (is_diagnosis r)) (one_if apply)

abbrev own_effect : Effect → Told
own_effect e = own_role (row_of e.kind).role (is_apply e.kind)

role_adds : (apply : Bool) (r : Role) (t : Told) → tell_role apply r (capped t) ≡ capped (add (own_role r (if_nothing r apply)) t)
role_adds apply relation t = nothing_more t
role_adds apply mutation t = mutation_more t
role_adds apply render t = render_more t
role_adds apply diagnosis t = diagnosis_more t
role_adds true nothing t = apply_more t
role_adds false nothing t = nothing_more t

kind_adds : (k : EffectKind) (a t : Told) → tell_kind false k (capped t) ≡ capped (add a t) → count_kind false k (standing (capped t)) ≡ standing (capped (add a t))
unfolding count_kind
kind_adds k a t e = go (over_told (capped t)) refl
  where
    go : (b : Bool) → over_told (capped t) ≡ b → count_kind false k (standing (capped t)) ≡ standing (capped (add a t))
    go true o = ap (count_kind false k) (standing_passed (capped t) o) ∙ sym (standing_passed (capped (add a t)) (over_more a t o))
    go false o = ap (count_kind false k) (standing_within (capped t) o) ∙ ap standing e

effect_adds : Adds (tell_effect counting false) own_effect
unfolding tell_kind
effect_adds e t =
    kind_adds e.kind (own_effect e) t
    (role_adds (is_apply e.kind) (row_of e.kind).role t
    ∙ ap (λ (apply : Bool). capped (add (own_role (row_of e.kind).role apply) t)) (apply_role e.kind))

instruction_adds : Adds (tell_instruction counting) (λ (i : Instruction). sum own_effect (list_of i))
instruction_adds i t = each_adds (tell_effect counting false) own_effect effect_adds (list_of i) t

-- an effect of a terminal counts nothing
effect_keeps : (t : Told) (e : Effect) → tell_effect counting true e (standing t) ≡ standing t
unfolding count_kind tell_kind
effect_keeps t e = go (over_told t) refl
  where
    go : (b : Bool) → over_told t ≡ b → count_kind true e.kind (standing t) ≡ standing t
    go true o = ap (count_kind true e.kind) (standing_passed t o) ∙ sym (standing_passed t o)
    go false o = ap (count_kind true e.kind) (standing_within t o)

-- nor does a terminal
terminal_keeps : (z : Terminal) (t : Told) → tell_terminal counting z (standing t) ≡ standing t
terminal_keeps (Other o ps) t = refl
terminal_keeps (Return o p l) t = each_keeps (tell_effect counting true) (standing t) (effect_keeps t) l
terminal_keeps (MaybeThrow o l) t = each_keeps (tell_effect counting true) (standing t) (effect_keeps t) l

-- a block's own totals: those of its instructions
abbrev own_block : Block → Told
own_block b = four (with_role is_mutation b.instructions) (with_role is_render b.instructions) (with_role is_diagnosis b.instructions) (tally_in one_apply b.instructions)

block_adds : Adds (tell_block counting) own_block
unfolding tell_block
block_adds b t =
    let y : Tally = standing (capped t) in
    ap (λ (u : Tally). tell_terminal counting b.terminal (each (tell_instruction counting) b.instructions u)) (each_keeps (tell_phi counting) y (phi_keeps y) b.phis)
    ∙ ap (tell_terminal counting b.terminal) (each_adds (tell_instruction counting) (λ (i : Instruction). sum own_effect (list_of i)) instruction_adds b.instructions t)
    ∙ terminal_keeps b.terminal (capped (add (own_block b) t))

-- before the first block
none_standing : standing (capped no_totals) ≡ nothing_yet
unfolding standing over_told capped up_to
none_standing = refl

add_none : (t : Told) → capped (add t no_totals) ≡ capped t
unfolding add
add_none t = same_capped _ _ (omega arith)

-- the running totals of a sheet
sheet-told : (s : Sheet) → tell_sheet s nothing_yet ≡ standing (capped (four (totals s).mutations (totals s).renders (diagnoses s) (count_applies s)))
unfolding totals diagnoses
sheet-told s =
    ap (each (tell_block counting) s.blocks) (sym none_standing)
    ∙ each_adds (tell_block counting) own_block block_adds s.blocks no_totals
    ∙ ap standing (add_none (sum own_block s.blocks))

-- stopped at 1: whether there is one
up_one : (n : ℕ) → up_to 1 n ≡ one_if (ltb 0 n)
up_one zero = up_below 1 0 (omega arith)
up_one (suc n) = up_above 1 (suc n) (omega arith) ∙ sym (ap one_if (lt-ltb 0 (suc n) (omega arith)))

-- where no total is over its limit, they are the totals
told_capped : (s : Sheet) → over (totals s) ≡ false → capped (four (totals s).mutations (totals s).renders (diagnoses s) (count_applies s)) ≡ told s
unfolding capped told
told_capped s h =
    let k = not-over (totals s) h in
    same-totals _ _ (up_below mutation_stop (totals s).mutations (omega (arith, k.0))) (up_below render_stop (totals s).renders (omega (arith, k.1)))
    (up_one (diagnoses s)) (up_one (count_applies s) ∙ ap one_if (sym (applies_counted s)))

-- and are told of the sheet
pub told-totals : (s : Sheet) → over (totals s) ≡ false → tell_sheet s nothing_yet ≡ within (told s)
unfolding over_told over told
told-totals s h = sheet-told s ∙ ap standing (told_capped s h) ∙ standing_within (told s) h
