-- What is counted while reading is a sheet's totals.
use Prim.Native.Nat.{ℕ, ◌+◌}
use native.Mathlib.Omega.{arith}
use mathlib.Core.Path.{◌≡◌, refl, ◌∙◌}
use mathlib.Core.Bool.{Bool, true, false}
use mathlib.Core.List.{List, [], ◌∷◌}
use lib.ListN.{length}
use Rattle.model.specs.Lists.{pick, each, tally, one_if}
use Rattle.model.specs.Sheet.{Effect, Operand, Phi, Instruction, list_of, Terminal, Other, Return, MaybeThrow, Block, Sheet}
use Rattle.model.specs.Effects.{Role, relation, mutation, render, diagnosis, nothing, row_of, is_alias, is_relation, is_mutation, is_render}
use Rattle.model.specs.Totals.{with_role, terminal_relations, block_relations, Totals, totals}
use Rattle.model.specs.Asking.{tell_effect, tell_operand, tell_phi, tell_instruction, tell_terminal, tell_block}
use Rattle.model.specs.Counting.{no_totals, with_relation, count_role, count_kind, counting}

abbrev three : ℕ → ℕ → ℕ → Totals
three r m k = record { relations = r; mutations = m; renders = k }

-- totals are added part by part
abbrev add : Totals → Totals → Totals
add a b = three (a.relations + b.relations) (a.mutations + b.mutations) (a.renders + b.renders)

-- so many relation effects
abbrev related : ℕ → Totals
related k = three k 0 0

same-totals : (a b : Totals) → a.relations ≡ b.relations → a.mutations ≡ b.mutations → a.renders ≡ b.renders → a ≡ b
same-totals a b p q r = let z : three a.relations a.mutations a.renders ≡ three b.relations b.mutations b.renders = rw (p, q, r) in z

-- the totals that a part has of its own are those that telling it adds
abbrev Adds : {A : Type 0} → (A → Totals → Totals) → (A → Totals) → Type 0
Adds {A} tell own = (a : A) (t : Totals) → tell a t ≡ add (own a) t

-- the own totals of a list
abbrev sum : {A : Type 0} → (A → Totals) → List A → Totals
sum {A} own l = three (tally (λ (a : A). (own a).relations) l) (tally (λ (a : A). (own a).mutations) l) (tally (λ (a : A). (own a).renders) l)

each_adds : {A : Type 0} (tell : A → Totals → Totals) (own : A → Totals) → Adds tell own → Adds (each tell) (sum own)
each_adds tell own h [] t = same-totals _ _ (omega arith) (omega arith) (omega arith)
each_adds tell own h (a ∷ l) t = rw (h a t) (each_adds tell own h l (add (own a) t) ∙ same-totals _ _ (omega arith) (omega arith) (omega arith))

-- parts that have relation effects only
each_relates : {A : Type 0} (tell : A → Totals → Totals) (own : A → ℕ) → Adds tell (λ (a : A). related (own a)) → Adds (each tell) (λ (l : List A). related (tally own l))
each_relates tell own h [] t = same-totals _ _ (omega arith) (omega arith) (omega arith)
each_relates tell own h (a ∷ l) t = rw (h a t) (each_relates tell own h l (add (related (own a)) t) ∙ same-totals _ _ (omega arith) (omega arith) (omega arith))

-- an effect of an instruction
abbrev own_role : Role → Totals
own_role r = three (one_if (is_relation r)) (one_if (is_mutation r)) (one_if (is_render r))

role_adds : Adds count_role own_role
role_adds relation t = same-totals _ _ (omega arith) (omega arith) (omega arith)
role_adds mutation t = same-totals _ _ (omega arith) (omega arith) (omega arith)
role_adds render t = same-totals _ _ (omega arith) (omega arith) (omega arith)
role_adds diagnosis t = same-totals _ _ (omega arith) (omega arith) (omega arith)
role_adds nothing t = same-totals _ _ (omega arith) (omega arith) (omega arith)

abbrev own_effect : Effect → Totals
own_effect e = own_role (row_of e.kind).role

effect_adds : Adds (tell_effect counting false) own_effect
unfolding count_kind
effect_adds e t = role_adds (row_of e.kind).role t

relation_adds : (t : Totals) → with_relation t ≡ add (related 1) t
relation_adds t = same-totals _ _ (omega arith) (omega arith) (omega arith)

-- an effect of a terminal
alias_adds : Adds (tell_effect counting true) (λ (e : Effect). related (one_if (is_alias e.kind)))
unfolding count_kind
alias_adds e t = go (is_alias e.kind)
  where
    go : (b : Bool) → pick b (with_relation t) t ≡ add (related (one_if b)) t
    go true = relation_adds t
    go false = same-totals _ _ (omega arith) (omega arith) (omega arith)

instruction_adds : Adds (tell_instruction counting) (λ (i : Instruction). sum own_effect (list_of i))
instruction_adds i t = each_adds (tell_effect counting false) own_effect effect_adds (list_of i) t

tally_length : {A : Type 0} (l : List A) → tally (λ (a : A). 1) l ≡ length l
tally_length [] = refl
tally_length (a ∷ l) = omega (arith, tally_length l)

phi_adds : Adds (tell_phi counting) (λ (p : Phi). related (length p.operands))
phi_adds p t = rw (← tally_length p.operands) (each_relates (tell_operand counting) (λ (o : Operand). 1) (λ o u. relation_adds u) p.operands t)

terminal_adds : Adds (tell_terminal counting) (λ (z : Terminal). related (terminal_relations z))
terminal_adds (Other o ps) t = same-totals _ _ (omega arith) (omega arith) (omega arith)
terminal_adds (Return o p l) t =
    each_relates (tell_effect counting true) (λ (e : Effect). one_if (is_alias e.kind)) alias_adds l (with_relation t) ∙ same-totals _ _ (omega arith) (omega arith) (omega arith)
terminal_adds (MaybeThrow o l) t = each_relates (tell_effect counting true) (λ (e : Effect). one_if (is_alias e.kind)) alias_adds l t

-- a block's own totals
abbrev own_block : Block → Totals
own_block b = three (block_relations b) (with_role is_mutation b.instructions) (with_role is_render b.instructions)

block_adds : Adds (tell_block counting) own_block
unfolding tell_block block_relations
block_adds b t =
    let p : ℕ = tally (λ (p : Phi). length p.operands) b.phis in
    let i : Totals = sum (λ (i : Instruction). sum own_effect (list_of i)) b.instructions in
    rw (each_relates (tell_phi counting) (λ (p : Phi). length p.operands) phi_adds b.phis t)
    (rw (each_adds (tell_instruction counting) (λ (i : Instruction). sum own_effect (list_of i)) instruction_adds b.instructions (add (related p) t))
    (terminal_adds b.terminal (add i (add (related p) t)) ∙ same-totals _ _ (omega arith) (omega arith) (omega arith)))

-- so of a sheet
pub sheet_adds : (s : Sheet) → each (tell_block counting) s.blocks no_totals ≡ totals s
unfolding totals
sheet_adds s = each_adds (tell_block counting) own_block block_adds s.blocks no_totals ∙ same-totals _ _ (omega arith) (omega arith) (omega arith)
