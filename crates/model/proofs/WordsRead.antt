-- How many words a part takes at least: what was read ends so far behind its start, and not behind the last word. So a sheet has no more indexes than a fourth of its words.
use Prim.Native.Nat.{ℕ, zero, suc, ◌+◌, ◌*◌, ◌-◌, ◌≤◌}
use native.Mathlib.Omega.{arith}
use mathlib.Core.Path.{◌≡◌, refl, ap}
use mathlib.Core.Bool.{Bool, true, false, false≢true}
use mathlib.Core.List.{List, [], ◌∷◌}
use mathlib.Core.Option.{Option, none, some}
use lib.ListN.{length, get_or}
use lib.Dec.{ltb, leb, eqb}
use borrow.Author.Tests.{ltb-true}
use Rattle.model.specs.Limits.{most_identifiers, most_functions, most_params, most_context, most_blocks, most_count, most_order, most_terminal, most_lvalues, most_operands, most_inner_diagnostics, most_inner_context, most_diagnostic, most_range, most_type, most_flag, flag_count, returns_count, no_operands, most_kind, most_traits, most_value, most_block_number}
use Rattle.model.specs.Lists.{pick, tally, one_if, among}
use Rattle.model.specs.Sheet.{BlockId, Place, Effect, EffectList, present, list_of, Operand, Phi, Instruction, Terminal, Other, Return, MaybeThrow, Block, Sheet}
use Rattle.model.specs.Traits.{effect_of, reactive_of}
use Rattle.model.specs.Effects.{Role, relation, mutation, render, diagnosis, nothing, is_relation, is_mutation, is_render, is_alias, is_create_function, kind_of, row_of}
use Rattle.model.specs.Reading.{Position, got, refused, Read, ◌>>=◌, pure, refuse, word, count, fixed, at_most, below, new_number, is_absent, times, numbered, counted, optional}
use Rattle.model.specs.Sections.{no_question, flag, flags, identifier, diagnostic, place, inner_function, unused, extra, effect, effects, operand, phi, instruction_value, value_by, instruction, terminal_of, terminal, block, sheet}
use Rattle.model.specs.Totals.{with_role, aliases_in, terminal_relations, block_relations, totals}
use Rattle.model.proofs.ReadLaws.{is_got}
use Rattle.model.proofs.Got.{bind_got, got_value, got_next, not_both_lem}

-- what is read takes at least so many words, all of them there
abbrev pub Takes : {A : Type 0} → Read A → (A → ℕ) → Type 0
Takes {A} f w = (ws : List ℕ) (c : Position) (a : A) (d : Position) → f ws c ≡ got a d → (c + w a ≤ d) × (c ≤ length ws → d ≤ length ws)

module _ {A : Type 0} where
  -- fewer
  takes_less : (f : Read A) (v w : A → ℕ) → ((a : A) → w a ≤ v a) → Takes f v → Takes f w
  takes_less f v w h t ws c a d e = let k = t ws c a d e in (omega (arith, h a, k.0), k.1)

  pure_takes : (a : A) (w : A → ℕ) → w a ≡ 0 → Takes (pure a) w
  pure_takes a w z ws c b d e = (omega (arith, z, got_next e, ap w (got_value e)), λ l. omega (arith, l, got_next e))

  refuse_takes : (k : ℕ) (w : A → ℕ) → Takes (refuse k) w
  refuse_takes k w ws c a d e = absurd (false≢true (ap is_got e))

  pick_takes : (b : Bool) (f g : Read A) (w : A → ℕ) → Takes f w → Takes g w → Takes (pick b f g) w
  pick_takes true f g w s t = s
  pick_takes false f g w s t = t

module _ {A B : Type 0} where
  -- a part that takes n words, and then the rest
  then_takes : (n : ℕ) (m : Read A) (f : A → Read B) (w : B → ℕ) → Takes m (λ (a : A). n) → ((a : A) → Takes (f a) (λ (b : B). w b - n)) → Takes (m >>= f) w
  then_takes n m f w s t ws c b d e =
      let i = bind_got m f ws c b d e in
      let j = s ws c i.value i.next i.first in
      let k = t i.value ws i.next b d i.second in
      (omega (arith, j.0, k.0), λ l. k.1 (j.1 l))

  -- a part that takes what its value says
  bind_takes : (m : Read A) (f : A → Read B) (v : A → ℕ) (w : B → ℕ) → Takes m v → ((a : A) → Takes (f a) (λ (b : B). w b - v a)) → Takes (m >>= f) w
  bind_takes m f v w s t ws c b d e =
      let i = bind_got m f ws c b d e in
      let j = s ws c i.value i.next i.first in
      let k = t i.value ws i.next b d i.second in
      (omega (arith, j.0, k.0), λ l. k.1 (j.1 l))

-- ---- words
word-takes : Takes word (λ (n : ℕ). 1)
unfolding word
word-takes ws c a d e = go (ltb c (length ws)) refl e
  where
    go : (b : Bool) → ltb c (length ws) ≡ b → pick b (got (get_or ws c 0) (c + 1)) (refused 3) ≡ got a d → (c + 1 ≤ d) × (c ≤ length ws → d ≤ length ws)
    go true h f = (omega (arith, got_next f), λ l. omega (arith, got_next f, ltb-true c (length ws) h))
    go false h f = absurd (not_both_lem f refl)

-- a word with a check
tested_takes : (t : ℕ → Bool) (k : ℕ) → Takes (word >>= λ (w : ℕ). pick (t w) (pure w) (refuse k)) (λ (n : ℕ). 1)
tested_takes t k = then_takes 1 word _ (λ (n : ℕ). 1) word-takes (λ w. pick_takes (t w) _ _ _ (pure_takes w _ refl) (refuse_takes k _))

count-takes : (most : ℕ) → Takes (count most) (λ (n : ℕ). 1)
unfolding count
count-takes most = tested_takes (λ (w : ℕ). leb w most) 4

fixed-takes : (k : ℕ) → Takes (fixed k) (λ (n : ℕ). 1)
unfolding fixed
fixed-takes k = tested_takes (λ (w : ℕ). eqb w k) 4

at_most-takes : (most : ℕ) → Takes (at_most most) (λ (n : ℕ). 1)
unfolding at_most
at_most-takes most = tested_takes (λ (w : ℕ). leb w most) 5

below-takes : (limit : ℕ) → Takes (below limit) (λ (n : ℕ). 1)
unfolding below
below-takes limit = tested_takes (λ (w : ℕ). ltb w limit) 5

new_number-takes : (used : List BlockId) → Takes (new_number used) (λ (n : ℕ). 1)
unfolding new_number
new_number-takes used =
    then_takes 1 (at_most most_block_number) _ (λ (n : ℕ). 1) (at_most-takes most_block_number) (λ b. pick_takes (among b used) _ _ _ (refuse_takes 6 _) (pure_takes b _ refl))

-- ---- several parts
module _ {A : Type 0} where
  times_takes : (f : Read A) (w : A → ℕ) → Takes f w → (k : ℕ) → Takes (times k f) (tally w)
  unfolding times
  times_takes f w t zero = pure_takes [] (tally w) refl
  times_takes f w t (suc k) =
      bind_takes f _ w (tally w) t
      (λ a. bind_takes (times k f) _ (tally w) (λ (l : List A). tally w l - w a) (times_takes f w t k) (λ l. pure_takes (a ∷ l) _ (omega arith)))

  counted_takes : (most : ℕ) (f : Read A) (w : A → ℕ) → Takes f w → Takes (counted most f) (tally w)
  unfolding counted
  counted_takes most f w t = then_takes 0 (count most) _ (tally w) (takes_less (count most) _ _ (λ n. omega arith) (count-takes most)) (λ k. takes_less _ _ _ (λ l. omega arith) (times_takes f w t k))

  -- each after its number
  numbered_takes : (f : BlockId → Read A) (w : A → ℕ) → ((b : BlockId) → Takes (f b) w) → (k : ℕ) (used : List BlockId) → Takes (numbered k used f) (tally (λ (a : A). 1 + w a))
  unfolding numbered
  numbered_takes f w t zero used = pure_takes [] (tally (λ (a : A). 1 + w a)) refl
  numbered_takes f w t (suc k) used =
      then_takes 1 (new_number used) _ _ (new_number-takes used)
      (λ b. bind_takes (f b) _ w _ (t b)
      (λ a. bind_takes (numbered k (b ∷ used) f) _ (tally (λ (a : A). 1 + w a)) _ (numbered_takes f w t k (b ∷ used)) (λ l. pure_takes (a ∷ l) _ (omega arith))))

  weighed : (A → ℕ) → Option A → ℕ
  weighed w none = 0
  weighed w (some a) = w a

  optional_takes : (f : Read A) (w : A → ℕ) → Takes f w → Takes (optional f) (weighed w)
  unfolding optional weighed
  optional_takes f w t ws c a d e = go (is_absent (word ws c)) e
    where
      absent : Takes (word >>= λ (n : ℕ). pure none) (weighed w)
      absent = then_takes 0 word _ (weighed w) (takes_less word _ _ (λ n. omega arith) word-takes) (λ n. pure_takes none _ refl)

      there : Takes (f >>= λ (a : A). pure (some a)) (weighed w)
      there = bind_takes f _ w (weighed w) t (λ b. pure_takes (some b) _ (omega arith))

      go : (b : Bool) → pick b (word >>= λ (n : ℕ). pure none) (f >>= λ (a : A). pure (some a)) ws c ≡ got a d → (c + weighed w a ≤ d) × (c ≤ length ws → d ≤ length ws)
      go true x = absent ws c a d x
      go false x = there ws c a d x

-- any part that takes something takes nothing
abbrev any_words : {A : Type 0} → A → ℕ
any_words a = 0

module _ {A B : Type 0} where
  -- a part of which no words are asked
  past_takes : (m : Read A) (f : A → Read B) (w : B → ℕ) → Takes m any_words → ((a : A) → Takes (f a) w) → Takes (m >>= f) w
  past_takes m f w s t = bind_takes m f any_words w s (λ a. takes_less (f a) w _ (λ b. omega arith) (t a))

one_any : (f : Read ℕ) → Takes f (λ (n : ℕ). 1) → Takes f any_words
one_any f t = takes_less f _ _ (λ n. omega arith) t

asked-nothing : Takes no_question any_words
asked-nothing = pure_takes tt (λ (u : Unit {0}). 0) refl

-- ---- places and effects
place-takes : (n : ℕ) → Takes (place n) (λ (p : Place). 3)
unfolding place
place-takes n =
    then_takes 1 (below n) _ _ (below-takes n)
    (λ i. past_takes no_question _ _ asked-nothing
    (λ u. then_takes 1 (at_most most_traits) _ _ (at_most-takes most_traits)
    (λ t. then_takes 1 word _ _ word-takes (λ s. pure_takes (record { identifier = i; effect = effect_of t; reactive = reactive_of t; span = s }) _ refl))))

unused-takes : (instance : ℕ) → Takes (unused instance) (λ (p : Place). 3)
unfolding unused
unused-takes instance =
    then_takes 1 (at_most instance) _ _ (at_most-takes instance)
    (λ i. then_takes 1 (at_most 0) _ _ (at_most-takes 0)
    (λ t. then_takes 1 (at_most 0) _ _ (at_most-takes 0) (λ s. pure_takes _ _ refl)))

places_any : (most n : ℕ) → Takes (counted most (place n)) any_words
places_any most n = takes_less _ _ _ (λ l. omega arith) (counted_takes most (place n) (λ (p : Place). 3) (place-takes n))

extra_any : (m : ℕ) (k : _) → Takes (extra m k) any_words
unfolding extra
extra_any m k = pick_takes (is_create_function k) _ _ _ (one_any _ (below-takes m)) (one_any _ (at_most-takes (row_of k).extra))

effect-takes : (n m : ℕ) → Takes (effect n m) (λ (e : Effect). 4)
unfolding effect
effect-takes n m =
    then_takes 1 (at_most most_kind) _ _ (at_most-takes most_kind)
    (λ w. past_takes no_question _ _ asked-nothing
    (λ u. then_takes 3 _ _ _ (pick_takes (leb 1 (row_of (kind_of w)).places) _ _ _ (place-takes n) (unused-takes 0))
    (λ p. past_takes _ _ _ (takes_less _ _ _ (λ q. omega arith) (pick_takes (leb 2 (row_of (kind_of w)).places) _ _ _ (place-takes n) (unused-takes (row_of (kind_of w)).instance)))
    (λ q. past_takes _ _ _ (extra_any m (kind_of w)) (λ x. pure_takes (record { kind = kind_of w; first = p; second = q; extra = x }) _ refl)))))

abbrev effects_weight : EffectList → ℕ
effects_weight = tally (λ (e : Effect). 4)

effects-takes : (n m : ℕ) → Takes (effects n m) effects_weight
unfolding effects
effects-takes n m = counted_takes most_count (effect n m) (λ (e : Effect). 4) (effect-takes n m)

-- ---- phis, instructions, terminals
abbrev phi_weight : Phi → ℕ
phi_weight p = tally (λ (o : Operand). 4) p.operands

operand-takes : (n : ℕ) (b : BlockId) → Takes (operand n b) (λ (o : Operand). 3)
unfolding operand
operand-takes n b = past_takes no_question _ _ asked-nothing (λ u. then_takes 3 (place n) _ _ (place-takes n) (λ p. pure_takes (record { predecessor = b; place = p }) _ refl))

phi-takes : (n : ℕ) → Takes (phi n) phi_weight
unfolding phi
phi-takes n =
    past_takes (place n) _ _ (takes_less _ _ _ (λ p. omega arith) (place-takes n))
    (λ p. past_takes (count most_count) _ _ (one_any _ (count-takes most_count))
    (λ k. bind_takes (numbered k [] (operand n)) _ (tally (λ (o : Operand). 4)) _ (numbered_takes (operand n) (λ (o : Operand). 3) (operand-takes n) k []) (λ l. pure_takes (record { place = p; operands = l }) _ (omega arith))))

value_any : (n m : ℕ) → Takes (instruction_value n m) any_words
unfolding instruction_value
value_any n m = past_takes (at_most most_value) _ _ (one_any _ (at_most-takes most_value)) by
  where
    by : (w : ℕ) → Takes (value_by n m w) any_words
    by zero = pure_takes _ _ refl
    by (suc zero) = past_takes (below m) _ _ (one_any _ (below-takes m)) (λ k. pure_takes _ _ refl)
    by (suc (suc w)) = past_takes (below n) _ _ (one_any _ (below-takes n)) (λ x. pure_takes _ _ refl)

abbrev instruction_weight : Instruction → ℕ
instruction_weight i = effects_weight (list_of i)

present_weight : (l : Option EffectList) → effects_weight (present l) ≡ weighed effects_weight l
unfolding weighed
present_weight none = refl
present_weight (some l) = refl

instruction-takes : (n m : ℕ) → Takes (instruction n m) instruction_weight
unfolding instruction
instruction-takes n m =
    past_takes (at_most most_order) _ _ (one_any _ (at_most-takes most_order))
    (λ o. past_takes (place n) _ _ (takes_less _ _ _ (λ p. omega arith) (place-takes n))
    (λ p. past_takes _ _ _ (places_any most_lvalues n)
    (λ ls. past_takes _ _ _ (places_any most_operands n)
    (λ ps. past_takes _ _ _ (value_any n m)
    (λ v. bind_takes (optional (effects n m)) _ (weighed effects_weight) _ (optional_takes (effects n m) effects_weight (effects-takes n m)) (λ l. pure_takes (record { order = o; lvalue = p; value_lvalues = ls; operands = ps; value = v; effects = l }) _ (omega (arith, present_weight l))))))))

abbrev terminal_weight : Terminal → ℕ
terminal_weight (Other o ps) = 0
terminal_weight (Return o p l) = 4 + effects_weight l
terminal_weight (MaybeThrow o l) = effects_weight l

-- after its kind and its order, of which one word is counted
terminal_of-takes : (n m k o : ℕ) → Takes (terminal_of n m k o) (λ (t : Terminal). terminal_weight t - 1)
unfolding terminal_of
terminal_of-takes n m zero o = past_takes _ _ _ (places_any most_operands n) (λ ps. pure_takes _ _ refl)
terminal_of-takes n m (suc zero) o =
    then_takes 3 (place n) _ _ (place-takes n)
    (λ p. bind_takes (effects n m) _ effects_weight _ (effects-takes n m)
    (λ l. past_takes (fixed no_operands) _ _ (one_any _ (fixed-takes no_operands)) (λ k. pure_takes _ _ (omega arith))))
terminal_of-takes n m (suc (suc k)) o =
    bind_takes (effects n m) _ effects_weight _ (effects-takes n m)
    (λ l. past_takes (fixed no_operands) _ _ (one_any _ (fixed-takes no_operands)) (λ k. pure_takes _ _ (omega arith)))

terminal-takes : (n m : ℕ) → Takes (terminal n m) terminal_weight
unfolding terminal
terminal-takes n m =
    then_takes 1 (at_most most_terminal) _ _ (at_most-takes most_terminal) (λ k. past_takes (at_most most_order) _ _ (one_any _ (at_most-takes most_order)) (λ o. terminal_of-takes n m k o))

abbrev pub block_weight : Block → ℕ
block_weight b = tally phi_weight b.phis + (tally instruction_weight b.instructions + terminal_weight b.terminal)

block-takes : (n m : ℕ) (b : BlockId) → Takes (block n m b) block_weight
unfolding block
block-takes n m b =
    bind_takes (counted most_count (phi n)) _ (tally phi_weight) _ (counted_takes most_count (phi n) phi_weight (phi-takes n))
    (λ ps. bind_takes (counted most_count (instruction n m)) _ (tally instruction_weight) _ (counted_takes most_count (instruction n m) instruction_weight (instruction-takes n m))
    (λ is. bind_takes (terminal n m) _ terminal_weight _ (terminal-takes n m) (λ t. pure_takes (record { number = b; phis = ps; instructions = is; terminal = t }) _ (omega arith))))

-- ---- the sheet
flags_any : Takes flags any_words
unfolding flags flag
flags_any =
    past_takes (fixed flag_count) _ _ (one_any _ (fixed-takes flag_count))
    (λ k. past_takes _ _ _ bit (λ e. past_takes _ _ _ bit (λ v. pure_takes _ _ refl)))
  where
    bit : Takes (at_most most_flag >>= λ (w : ℕ). pure (eqb w 1)) any_words
    bit = past_takes (at_most most_flag) _ _ (one_any _ (at_most-takes most_flag)) (λ w. pure_takes _ _ refl)

identifier_any : Takes identifier any_words
unfolding identifier
identifier_any =
    past_takes (at_most most_range) _ _ (one_any _ (at_most-takes most_range))
    (λ s. past_takes (at_most most_range) _ _ (one_any _ (at_most-takes most_range)) (λ e. past_takes (at_most most_type) _ _ (one_any _ (at_most-takes most_type)) (λ t. pure_takes _ _ refl)))

diagnostic_any : Takes diagnostic any_words
unfolding diagnostic
diagnostic_any = past_takes (at_most most_diagnostic) _ _ (one_any _ (at_most-takes most_diagnostic)) (λ i. past_takes (at_most most_diagnostic) _ _ (one_any _ (at_most-takes most_diagnostic)) (λ k. pure_takes _ _ refl))

list_any : {A : Type 0} (most : ℕ) (f : Read A) → Takes f any_words → Takes (counted most f) any_words
list_any most f t = takes_less _ _ _ (λ l. omega arith) (counted_takes most f any_words t)

function_any : (n : ℕ) → Takes (inner_function n) any_words
unfolding inner_function
function_any n = past_takes _ _ _ (list_any most_inner_diagnostics diagnostic diagnostic_any) (λ l. past_takes _ _ _ (places_any most_inner_context n) (λ cs. pure_takes _ _ refl))

pub sheet-takes : Takes sheet (λ (s : Sheet). tally block_weight s.blocks)
unfolding sheet
sheet-takes =
    past_takes flags _ _ flags_any
    (λ fs. past_takes _ _ _ (list_any most_identifiers identifier identifier_any)
    (λ ids. past_takes _ _ _ (list_any most_functions (inner_function (length ids)) (function_any (length ids)))
    (λ fns. past_takes _ _ _ (places_any most_params (length ids))
    (λ ps. past_takes _ _ _ (places_any most_context (length ids))
    (λ cs. past_takes (fixed returns_count) _ _ (one_any _ (fixed-takes returns_count))
    (λ k. past_takes (place (length ids)) _ _ (takes_less _ _ _ (λ p. omega arith) (place-takes (length ids)))
    (λ r. past_takes (count most_blocks) _ _ (one_any _ (count-takes most_blocks))
    (λ j. bind_takes (numbered j [] (block (length ids) (length fns))) _ (tally block_weight) _
    (takes_less _ _ _ (λ l. tally_less l) (numbered_takes (block (length ids) (length fns)) block_weight (block-takes (length ids) (length fns)) j []))
    (λ bs. pure_takes (record { flags = fs; identifiers = ids; functions = fns; params = ps; context = cs; returns = r; blocks = bs }) _ (omega arith))))))))))
  where
    tally_less : (l : List Block) → tally block_weight l ≤ tally (λ (b : Block). 1 + block_weight b) l
    tally_less [] = omega arith
    tally_less (b ∷ l) = omega (arith, tally_less l)

-- ---- indexes
-- an effect of an instruction takes one index at most
role_once : (r : Role) → one_if (is_relation r) + (one_if (is_mutation r) + one_if (is_render r)) ≤ 1
role_once relation = omega arith
role_once mutation = omega arith
role_once render = omega arith
role_once diagnosis = omega arith
role_once nothing = omega arith

abbrev role_in : (Role → Bool) → EffectList → ℕ
role_in f l = tally (λ (e : Effect). one_if (f (row_of e.kind).role)) l

effects_index : (l : EffectList) → 4 * (role_in is_relation l + (role_in is_mutation l + role_in is_render l)) ≤ effects_weight l
effects_index [] = omega arith
effects_index (e ∷ l) = omega (arith, effects_index l, role_once (row_of e.kind).role)

instructions_index : (l : List Instruction) → 4 * (with_role is_relation l + (with_role is_mutation l + with_role is_render l)) ≤ tally instruction_weight l
instructions_index [] = omega arith
instructions_index (i ∷ l) = omega (arith, instructions_index l, effects_index (list_of i))

one_at_most : (b : Bool) → one_if b ≤ 1
one_at_most true = omega arith
one_at_most false = omega arith

aliases_index : (l : EffectList) → 4 * aliases_in l ≤ effects_weight l
aliases_index [] = omega arith
aliases_index (e ∷ l) = omega (arith, aliases_index l, one_at_most (is_alias e.kind))

terminal_index : (t : Terminal) → 4 * terminal_relations t ≤ terminal_weight t
terminal_index (Other o ps) = omega arith
terminal_index (Return o p l) = omega (arith, aliases_index l)
terminal_index (MaybeThrow o l) = aliases_index l

operands_index : (l : List Operand) → 4 * length l ≤ tally (λ (o : Operand). 4) l
operands_index [] = omega arith
operands_index (o ∷ l) = omega (arith, operands_index l)

phis_index : (l : List Phi) → 4 * tally (λ (p : Phi). length p.operands) l ≤ tally phi_weight l
phis_index [] = omega arith
phis_index (p ∷ l) = omega (arith, phis_index l, operands_index p.operands)

abbrev block_indexes : Block → ℕ
block_indexes b = block_relations b + (with_role is_mutation b.instructions + with_role is_render b.instructions)

block_index : (b : Block) → 4 * block_indexes b ≤ block_weight b
unfolding block_relations
block_index b = omega (arith, phis_index b.phis, instructions_index b.instructions, terminal_index b.terminal)

blocks_index : (l : List Block) → 4 * (tally block_relations l + (tally (λ (b : Block). with_role is_mutation b.instructions) l + tally (λ (b : Block). with_role is_render b.instructions) l)) ≤ tally block_weight l
blocks_index [] = omega arith
blocks_index (b ∷ l) = omega (arith, blocks_index l, block_index b)

-- a sheet that is read from words has at most a fourth as many indexes
pub words_index : (ws : List ℕ) (s : Sheet) (c : Position) → sheet ws 0 ≡ got s c → 4 * ((totals s).relations + ((totals s).mutations + (totals s).renders)) ≤ length ws
unfolding totals
words_index ws s c e = let t = sheet-takes ws 0 s c e in omega (arith, t.0, t.1 (omega arith), blocks_index s.blocks)
